-- Marks in the bits of words.
use Rattle.std.specs.Prelude.{◌≡◌, ◌≢◌, ℕ, zero, suc, ◌/◌, ◌%◌, ◌<◌, ◌≤◌, Bool, true, false, nat_eq, List, [], ◌∷◌, Option, Some, None, length, slice_index_or}
use Rattle.std.specs.Int.{bit_at}

-- the place's bit is set
abbrev pub is_marked : List ℕ → ℕ → Bool
is_marked words place = nat_eq (bit_at (slice_index_or words (place / 64) 0) (place % 64)) 1

-- so many marks from a place on
abbrev pub marks_from : List ℕ → ℕ → ℕ → List Bool
marks_from words place zero = []
marks_from words place (suc count) = is_marked words place ∷ marks_from words (suc place) count

-- so many marks
abbrev pub marks_of : List ℕ → ℕ → List Bool
marks_of words count = marks_from words 0 count

-- one bit of a word is written, and no other changes
abbrev pub IsBitWritten : ℕ → ℕ → ℕ → Bool → Type 0
IsBitWritten old new place mark = (nat_eq (bit_at new place) 1 ≡ mark) × ((i : ℕ) → i < 64 → i ≢ place → bit_at new i ≡ bit_at old i)

-- the first place from one on that is marked, if there is one
abbrev pub IsNextMark : List Bool → ℕ → Option ℕ → Type 0
IsNextMark marks from None = (k : ℕ) → from ≤ k → slice_index_or marks k false ≡ false
IsNextMark marks from (Some n) = (from ≤ n) × (n < length marks) × (slice_index_or marks n false ≡ true) × ((k : ℕ) → from ≤ k → k < n → slice_index_or marks k false ≡ false)

-- the same of the bits of a word
abbrev pub IsNextOfWord : ℕ → ℕ → Option ℕ → Type 0
IsNextOfWord word from None = (i : ℕ) → from ≤ i → i < 64 → bit_at word i ≡ 0
IsNextOfWord word from (Some n) = (from ≤ n) × (n < 64) × (bit_at word n ≡ 1) × ((i : ℕ) → from ≤ i → i < n → bit_at word i ≡ 0)
