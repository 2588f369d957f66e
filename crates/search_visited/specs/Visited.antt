-- Configurations of refuted prefixes, as words.
use Rattle.std.specs.Prelude.{◌≡◌, ℕ, zero, suc, ◌/◌, ◌%◌, ◌<◌, Bool, true, false, List, [], ◌∷◌, ◌++◌, length, take, drop, Option, Some, None, slice_index_or, slice_set, map, slice_get, MatchOption}
use Rattle.base_bits.specs.Marked.{marks_of, IsBitWritten}

-- which rows were placed after a refuted prefix, and the number of the states there
pub record EntryOf : Type 0 where
  pub placed : List Bool
  pub states : ℕ

-- so many lists of one length, which stand one after the other
abbrev pub chunks : {X : Type 0} → ℕ → List X → ℕ → List (List X)
chunks width items zero = []
chunks width items (suc count) = take width items ∷ chunks width (drop width items) count

-- a configuration by its words, where there are so many rows
abbrev pub entry_of : ℕ → List ℕ → EntryOf
entry_of rows [] = record { placed = marks_of [] rows; states = 0 }
entry_of rows (n ∷ words) = record { placed = marks_of words rows; states = n }

-- the marks with one further, where there is one
abbrev pub with_place : List Bool → Option ℕ → List Bool
with_place marks None = marks
with_place marks (Some place) = slice_set marks place true

-- the words mark what others mark, and the place
abbrev pub WithPlace : List ℕ → List ℕ → ℕ → Type 0
WithPlace others words place =
    (v : ℕ) × ((place / 64 < length others) × IsBitWritten (slice_index_or others (place / 64) 0) v (place % 64) true × (words ≡ slice_set others (place / 64) v))

-- the words are of a configuration with the number, where what others mark is placed, and one further, where there is one
abbrev pub IsConfiguration : List ℕ → ℕ → List ℕ → Option ℕ → Type 0
IsConfiguration words n placed None = words ≡ n ∷ placed
IsConfiguration words n placed (Some place) = (marks : List ℕ) × ((words ≡ n ∷ marks) × WithPlace placed marks place)

-- one came after the others, if it did
abbrev pub IsKeptAs : {X : Type 0} → List X → List X → X → Bool → Type 0
IsKeptAs old new x true = new ≡ old ++ x ∷ []
IsKeptAs old new x false = new ≡ old

-- configurations by their words, where there are as many rows as marks
abbrev pub entries_over : List Bool → List (List ℕ) → List EntryOf
entries_over marks visited = map (entry_of (length marks)) visited

abbrev pub entry : List Bool → ℕ → EntryOf
entry marks n = record { placed = marks; states = n }

-- the element stands at the place, if there is a place
abbrev pub IsPlaceOf : {X : Type 0} → List X → X → Option ℕ → Type 0
IsPlaceOf xs x found = MatchOption found (Unit {0}) (λ k. slice_get xs k ≡ Some x)
