-- The lines of a text: each ends at a line feed, and the last may lack it.
use Rattle.std.specs.Prelude.{◌≡◌, ◌==◌, ℕ, suc, ◌+◌, ◌-◌, List, [], ◌∷◌, ◌++◌, length, min, if◌then◌else◌, ◌⊎◌}

abbrev pub put_first : ℕ → List (List ℕ) → List (List ℕ)
put_first x [] = (x ∷ []) ∷ []
put_first x (l ∷ ls) = (x ∷ l) ∷ ls

-- the lines without their line feeds
abbrev pub lines_of : List ℕ → List (List ℕ)
lines_of [] = []
lines_of (x ∷ xs) = if x == 10 then [] ∷ lines_of xs else put_first x (lines_of xs)

-- how many bytes the first line has
abbrev pub line_len : List ℕ → ℕ
line_len [] = 0
line_len (x ∷ xs) = if x == 10 then 0 else suc (line_len xs)

-- a text is its first line, a line feed unless the text ends there, and the rest
pub record Splits (text line rest : List ℕ) : Type 0 where
  pub feed : List ℕ
  pub parts : text ≡ line ++ (feed ++ rest)
  pub is_feed : (feed ≡ 10 ∷ []) ⊎ ((feed ≡ []) × (rest ≡ []))

-- a line that is not empty, its number, and the bytes up to its end, its line feed included
pub record Filled : Type 0 where
  pub number : ℕ
  pub line : List ℕ
  pub ends : ℕ

-- the lines that are not empty, where the first of all these lines has this number and begins after so many bytes
abbrev pub filled_from : ℕ → ℕ → ℕ → List (List ℕ) → List Filled
filled_from all number before [] = []
filled_from all number before ([] ∷ ls) = filled_from all (number + 1) (before + 1) ls
filled_from all number before ((b ∷ bs) ∷ ls) =
    record { number = number; line = b ∷ bs; ends = min (before + length (b ∷ bs) + 1) all } ∷ filled_from all (number + 1) (before + length (b ∷ bs) + 1) ls

-- the same of what is left of a text of so many bytes, from a line of this number on
abbrev pub filled_left : ℕ → ℕ → List ℕ → List Filled
filled_left all number rest = filled_from all number (all - length rest) (lines_of rest)

-- such a line, by what stands after it
abbrev pub filled_at : ℕ → ℕ → List ℕ → List ℕ → Filled
filled_at all number line rest = record { number = number; line = line; ends = all - length rest }

-- the lines of a text that are not empty
abbrev pub filled_lines : List ℕ → List Filled
filled_lines text = filled_left (length text) 1 text
