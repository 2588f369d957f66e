-- A budget of so many units, or none, which has no end.
use Rattle.std.specs.Prelude.{◌≡◌, ℕ, ◌+◌, Option, Some, None}

-- one less, where there is a count
abbrev pub IsOneLess : Option ℕ → Option ℕ → Type 0
IsOneLess None None = Unit {0}
IsOneLess (Some a) (Some b) = a ≡ b + 1
IsOneLess None (Some b) = ⊥
IsOneLess (Some a) None = ⊥
