-- What lies between two numbers, and what is known of a truth.
use Rattle.std.specs.Prelude.{ℤ, ◌≤ℤ◌, Bool, true, not, if◌then◌else◌, Option, Some, None}
use Rattle.judge_sums.specs.declared.bounds.Bounds.{Bounds}

-- it is what is known, if something is
abbrev pub fits : Option Bool → Bool → Bool
fits None b = true
fits (Some c) b = if c then b else not b

-- the number lies between them
abbrev pub IsBetween : Bounds → ℤ → Type 0
IsBetween bounds n = (bounds.low ≤ℤ n) × (n ≤ℤ bounds.high)
