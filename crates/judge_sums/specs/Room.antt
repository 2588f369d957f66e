-- How far a count is from the ends of its range.
use Rattle.std.specs.Prelude.{◌≡◌, ℕ, ℤ, pos, ◌+ℤ◌, ◌-ℤ◌, ◌≤ℤ◌}
use Rattle.aud_history.specs.Table.{transactions}
use Rattle.aud_kinds.specs.Objects.{greatest, least}
use Rattle.judge_clauses.specs.Clauses.{KnownFactsOf}
use Rattle.judge_sums.specs.declared.bounds.Bounds.{Bounds}
use Rattle.search_model.specs.declared.quantity.Quantity.TheVariants.{Count}
use Rattle.search_model.specs.Quantities.{reach_of}
use Rattle.judge_sums.specs.Sums.{sum_of}

-- the count may go so far to either side without reaching an end of its range
pub record HasRoom (n : ℤ) (s : ℕ) : Type 0 where
  pub low : least ≤ℤ (n -ℤ pos s)
  pub high : (n +ℤ pos s) ≤ℤ greatest

-- as far as all transactions together may take the counter
abbrev pub HasRoomForAll : KnownFactsOf → ℕ → ℤ → Type 0
HasRoomForAll f x n = (s : ℕ) → pos s ≡ sum_of (λ t. pos (reach_of f.history (Count x) t)) (transactions f.history) → HasRoom n s

-- the one has so much more to either side than the other
abbrev pub IsWiderBy : Bounds → Bounds → ℤ → Type 0
IsWiderBy wide bounds s = (wide.low ≡ bounds.low -ℤ s) × (wide.high ≡ bounds.high +ℤ s)
