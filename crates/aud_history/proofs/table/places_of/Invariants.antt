use Rattle.std.proofs.Common.{◌≡◌, ◌<◌, ℕ, None, length, nat_eq, slice_index_or}
use Rattle.std.specs.List.{position}
use Rattle.aud_history.proofs.table.places_of.Given as goal

abbrev pub invariant-loop-number : goal.invariant-loop-number
invariant-loop-number g l =
    (length l.places.items ≡ l.number-counter) × ((t : ℕ) → t < l.number-counter → slice_index_or l.places.items t None ≡ position (nat_eq t) l.fn.numbers.keys)
