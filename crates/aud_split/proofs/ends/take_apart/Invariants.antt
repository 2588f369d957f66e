use Rattle.std.proofs.Common.{◌≡◌, ◌≤◌, map, length, vec_capacity}
use Rattle.aud_split.specs.Ends.{numbered, failures}
use Rattle.aud_split.proofs.ends.take_apart.Given as goal

abbrev pub invariant-loop-worker : goal.invariant-loop-worker
invariant-loop-worker g l =
    (l.number ≡ length l.yielded)
    × (l.lists.seats.items ≡ map (λ e. e.seat) l.yielded)
    × (l.lists.drawn.items ≡ numbered 0 l.yielded)
    × (l.lists.faults.items ≡ failures 0 l.yielded)
    × (vec_capacity l.initial.lists.seats ≤ vec_capacity l.lists.seats)
    × (vec_capacity l.initial.lists.drawn ≤ vec_capacity l.lists.drawn)
    × (vec_capacity l.initial.lists.faults ≤ vec_capacity l.lists.faults)
