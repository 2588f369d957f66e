use Rattle.aud_node.specs.Faults.{HasSeats}
use Rattle.aud_node.proofs.seats.missing.Given as goal

abbrev pub invariant-loop-seat : goal.invariant-loop-seat
invariant-loop-seat g l = HasSeats l.number l.seat l.passes
