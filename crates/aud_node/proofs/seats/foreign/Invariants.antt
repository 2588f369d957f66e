use Rattle.aud_node.specs.Faults.{AreAtBefore}
use Rattle.aud_node.proofs.seats.foreign.Given as goal

abbrev pub invariant-loop-index : goal.invariant-loop-index
invariant-loop-index g l = AreAtBefore l.number l.passes l.index
