use Rattle.std.proofs.Common.{take}
use Rattle.aud_node.specs.Faults.{IsMissing}
use Rattle.aud_node.proofs.seats.is_there.Given as goal

abbrev pub invariant-loop-pass : goal.invariant-loop-pass
invariant-loop-pass g l = IsMissing l.number l.seat (take l.pass-index l.passes)
