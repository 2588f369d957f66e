use Rattle.std.proofs.Common.{◌≤◌, length}
use Rattle.aud_object.proofs.store.size_of_all.Given as goal

abbrev pub invariant-loop-state : goal.invariant-loop-state
invariant-loop-state g l = length l.states ≤ l.size
