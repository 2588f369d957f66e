use Rattle.std.proofs.Common.{◌≡◌, reverse, vec_len}
use Rattle.aud_object.specs.Logs.{levels}
use Rattle.aud_object.proofs.store.Store.undo.Given as goal

abbrev pub invariant-loop-entry : goal.invariant-loop-entry
invariant-loop-entry g l = levels l.self-inside.states.items (reverse l.self-inside.log.items) ≡ l.fn.self.past

abbrev pub decreases-loop-entry : goal.decreases-loop-entry
decreases-loop-entry g l = vec_len l.self-inside.log
