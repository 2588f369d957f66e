use Rattle.std.proofs.Common.{◌≡◌, drop}
use Rattle.aud_object.specs.Replayed.{executed}
use Rattle.aud_object.proofs.store.Store.run.Given as goal

abbrev pub invariant-loop-x : goal.invariant-loop-x
invariant-loop-x g l = record { past : l.self.past ≡ l.initial.self.past; left : executed l.initial.self.now l.executions ≡ executed l.self.now (drop l.x-index l.executions) }
