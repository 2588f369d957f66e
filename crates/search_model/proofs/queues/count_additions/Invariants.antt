use Rattle.std.proofs.Common.{◌≡◌, ◌≤◌, take}
use Rattle.search_model.specs.Queues.{adds}
use Rattle.search_model.proofs.queues.count_additions.Given as goal

abbrev pub invariant-loop-execution : goal.invariant-loop-execution
invariant-loop-execution l = (l.count ≡ adds l.queue (take l.execution-index l.executions)) × (l.count ≤ l.execution-index)
