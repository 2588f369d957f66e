use Rattle.std.proofs.Common.{◌≡◌, ◌≤◌, take}
use Rattle.search_model.specs.Queues.{takes}
use Rattle.search_model.proofs.queues.count_takes.Given as goal

abbrev pub invariant-loop-execution : goal.invariant-loop-execution
invariant-loop-execution l = (l.count ≡ takes l.queue (take l.execution-index l.executions)) × (l.count ≤ l.execution-index)
