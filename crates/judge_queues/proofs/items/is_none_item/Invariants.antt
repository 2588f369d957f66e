use Rattle.std.proofs.Common.{◌≡◌, take}
use Rattle.search_model.specs.Queues.{adds}
use Rattle.judge_queues.specs.Laws.{NoItem}
use Rattle.judge_queues.proofs.items.is_none_item.Given as goal

abbrev pub invariant-loop-execution : goal.invariant-loop-execution
invariant-loop-execution g l =
    (l.number ≡ adds l.candidate.take.object (take l.execution-index l.executions)) × (NoItem l.facts l.clause l.candidate.take l.candidate.adder l.candidate.value l.number l.executions)
