use Rattle.std.proofs.Common.{◌≡◌, ◌+◌, true, false, [], length}
use Rattle.crossbeam_deque.specs.Handles.{SameWorker, worker_view, worker_index}
use Rattle.node_pool.specs.Rule.{tally, all_parts}
use Rattle.node_pool.proofs.queue.fill.Given as goal

abbrev pub invariant-loop-task : goal.invariant-loop-task
invariant-loop-task g l = SameWorker l.initial.queue l.queue × (worker_index l.queue ≡ worker_index l.initial.queue + length l.yielded) × (worker_view l.queue ≡ tally all_parts true l.yielded [] false)
