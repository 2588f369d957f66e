use Rattle.std.proofs.Common.{◌≡◌, ◌+◌}
use Rattle.crossbeam_deque.specs.Handles.{SameWorker, worker_view, worker_index}
use Rattle.node_pool.specs.Workers.{HasParts}
use Rattle.node_pool.proofs.queue.add_marks.Given as goal
use Rattle.node_pool.specs.Rule.{all_parts}

abbrev pub invariant-loop-mark : goal.invariant-loop-mark
invariant-loop-mark g l = SameWorker l.initial.queue l.queue × (worker_index l.queue ≡ worker_index l.initial.queue + l._mark) × HasParts all_parts (worker_view l.initial.queue) (worker_view l.queue)
