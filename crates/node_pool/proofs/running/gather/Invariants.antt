use Rattle.std.proofs.Common.{◌≡◌, ◌≤◌, ◌+◌, false, length, map, vec_len, vec_capacity}
use Rattle.crossbeam_deque.specs.Handles.{SameWorker, worker_view}
use Rattle.node_pool.specs.Rule.{tally}
use Rattle.node_pool.specs.Workers.{all_drawn, some_stopped, end_of}
use Rattle.node_pool.proofs.running.gather.Given as goal

abbrev pub invariant-loop-member : goal.invariant-loop-member
invariant-loop-member g l =
    SameWorker l.initial.queue l.queue
    × (l.workers.items ≡ map end_of l.yielded)
    × (vec_len l.workers ≡ length l.yielded)
    × (vec_capacity l.initial.workers ≤ vec_capacity l.workers)
    × (worker_view l.queue ≡ tally ((worker_view l.initial.queue).parts + length l.yielded) false (worker_view l.initial.queue).put (all_drawn l.workers.items) (some_stopped l.workers.items))
