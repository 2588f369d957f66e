use Rattle.std.proofs.Common.{◌≡◌, ◌++◌, ◌≤◌, true, [], vec_capacity}
use Rattle.crossbeam_deque.specs.Handles.{worker_view, worker_flavor}
use Rattle.node_pool.proofs.queue.drain.Given as goal
use Rattle.node_pool.specs.Rule.{all_parts}

abbrev pub invariant-loop : goal.invariant-loop
invariant-loop g l =
    (worker_flavor l.queue ≡ 0)
    × ((worker_view l.queue).parts ≡ all_parts)
    × ((worker_view l.queue).put ≡ (worker_view l.initial.queue).put)
    × ((worker_view l.queue).taken ≡ (worker_view l.initial.queue).taken ++ l.left.items)
    × ((worker_view l.initial.queue).stopped ≡ true → ((worker_view l.queue).stopped ≡ true) × (l.left.items ≡ []))
    × (vec_capacity l.initial.left ≤ vec_capacity l.left)
