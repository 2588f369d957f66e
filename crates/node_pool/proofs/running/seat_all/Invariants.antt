use Rattle.std.proofs.Common.{◌≡◌, ◌-◌, ◌<◌, ◌≤◌, false, length, map, All, vec_len, vec_capacity}
use Rattle.crossbeam_deque.specs.Handles.{SameWorker, worker_view, worker_deque}
use Rattle.node_pool.specs.Workers.{HasParts, IsReady}
use Rattle.node_pool.proofs.running.seat_all.Given as goal
use Rattle.node_pool.specs.Rule.{all_parts}

abbrev pub invariant-loop-seat : goal.invariant-loop-seat
invariant-loop-seat g l =
    SameWorker l.initial.queue l.queue
    × HasParts (all_parts - length l.yielded) (worker_view l.initial.queue) (worker_view l.queue)
    × (0 < length l.yielded → (worker_view l.queue).fresh ≡ false)
    × All (IsReady (worker_deque l.queue)) l.members.items
    × (map (λ h. h.seat) l.members.items ≡ l.yielded)
    × (vec_len l.members ≡ length l.yielded)
    × (vec_capacity l.initial.members ≤ vec_capacity l.members)
