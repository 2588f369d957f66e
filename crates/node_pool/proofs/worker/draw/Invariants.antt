use Rattle.std.proofs.Common.{◌≡◌, ◌<◌}
use Rattle.crossbeam_deque.specs.Handles.{view, IsPassOf, stealer_deque}
use Rattle.node_pool.proofs.worker.draw.Given as goal

abbrev pub invariant-loop : goal.invariant-loop
invariant-loop g l = IsPassOf (stealer_deque l.taker) l.token × (view l.token ≡ view l.initial.token) × (0 < (view l.token).parts)
