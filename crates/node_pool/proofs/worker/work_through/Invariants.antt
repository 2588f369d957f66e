use Rattle.std.proofs.Common.{◌≡◌, false, [], All}
use Rattle.crossbeam_deque.specs.Handles.{view, IsPassOf, stealer_deque}
use Rattle.node_pool.specs.Rule.{tally}
use Rattle.node_pool.proofs.worker.work_through.Given as goal

abbrev pub invariant-loop : goal.invariant-loop
invariant-loop g l =
    IsPassOf (stealer_deque l.taker) l.member.token
    × (view l.member.token ≡ tally 1 false [] l.member.drawn.items false)
    × (l.member.failed ≡ false)
    × All (λ t. g.W.Work.done l.work l.member.seat t) l.member.drawn.items
    × g.W.Work.grows l.work l.initial.member.seat l.member.seat
    × g.W.Work.may_work l.work l.member.seat
    × g.W.Work.fits l.work l.own
