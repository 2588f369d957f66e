use Rattle.std.proofs.Common.{◌≡◌, inl, inr, ⊎_elim, All, ap, sym, subst, ◌∙◌, length, map, arith, List, vec_len}
use Rattle.std.proofs.lemmas.List.Elements.{All-map}
use Rattle.atomic_blocks.specs.Lent.{RowsId}
use Rattle.crossbeam_deque.specs.Handles.{worker_deque, stealer_deque}
use Rattle.node_pool.specs.declared.worker.WorkerEnd.{WorkerEnd}
use Rattle.node_pool.specs.Workers.{AreWorked, HaveGrown, IsHolding, IsReady, end_of}
use Rattle.node_pool.proofs.Workers.{stopped_or_failed, grown_all, starting_all}
use Rattle.node_pool.proofs.running.run.Goals as goal

pub work_crew-requires-clause-starting : goal.work_crew-requires-clause-starting
work_crew-requires-clause-starting g c =
    let same : stealer_deque c.in-Ok.room.taker ≡ worker_deque c.seat_all.new.queue = c.in-Ok.ensures.taker ∙ sym (c.seat_all.ensures.same.0 ∙ c.add_marks.ensures.same.0 ∙ c.fill.ensures.same.0) in
    let Q : RowsId × g.row.A.Denot → Type 0 = λ q. All (IsReady q) c.seat_all.new.members.items in
    let seats = subst (All (g.W.Work.may_work c.args.work.now)) (sym c.seat_all.ensures.seats) c.requires.may_work in
    λ lifetimes outlive. starting_all (stealer_deque c.in-Ok.room.taker) (g.W.Work.may_work c.args.work.now) c.seat_all.new.members.items (subst Q (sym same) c.seat_all.ensures.ready) seats

pub gather-requires-clause-holding : goal.gather-requires-clause-holding
gather-requires-clause-holding g c =
    let same : stealer_deque c.in-Ok.room.taker ≡ worker_deque c.seat_all.new.queue = c.in-Ok.ensures.taker ∙ sym (c.seat_all.ensures.same.0 ∙ c.add_marks.ensures.same.0 ∙ c.fill.ensures.same.0) in
    let Q : RowsId × g.row.A.Denot → Type 0 = λ q. All (IsHolding q) c.work_crew.new.members.items in
    subst Q same (λ k d lt. (c.work_crew.ensures.done k d lt).0)

pub returns-clause-left : goal.returns-clause-left
returns-clause-left g c = ⊎_elim (λ s. inl (c.drain.ensures.stopped (ap (λ v. v.stopped) c.gather.ensures.whole ∙ s))) (λ a. inr a) (stopped_or_failed c.gather.new.workers.items)

pub returns-clause-worked : goal.returns-clause-worked
returns-clause-worked g c =
    let P : WorkerEnd g.row.T.Denot g.row.S.Denot g.row.A.Denot → Type 0 = λ w. AreWorked (g.W.Work.done c.args.work.now w.seat) w.failed w.drawn.items in
    subst (All P) (sym c.gather.ensures.workers) (All-map P end_of c.work_crew.new.members.items (λ k d lt. (c.work_crew.ensures.done k d lt).1))

pub returns-clause-seats : goal.returns-clause-seats
returns-clause-seats g c =
    let grows = g.W.Work.grows c.args.work.now in
    let old = c.seat_all.new.members.items in
    let new = c.work_crew.new.members.items in
    let n : vec_len c.seat_all.new.members ≡ length old = c.seat_all.new.members.ok.0 in
    let len : length new ≡ length old = let a = c.work_crew.ensures.len in let b = c.work_crew.new.members.ok.0 in omega arith in
    let all = grown_all grows old new len (λ k m lt. c.work_crew.ensures.grows k m (omega arith)) in
    subst (λ (l : List g.row.S.Denot). HaveGrown grows l c.gather.new.workers.items) c.seat_all.ensures.seats
    (subst (λ (l : List (WorkerEnd g.row.T.Denot g.row.S.Denot g.row.A.Denot)). HaveGrown grows (map (λ m. m.seat) old) l) (sym c.gather.ensures.workers) all)
