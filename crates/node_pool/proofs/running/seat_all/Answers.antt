use Rattle.std.proofs.Common.{arith, ◌≡◌, ◌++◌, ◌∷◌, [], false, All, length, vec_len, ap, sym, subst, refl, ◌∙◌, map}
use Rattle.std.proofs.lemmas.Iterator.Consumers.{YieldsList-turn}
use Rattle.std.proofs.lemmas.Iterator.Adapters.{YieldsList-from_vec}
use Rattle.std.proofs.lemmas.List.{map-append, length_push}
use Rattle.std.proofs.lemmas.List.Elements.{All-push}
use Rattle.crossbeam_deque.specs.Handles.{worker_deque, IsPassOf}
use Rattle.node_pool.specs.declared.worker.Member.{Member}
use Rattle.node_pool.specs.Workers.{IsReady}
use Rattle.node_pool.proofs.Moves.{forks}
use Rattle.node_pool.proofs.running.seat_all.Goals as goal

pub another-token-requires : goal.another-token-requires
another-token-requires g c =
    let e = c.into_iter-seat-iterator.ensures.into_iter_gives in
    let t = YieldsList-turn (YieldsList-from_vec {s = c.into_iter-seat-iterator.result} _ e.0 (e.1 ∙ c.args.seats.ok.0)) c.loop-seat.yielded c.loop-seat.seat-iterator c.loop-seat.yielded_by c.next.result c.next.new.self c.in-Some.seat c.in-Some.is c.next.ensures.steps in
    forks _ _ (let p = c.loop-seat.invariant.1.0 in let few = c.requires.few in let k : vec_len c.args.seats ≡ length c.args.seats.items = c.args.seats.ok.0 in let s = t.0 in omega arith)

pub loop-seat-preserved : goal.loop-seat-preserved
loop-seat-preserved g c =
    let i = c.loop-seat.invariant in
    let s = c.another-token.ensures.same in
    let r = c.another-token.ensures.rule in
    let member : Member g.row.T.Denot g.row.S.Denot g.row.A.Denot = record { seat = c.in-Some.seat; token = c.another-token.result; drawn = c.new.result; failed = false } in
    let items = c.in-Ok.ensures.items in
    let queue : worker_deque c.another-token.new.self ≡ worker_deque c.loop-seat.queue = s.0.0 in
    let old = subst (λ d. All (IsReady d) c.loop-seat.members.items) (sym queue) i.3 in
    let len = length_push c.loop-seat.yielded c.in-Some.seat in (
      (s.0.0 ∙ i.0.0, s.0.1 ∙ i.0.1, s.0.2 ∙ i.0.2, (let a = s.0.3 in let b = i.0.3 in omega arith)),
      ((let p = ap (λ v. v.parts) r.0 in let q = i.1.0 in omega arith), ap (λ v. v.put) r.0 ∙ i.1.1, ap (λ v. v.taken) r.0 ∙ i.1.2, ap (λ v. v.stopped) r.0 ∙ i.1.3),
      (λ _. ap (λ v. v.fresh) r.0),
      subst (All (IsReady (worker_deque c.another-token.new.self))) (sym items) (All-push (IsReady (worker_deque c.another-token.new.self)) c.loop-seat.members.items member old (subst (λ d. IsPassOf d c.another-token.result) (sym queue) s.2, r.1, c.new.ensures.items, refl)),
      ap (map (λ h. h.seat)) items ∙ map-append (λ h. h.seat) _ _ ∙ ap (λ l. l ++ c.in-Some.seat ∷ []) i.4,
      (let n = c.in-Ok.ensures.len in let m = i.5 in omega arith),
      (let k = c.push.ensures.capacity in let j = i.6 in omega arith),
    )
