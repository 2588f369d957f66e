use Rattle.std.proofs.Common.{arith, ap, sym, ◌∙◌, ◌+◌, ◌++◌, ◌∷◌, [], ◌≡◌, length, false, subst}
use Rattle.std.proofs.lemmas.Iterator.Consumers.{YieldsList-turn}
use Rattle.std.proofs.lemmas.Iterator.Adapters.{YieldsList-from_vec}
use Rattle.std.proofs.lemmas.List.{map-append, length_push}
use Rattle.crossbeam_deque.specs.Handles.{worker_view, worker_deque, view}
use Rattle.node_pool.specs.declared.worker.Member.{Member}
use Rattle.node_pool.specs.Rule.{tally}
use Rattle.node_pool.specs.Workers.{IsHolding, end_of, all_drawn, some_stopped}
use Rattle.node_pool.proofs.Moves.{merges}
use Rattle.node_pool.proofs.Workers.{both, one_more}
use Rattle.node_pool.proofs.running.gather.Goals as goal

pub absorb-requires-clause-rule : goal.absorb-requires-clause-rule
absorb-requires-clause-rule g c = merges _ _ _ _ (let p : (worker_view c.loop-member.queue).parts ≡ (worker_view c.args.queue.now).parts + length c.loop-member.yielded = ap (λ v. v.parts) c.loop-member.invariant.4 in let q = c.requires.parts.1 in omega arith)

pub loop-member-preserved : goal.loop-member-preserved
loop-member-preserved g c =
    let i = c.loop-member.invariant in
    let s = c.absorb.ensures.same in
    let r = c.absorb.ensures.rule in
    let member = c.in-Some.member in
    let e = c.into_iter-member-iterator.ensures.into_iter_gives in
    let t = YieldsList-turn (YieldsList-from_vec {s = c.into_iter-member-iterator.result} _ e.0 (e.1 ∙ c.args.members.ok.0)) c.loop-member.yielded c.loop-member.member-iterator c.loop-member.yielded_by c.next.result c.next.new.self member c.in-Some.is c.next.ensures.steps in
    let P : Member g.row.T.Denot g.row.S.Denot g.row.A.Denot → Type 0 = IsHolding (worker_deque c.args.queue.now) in
    let mine : P member = subst P (sym t.1) (c.requires.holding (length c.loop-member.yielded) member t.0) in
    let token = mine.1 in
    let old = i.4 in
    let items = c.in-Ok.ensures.items in
    let len = length_push c.loop-member.yielded member in (
      (s.0.0 ∙ i.0.0, s.0.1 ∙ i.0.1, s.0.2 ∙ i.0.2, (let a = s.0.3 in let b = i.0.3 in omega arith)),
      items ∙ ap (λ l. l ++ end_of member ∷ []) i.1 ∙ sym (map-append end_of c.loop-member.yielded (member ∷ [])),
      (let n = c.in-Ok.ensures.len in let m = i.2 in omega arith),
      (let k = c.push.ensures.capacity in let j = i.3 in omega arith),
      r ∙ ap (λ v. both v (view member.token)) old ∙ ap (λ w. both (tally ((worker_view c.args.queue.now).parts + length c.loop-member.yielded) false (worker_view c.args.queue.now).put (all_drawn c.loop-member.workers.items) (some_stopped c.loop-member.workers.items)) w) token
          ∙ one_more (worker_view c.args.queue.now).parts (length c.loop-member.yielded) (length (c.loop-member.yielded ++ member ∷ [])) (worker_view c.args.queue.now).put c.loop-member.workers.items c.push.new.self.items (end_of member) len items,
    )
