use Rattle.std.proofs.Common.{◌≡◌, ◌++◌, ◌∷◌, [], sym, ap, ◌∙◌, append_assoc, arith}
use Rattle.crossbeam_deque.specs.Handles.{worker_view}
use Rattle.node_pool.specs.Rule.{tally, after_take, tasks_in}
use Rattle.node_pool.proofs.Moves.{drains_one, settles, task_there}
use Rattle.node_pool.proofs.queue.drain.Goals as goal

pub pop_as-requires-clause-fifo : goal.pop_as-requires-clause-fifo
pop_as-requires-clause-fifo g c = λ _. drains_one _ _ (let all = c.loop.invariant.1 in omega arith)

pub pop_as-requires-clause-empty : goal.pop_as-requires-clause-empty
pop_as-requires-clause-empty g c = settles _ _

pub loop-preserved : goal.loop-preserved
loop-preserved g c =
    let r = c.in-Some-Some.ensures.rule in
    let f = c.in-Some-Some.field-0-is in
    let i = c.loop.invariant in
    let task = c.in-Some-Some.task in
    let old = worker_view c.loop.queue in
    let now : worker_view c.pop_as.new.self ≡ tally old.parts old.fresh old.put (old.taken ++ task ∷ []) old.stopped = r.0 ∙ ap (λ s. after_take old (s ∷ [])) f in
    let left : c.push.new.self.items ≡ c.loop.left.items ++ task ∷ [] = c.in-Ok.ensures.items in (
      c.pop_as.ensures.same.0.1 ∙ i.0,
      ap (λ v. v.parts) now ∙ i.1,
      ap (λ v. v.put) now ∙ i.2,
      ap (λ v. v.taken) now ∙ ap (λ l. l ++ task ∷ []) i.3 ∙ append_assoc (worker_view c.args.queue.now).taken c.loop.left.items (task ∷ []) ∙ ap (λ l. (worker_view c.args.queue.now).taken ++ l) (sym left),
      (λ s. absurd (task_there task [] (sym (ap (λ y. tasks_in (y ∷ [])) f) ∙ r.1 (i.4 s).0))),
      (let k = c.push.ensures.capacity in let j = i.5 in omega arith),
    )
