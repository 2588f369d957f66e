use Rattle.std.proofs.Common.{arith, ap, sym, ◌∙◌, ◌≡◌, ◌+◌, ◌++◌, ◌∷◌, [], length, vec_len, map, take, cond}
use Rattle.std.proofs.lemmas.Iterator.Consumers.{YieldsList-turn, YieldsList-so_far}
use Rattle.std.proofs.lemmas.Iterator.Adapters.{YieldsList-from_vec}
use Rattle.std.proofs.lemmas.List.{map-append, length_push}
use Rattle.aud_split.specs.declared.fault.PoolFault.TheVariants.{OutOfMemory}
use Rattle.node_pool.specs.Workers.{all_drawn}
use Rattle.aud_split.specs.Ends.{numbered, failures}
use Rattle.aud_split.proofs.Numbers.{map_itself, room_at, length_numbered, failures_few, numbered-push, failures-push}
use Rattle.aud_split.proofs.ends.take_apart.Goals as goal

pub note_all-requires : goal.note_all-requires
note_all-requires g c =
    let e = c.into_iter-worker-iterator.ensures.into_iter_gives in
    let y = YieldsList-from_vec {s = c.into_iter-worker-iterator.result} _ e.0 (e.1 ∙ c.args.workers.ok.0) in
    let t = YieldsList-turn y c.loop-worker.yielded c.loop-worker.worker-iterator c.loop-worker.yielded_by c.next.result c.next.new.self c.in-Some.worker c.in-Some.is c.next.ensures.steps in
    let so_far : c.loop-worker.yielded ≡ take (length c.loop-worker.yielded) c.args.workers.items = sym (map_itself c.loop-worker.yielded) ∙ YieldsList-so_far y c.loop-worker.yielded c.loop-worker.worker-iterator c.loop-worker.yielded_by in
    let room = room_at c.args.workers.items (length c.loop-worker.yielded) c.in-Some.worker t.0 t.1 in
    let drawn : length c.loop-worker.lists.drawn.items ≡ length (all_drawn (take (length c.loop-worker.yielded) c.args.workers.items)) = ap length c.loop-worker.invariant.2 ∙ length_numbered 0 c.loop-worker.yielded ∙ ap (λ l. length (all_drawn l)) so_far in
    let fits = c.requires.room.2 in let cap = c.loop-worker.invariant.5 in
    let n : vec_len c.loop-worker.lists.drawn ≡ length c.loop-worker.lists.drawn.items = c.loop-worker.lists.drawn.ok.0 in
    let m : vec_len c.in-Some.worker.drawn ≡ length c.in-Some.worker.drawn.items = c.in-Some.worker.drawn.ok.0 in
    omega arith

pub note_fault-requires : goal.note_fault-requires
note_fault-requires g c =
    let e = c.into_iter-worker-iterator.ensures.into_iter_gives in
    let y = YieldsList-from_vec {s = c.into_iter-worker-iterator.result} _ e.0 (e.1 ∙ c.args.workers.ok.0) in
    let t = YieldsList-turn y c.loop-worker.yielded c.loop-worker.worker-iterator c.loop-worker.yielded_by c.next.result c.next.new.self c.in-Some.worker c.in-Some.is c.next.ensures.steps in
    let below = t.0 in
    let all : vec_len c.args.workers ≡ length c.args.workers.items = c.args.workers.ok.0 in
    let few = failures_few 0 c.loop-worker.yielded in
    let now = ap length c.loop-worker.invariant.3 in
    let n : vec_len c.loop-worker.lists.faults ≡ length c.loop-worker.lists.faults.items = c.loop-worker.lists.faults.ok.0 in
    let fits = c.requires.room.1 in let cap = c.loop-worker.invariant.6 in
    omega arith

pub loop-worker-preserved : goal.loop-worker-preserved
loop-worker-preserved g c =
    let i = c.loop-worker.invariant in
    let worker = c.in-Some.worker in
    let len = length_push c.loop-worker.yielded worker in
    let here : c.loop-worker.number ≡ 0 + length c.loop-worker.yielded = let w = i.0 in omega arith in (
      (let w = i.0 in omega arith),
      c.in-Ok.ensures.items ∙ ap (λ l. l ++ worker.seat ∷ []) i.1 ∙ sym (map-append (λ e. e.seat) c.loop-worker.yielded (worker ∷ [])),
      c.note_all.ensures.noted ∙ ap (λ l. l ++ map (λ t. (c.loop-worker.number, t)) worker.drawn.items) i.2 ∙ ap (λ k. numbered 0 c.loop-worker.yielded ++ map (λ t. (k, t)) worker.drawn.items) here ∙ sym (numbered-push 0 c.loop-worker.yielded worker),
      c.note_fault.ensures.noted ∙ ap (λ l. l ++ cond worker.failed ((c.loop-worker.number, OutOfMemory) ∷ []) []) i.3 ∙ ap (λ k. failures 0 c.loop-worker.yielded ++ cond worker.failed ((k, OutOfMemory) ∷ []) []) here ∙ sym (failures-push 0 c.loop-worker.yielded worker),
      (let k = c.push.ensures.capacity in let j = i.4 in omega arith),
      (let k = c.note_all.ensures.room in let j = i.5 in omega arith),
      (let k = c.note_fault.ensures.room in let j = i.6 in omega arith),
    )
