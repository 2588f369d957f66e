use Rattle.std.proofs.Common.{rules, arith, ap, sym, subst, ◌∙◌, ◌≡◌, inl, inr, ⊎_elim, ◌<◌, ◌+◌, ◌++◌, ℕ, List, length, length-append, vec_len, map, get_or, All}
use Rattle.std.specs.List.Sorted.{IsPermutation}
use Rattle.std.proofs.lemmas.List.Sorted.{length_permutation}
use Rattle.std.proofs.lemmas.List.{length-map}
use denote.Param.Send.{sendable}
use Rattle.aud_witness.specs.declared.decision.Decision.{Decision}
use Rattle.aud_node.specs.Meanings.{PassOf}
use Rattle.aud_node.proofs.Crosses.{pass_send}
use Rattle.aud_search.proofs.Crosses.{session_send}
use Rattle.std.proofs.Crossing as heap
use Rattle.std.proofs.alloc.Global.TheSendSync as global
use Rattle.node_pool.specs.Workers.{all_drawn, AreWorked}
use Rattle.aud_split.specs.declared.fault.PoolFault.{PoolFault}
use Rattle.aud_split.specs.Ends.{failures, faulted, drawn_by, AreFaults}
use Rattle.aud_split.specs.Pools.{IsSettled, HasSearched, HaveSearched, MayRun}
use Rattle.aud_split.proofs.Crosses.{explorer_sync}
use Rattle.aud_split.proofs.Numbers.{all_tasks, numbers_below, all_faulted, answered_of, grown_of, grown_length, faults_of}
use Rattle.aud_split.proofs.pool.run_pool_with.Goals as goal

pub run-requires-clause-may_work : goal.run-requires-clause-may_work
run-requires-clause-may_work g c κs outlive =
    let may : MayRun c.args.node.now c.args.passes.items c.args.shape.value = search rules in
    λ k p lt. (may.2 k p lt, may.1)

pub run-requires-send-S : goal.run-requires-send-S
run-requires-send-S g c κs within = search (pass_send, sendable)

pub run-requires-send-Own : goal.run-requires-send-Own
run-requires-send-Own g c κs within = search (session_send, global.the_send, global.the_sync, heap.frees, sendable) depth 60 fits 20000

pub run-requires-sync-W : goal.run-requires-sync-W
run-requires-sync-W g c κs within = search (explorer_sync, sendable)

pub take_apart-requires-clause-few : goal.take_apart-requires-clause-few
take_apart-requires-clause-few g c =
    let workers = c.in-Ok-run.end.workers in
    let count : length workers.items ≡ length c.args.passes.items = grown_length (HasSearched c.args.shape.value) c.args.passes.items workers.items c.in-Ok-run.ensures.seats in
    let n : vec_len workers ≡ length workers.items = workers.ok.0 in
    let m : vec_len c.args.passes ≡ length c.args.passes.items = c.args.passes.ok.0 in
    let crew = c.in-Ok-run.ensures.begun.1 in omega arith

pub take_apart-requires-clause-room : goal.take_apart-requires-clause-room
take_apart-requires-clause-room g c =
    let workers = c.in-Ok-run.end.workers in
    let left = c.in-Ok-run.end.left in
    let len : length (all_drawn workers.items) + length left.items ≡ length c.args.tasks.items = sym (length-append (all_drawn workers.items) left.items) ∙ length_permutation _ _ c.in-Ok-run.ensures.all in
    let count : length workers.items ≡ length c.args.passes.items = grown_length (HasSearched c.args.shape.value) c.args.passes.items workers.items c.in-Ok-run.ensures.seats in
    let n : vec_len workers ≡ length workers.items = workers.ok.0 in
    let m : vec_len c.args.passes ≡ length c.args.passes.items = c.args.passes.ok.0 in
    let t : vec_len c.args.tasks ≡ length c.args.tasks.items = c.args.tasks.ok.0 in
    let passes_len = c.len.ensures in
    let tasks_len = c.len-2.ensures in
    let room = c.in-Ok.ensures.room in (omega arith, omega arith, omega arith)

pub returns-in-Ok-run-clause-ran : goal.returns-in-Ok-run-clause-ran
returns-in-Ok-run-clause-ran g c =
    record {
      all =
          let workers = c.in-Ok-run.end.workers.items in
          let left = c.in-Ok-run.end.left.items in
          let drawn = ap (map (λ (d : ℕ × List Decision). d.1)) c.take_apart.ensures.drawn ∙ all_tasks 0 workers in
          subst (λ (l : List (List Decision)). IsPermutation c.args.tasks.items (l ++ left)) (sym drawn) c.in-Ok-run.ensures.all;
      left_so =
          let workers = c.in-Ok-run.end.workers.items in
          let len = ap length c.take_apart.ensures.seats ∙ length-map workers (λ w. w.seat) in
          let n : vec_len c.take_apart.new.lists.seats ≡ length c.take_apart.new.lists.seats.items = c.take_apart.new.lists.seats.ok.0 in
          ⊎_elim inl (λ all. inr (λ w lt. ap (faulted w) c.take_apart.ensures.faults ∙ all_faulted workers all w (omega arith))) c.in-Ok-run.ensures.left;
      searched =
          let s = c.args.shape.value in
          let workers = c.in-Ok-run.end.workers.items in
          subst (λ (l : List PassOf). HaveSearched s c.args.passes.items l) (sym c.take_apart.ensures.seats)
          (grown_of (HasSearched s) (HaveSearched s) tt (λ p q ps qs one rest. (one, rest)) c.args.passes.items workers c.in-Ok-run.ensures.seats);
      settled =
          let done : PassOf → List Decision → Type 0 = λ p t. IsSettled c.args.shape.value c.args.budget p.view t in
          let workers = c.in-Ok-run.end.workers.items in
          let seats = c.take_apart.ensures.seats in
          let len = ap length seats ∙ length-map workers (λ w. w.seat) in
          λ w p lt.
          subst (λ (l : List PassOf). AreWorked (done (get_or l w p)) (faulted w c.take_apart.new.lists.faults.items) (drawn_by w c.take_apart.new.lists.drawn.items)) (sym seats)
          (subst (λ (f : List (ℕ × PoolFault)). AreWorked (done (get_or (map (λ w. w.seat) workers) w p)) (faulted w f) (drawn_by w c.take_apart.new.lists.drawn.items)) (sym c.take_apart.ensures.faults)
          (subst (λ (l : List (ℕ × List Decision)). AreWorked (done (get_or (map (λ w. w.seat) workers) w p)) (faulted w (failures 0 workers)) (drawn_by w l)) (sym c.take_apart.ensures.drawn)
          (answered_of done workers c.in-Ok-run.ensures.worked w p (omega arith))));
      workers =
          let workers = c.in-Ok-run.end.workers.items in
          let len = ap length c.take_apart.ensures.seats ∙ length-map workers (λ w. w.seat) in
          let n : vec_len c.take_apart.new.lists.seats ≡ length c.take_apart.new.lists.seats.items = c.take_apart.new.lists.seats.ok.0 in
          subst (All (λ (d : ℕ × List Decision). d.0 < vec_len c.take_apart.new.lists.seats)) (sym c.take_apart.ensures.drawn) (numbers_below 0 (vec_len c.take_apart.new.lists.seats) workers (omega arith));
      numbered =
          let workers = c.in-Ok-run.end.workers.items in
          let len = ap length c.take_apart.ensures.seats ∙ length-map workers (λ w. w.seat) in
          let n : vec_len c.take_apart.new.lists.seats ≡ length c.take_apart.new.lists.seats.items = c.take_apart.new.lists.seats.ok.0 in
          let count : 0 + length workers ≡ vec_len c.take_apart.new.lists.seats = omega arith in
          subst (AreFaults 0 (vec_len c.take_apart.new.lists.seats)) (sym c.take_apart.ensures.faults) (subst (λ (k : ℕ). AreFaults 0 k (failures 0 workers)) count (faults_of 0 workers));
    }
