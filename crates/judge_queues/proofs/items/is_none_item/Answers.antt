use Rattle.std.specs.Prelude.{◌≡◌, ℕ, ◌+◌, ◌&&◌, true, false, nat_eq}
use Rattle.std.proofs.Common.{arith, ap, sym, ◌∙◌, subst, cond, get_or}
use Rattle.search_model.proofs.Adding.{idle}
use Rattle.search_model.specs.Queues.{is_addition}
use Rattle.judge_queues.specs.Laws.{NoItem}
use Rattle.search_model.proofs.Deeds.{adds-more}
use Rattle.judge_queues.proofs.Listing.{no-item-more, no-item-all}
use Rattle.judge_queues.proofs.items.is_none_item.Goals as goal
use Rattle.judge_queues.proofs.items.is_none_item.Goals.{then-is_addition+else-number-limit+else-not-is_no_item+in-Some, else-is_addition}

pub loop-execution-preserved : goal.loop-execution-preserved
loop-execution-preserved g c =
    let f = c.args.facts.now in
    let es = c.args.executions.now in
    let x = c.args.candidate.take.object in
    let k = c.loop-execution.execution-index in
    let n = c.loop-execution.number in
    let more = adds-more x es k idle (omega arith) in
    let before = c.loop-execution.invariant in
    elim c.if-is_addition.branch [
      | then-is_addition+else-number-limit+else-not-is_no_item+in-Some w ↦
          let so : (nat_eq (get_or es k idle).object x && is_addition (get_or es k idle).op) ≡ true = sym c.is_addition.ensures ∙ w.if-is_addition.true in
          let one : ◌≡◌ {A = ℕ} (cond (nat_eq (get_or es k idle).object x && is_addition (get_or es k idle).op) 1 0) 1 = ap (λ b. cond b 1 0) so in
          let count = w.number-is in
          let next : c.if-is_addition.number ≡ n + 1 = w.number-is ∙ w.in-Some.ensures.1 in
          let here = w.is_no_item.ensures w.if-not-is_no_item.false in (
            omega (arith, more, one, next, before.0),
            subst (λ m. NoItem f c.args.clause.now c.args.candidate.take c.args.candidate.adder c.args.candidate.value m es) (sym next)
                (no-item-more f c.args.clause.now c.args.candidate.take c.args.candidate.adder c.args.candidate.value es n k idle (omega arith) before.0 so here before.1),
          )
      | else-is_addition w ↦
          let not_so : (nat_eq (get_or es k idle).object x && is_addition (get_or es k idle).op) ≡ false = sym c.is_addition.ensures ∙ w.if-is_addition.false in
          let none : ◌≡◌ {A = ℕ} (cond (nat_eq (get_or es k idle).object x && is_addition (get_or es k idle).op) 1 0) 0 = ap (λ b. cond b 1 0) not_so in
          let same : c.if-is_addition.number ≡ n = w.number-is in (
            omega (arith, more, none, same, before.0),
            subst (λ m. NoItem f c.args.clause.now c.args.candidate.take c.args.candidate.adder c.args.candidate.value m es) (sym same) before.1,
          )
    ]

pub returns : goal.returns
returns g c = λ so.
    no-item-all c.args.facts.now c.args.clause.now c.args.candidate.take c.args.candidate.adder c.args.candidate.value c.args.executions.now c.loop-execution.number c.loop-execution.execution-index c.args.limit (omega arith)
    c.loop-execution.invariant.0 c.loop-execution.invariant.1
