use Rattle.std.specs.Prelude.{◌≡◌, ℕ, ◌&&◌, true, false, nat_eq}
use Rattle.std.proofs.Common.{arith, ap, sym, ◌∙◌, cond, get_or}
use Rattle.search_model.proofs.Adding.{idle}
use Rattle.search_model.specs.Queues.{is_addition}
use Rattle.search_model.proofs.Deeds.{adds-more}
use Rattle.search_model.proofs.queues.count_additions.Goals as goal
use Rattle.search_model.proofs.queues.count_additions.Goals.{then-is_addition, else-is_addition}

pub loop-execution-preserved : goal.loop-execution-preserved
loop-execution-preserved c =
    let es = c.args.executions.now in
    let k = c.loop-execution.execution-index in
    let more = adds-more c.args.queue es k idle (omega arith) in
    let before = c.loop-execution.invariant in
    elim c.if-is_addition.branch [
      | then-is_addition w ↦
          let so : (nat_eq (get_or es k idle).object c.args.queue && is_addition (get_or es k idle).op) ≡ true = sym c.is_addition.ensures ∙ w.if-is_addition.true in
          let one : ◌≡◌ {A = ℕ} (cond (nat_eq (get_or es k idle).object c.args.queue && is_addition (get_or es k idle).op) 1 0) 1 = ap (λ b. cond b 1 0) so in
          let count = w.count-is in
          (omega (arith, more, one, count, before), omega (arith, count, before))
      | else-is_addition w ↦
          let not_so : (nat_eq (get_or es k idle).object c.args.queue && is_addition (get_or es k idle).op) ≡ false = sym c.is_addition.ensures ∙ w.if-is_addition.false in
          let none : ◌≡◌ {A = ℕ} (cond (nat_eq (get_or es k idle).object c.args.queue && is_addition (get_or es k idle).op) 1 0) 0 = ap (λ b. cond b 1 0) not_so in
          let count = w.count-is in
          (omega (arith, more, none, count, before), omega (arith, count, before))
    ]
