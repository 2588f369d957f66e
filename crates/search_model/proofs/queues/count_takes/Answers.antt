use Rattle.std.specs.Prelude.{◌≡◌, ℕ, ◌&&◌, true, false, nat_eq}
use Rattle.std.proofs.Common.{arith, ap, sym, ◌∙◌, cond, get_or}
use Rattle.search_model.proofs.Adding.{idle}
use Rattle.search_model.specs.Queues.{is_take}
use Rattle.search_model.proofs.Deeds.{takes-more}
use Rattle.search_model.proofs.queues.count_takes.Goals as goal
use Rattle.search_model.proofs.queues.count_takes.Goals.{then-is_take, else-is_take}

pub loop-execution-preserved : goal.loop-execution-preserved
loop-execution-preserved c =
    let es = c.args.executions.now in
    let k = c.loop-execution.execution-index in
    let more = takes-more c.args.queue es k idle (omega arith) in
    let before = c.loop-execution.invariant in
    elim c.if-is_take.branch [
      | then-is_take w ↦
          let so : (nat_eq (get_or es k idle).object c.args.queue && is_take (get_or es k idle).op (get_or es k idle).answer) ≡ true = sym c.is_take.ensures ∙ w.if-is_take.true in
          let one : ◌≡◌ {A = ℕ} (cond (nat_eq (get_or es k idle).object c.args.queue && is_take (get_or es k idle).op (get_or es k idle).answer) 1 0) 1 = ap (λ b. cond b 1 0) so in
          let count = w.count-is in
          (omega (arith, more, one, count, before), omega (arith, count, before))
      | else-is_take w ↦
          let not_so : (nat_eq (get_or es k idle).object c.args.queue && is_take (get_or es k idle).op (get_or es k idle).answer) ≡ false = sym c.is_take.ensures ∙ w.if-is_take.false in
          let none : ◌≡◌ {A = ℕ} (cond (nat_eq (get_or es k idle).object c.args.queue && is_take (get_or es k idle).op (get_or es k idle).answer) 1 0) 0 = ap (λ b. cond b 1 0) not_so in
          let count = w.count-is in
          (omega (arith, more, none, count, before), omega (arith, count, before))
    ]
