use Rattle.std.specs.Prelude.{◌≡◌, ◌<◌, ℕ, true, Some, length, slice_get, refl}
use Rattle.std.proofs.Common.{arith, sym, ◌∙◌, ap, subst}
use Rattle.std.proofs.lemmas.Option.{slice_get_read}
use Rattle.aud_object.specs.Blocks.{BlockOf}
use Rattle.judge_clauses.specs.Touching.{mentions, IsMarked, AreMarked}
use Rattle.judge_clauses.proofs.Valued.{length-push}
use Rattle.judge_clauses.proofs.Marking.{marked-push}
use Rattle.judge_clauses.proofs.touched.marks_of_rows.Goals as goal

pub loop-row-preserved : goal.loop-row-preserved
loop-row-preserved g c =
    let row = c.row-item.result in
    let place : length c.loop-row.touched.items ≡ c.loop-row.row-index = c.loop-row.invariant.0 in
    let low : c.loop-row.row-index < length c.args.rows.now = omega arith in
    let at : slice_get c.args.rows.now (length c.loop-row.touched.items) ≡ Some row =
    ap (slice_get c.args.rows.now) place ∙ slice_get_read c.args.rows.now (length c.args.rows.now) c.loop-row.row-index row refl low c.row-item.is in
    let own : (x : ℕ) → mentions x row.block.executions ≡ true → IsMarked c.in_ok-marks_of.field-0 x =
    λ x on. c.in_ok-marks_of.ensures x (ap (mentions x) c.executions.ensures ∙ ap (λ (b : BlockOf). mentions x b.executions) c.block.ensures ∙ on) in (
      ap length c.in_ok-push.ensures.items ∙ length-push c.loop-row.touched.items c.in_ok-marks_of.field-0 c.loop-row.row-index place,
      subst (AreMarked c.args.rows.now) (sym c.in_ok-push.ensures.items) (marked-push c.args.rows.now c.loop-row.touched.items row c.in_ok-marks_of.field-0 at own c.loop-row.invariant.1),
    )
