use Rattle.std.specs.Prelude.{◌≡◌, false, true}
use Rattle.std.proofs.Common.{sym, ◌∙◌}
use Rattle.aud_order.proofs.Placed.{placed-more, placed-bad}
use Rattle.aud_order.proofs.cursor.Cursor.after.Goals as goal

pub returns-then-not-is_good : goal.returns-then-not-is_good
returns-then-not-is_good g c =
    placed-bad c.args.shape.now c.args.decisions.now c.loop-decision.decision-index c.loop-decision.cursor c.loop-decision-test.true c.loop-decision.invariant
    (λ next. let clash : false ≡ true = sym c.if-not-is_good.true ∙ c.is_good.ensures.1 (c.in_ok-push.ensures.good.1 next) in cc)

pub loop-decision-preserved : goal.loop-decision-preserved
loop-decision-preserved g c =
    placed-more c.args.shape.now c.args.decisions.now c.loop-decision.decision-index c.loop-decision.cursor c.push.new.self c.loop-decision-test.true c.loop-decision.invariant
    (c.in_ok-push.ensures.goes (c.is_good.ensures.0 c.if-not-is_good.false))
