use Rattle.std.specs.Prelude.{◌≡◌, false, true}
use Rattle.std.proofs.Common.{sym, ◌∙◌, subst}
use Rattle.aud_witness.specs.Orders.{IsGood}
use Rattle.aud_order.specs.Shapes.{objects_of, history_of}
use Rattle.aud_order.specs.Cursors.{CursorOf}
use Rattle.cert_earlier.specs.Moves.{StaysBefore}
use Rattle.cert_earlier.proofs.Placing.{pushed-bad, stays-before}
use Rattle.cert_earlier.proofs.moving.go_to.Goals as goal

pub returns-then-not-is_good-clause-good : goal.returns-then-not-is_good-clause-good
returns-then-not-is_good-clause-good g c =
    pushed-bad c.args.cursor.now c.loop-place.cursor c.args.decisions.now c.loop-place.place c.loop-place-test.true c.loop-place.invariant
    (λ good. let clash : false ≡ true = sym c.if-not-is_good.true ∙ c.is_good.ensures.1 (c.in_ok-push.ensures.good.1 good) in cc)

pub returns-then-not-is_good-clause-stays : goal.returns-then-not-is_good-clause-stays
returns-then-not-is_good-clause-stays g c e =
    let start = c.args.cursor.now in
    let was = c.loop-place.cursor in
    let stays : c.push.new.self ≡ was = c.in_ok-push.ensures.stays (λ good. let clash : false ≡ true = sym c.if-not-is_good.true ∙ c.is_good.ensures.1 good in cc) in
    let here = subst (λ (u : CursorOf). IsGood (objects_of u.shape) (history_of u.shape) u.path) stays c.prefix-good.ensures.good in
    subst (λ (u : CursorOf). StaysBefore (objects_of start.shape) (history_of start.shape) c.args.decisions.now u.path) (sym stays)
    (stays-before start was c.args.decisions.now c.loop-place.place c.loop-place-test.true c.loop-place.invariant here
    (λ good. let clash : false ≡ true = sym c.if-not-is_good.true ∙ c.is_good.ensures.1 (c.in_ok-push.ensures.good.1 good) in cc))
