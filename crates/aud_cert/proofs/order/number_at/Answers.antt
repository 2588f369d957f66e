use Rattle.std.proofs.Common.{arith}
use Rattle.aud_cert.proofs.OrderSpelled.{digit-alone, digit-more}
use Rattle.aud_cert.proofs.order.number_at.Goals as goal

pub returns-then-number-eq0-clause-spelled : goal.returns-then-number-eq0-clause-spelled
returns-then-number-eq0-clause-spelled c =
    digit-alone c.args.text.now c.in_ok-number.rest.now c.in_ok-number.number c.in_ok-number.ensures.digit c.in_ok-number.ensures.spelled

pub digits-init : goal.digits-init
digits-init c =
    let digit = c.in_ok-number.ensures.digit in
    record {
      spelled = digit-alone c.args.text.now c.in_ok-number.rest.now c.in_ok-number.number digit c.in_ok-number.ensures.spelled;
      some = grind (arith, c.if-number-eq0.false);
      low = omega (arith, digit);
    }

pub digits-preserved : goal.digits-preserved
digits-preserved c =
    let n = c.digits.number in
    let d = c.in-Some.digit in
    record {
      spelled = digit-more c.args.text.now c.digits.rest.now c.in-Some.more.now n d c.digits.invariant.some c.digits.invariant.low c.in-Some.ensures.digit
          c.digits.invariant.spelled c.in-Some.ensures.spelled;
      some = omega (arith, c.digits.invariant.some);
      low = grind (arith, c.if-number-ge-TRANSACTIONS.false);
    }
