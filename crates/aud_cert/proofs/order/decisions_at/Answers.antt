use Rattle.std.proofs.Common.{◌≡◌, ◌++◌, ◌∷◌, [], ap, length, length-append, arith, rules}
use Rattle.aud_cert.proofs.OrderSpelled.{order-more, low-more}
use Rattle.aud_cert.proofs.order.decisions_at.Goals as goal

pub decisions-preserved : goal.decisions-preserved
decisions-preserved c =
    let was = c.decisions.scratch.items in
    let now = c.push-in-Some-next_at.new.self.items in
    let d = c.in-Some-next_at.decision in
    let grown : now ≡ was ++ d ∷ [] = search rules in
    record {
      spelled = order-more c.args.text.now c.decisions.rest.now c.in-Some-next_at.more.now was now d c.decisions.invariant.some grown
          c.decisions.invariant.spelled c.in-Some-next_at.ensures.spelled;
      some = omega (arith, ap length grown, length-append was (d ∷ []));
      low = low-more was now d grown c.decisions.invariant.low c.in-Some-next_at.ensures.low;
    }
