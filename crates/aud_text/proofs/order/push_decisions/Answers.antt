use Rattle.aud_text.proofs.OrderText.{order_pushed}
use Rattle.aud_text.proofs.order.push_decisions.Goals as goal

pub returns-in_ok-push_more-in-Some-clause-ok : goal.returns-in_ok-push_more-in-Some-clause-ok
returns-in_ok-push_more-in-Some-clause-ok g c = order_pushed _ _ _ c.in-Some.first.now c.in-Some.rest.now _ c.in_ok-push_decision-in-Some.ensures.ok c.in_ok-push_more-in-Some.ensures.ok c.in-Some.ensures.cases.0
