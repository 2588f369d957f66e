use Rattle.base_values.proofs.Results.{err_anyway}
use Rattle.aud_text.proofs.OrderText.{further}
use Rattle.aud_text.proofs.order.push_more.Goals as goal

pub returns-in_err-push_decision-clause-err : goal.returns-in_err-push_decision-clause-err
returns-in_err-push_decision-clause-err g c =
    err_anyway c.from_residual-in_err-push_decision.result _ (further c.args.text.now.items _ c.loop-decision.text.items _ _ 32 c.loop-decision.invariant c.in_ok-push.ensures.items c.in_err-push_decision.ensures.err)
