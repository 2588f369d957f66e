use Rattle.aud_order.specs.Shapes.{plan_of, history_of}
use Rattle.cert_accept.proofs.Refutes.{refuted-if_ok}
use Rattle.cert_accept.proofs.checking.check_cert.Goals as goal

pub returns-clause-refuted : goal.returns-clause-refuted
returns-clause-refuted g c =
    let shape = c.args.shape.now in
    refuted-if_ok c.accepted_is_refuted.ensures (plan_of shape) (history_of shape) c.args.cert.now.lines.items c.is_accepted.result c.history-sound.ensures.sound c.plan-within.ensures.sound c.is_accepted.ensures
