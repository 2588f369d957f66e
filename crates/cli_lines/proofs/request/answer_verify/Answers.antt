use Rattle.std.specs.declared.alloc.Global.{Global}
use Rattle.aud_order.specs.Shapes.{objects_of, history_of}
use Rattle.cert_accept.proofs.Elsewhere.{accepted-elsewhere}
use Rattle.cli_lines.proofs.HistoryLemmas.{none-from_refuted}
use Rattle.cli_lines.proofs.request.answer_verify.Goals as goal

pub returns-then-branch : goal.returns-then-branch
returns-then-branch g c =
    let shape = c.args.shape.now in (
      (accepted-elsewhere Global (objects_of shape) (history_of shape) c.args.cert.now.lines.items).1 (c.in_ok-check_cert.ensures.accepted.0 c.if-branch.true),
      none-from_refuted (objects_of shape) (history_of shape) (c.in_ok-check_cert.ensures.refuted c.if-branch.true),
    )

pub returns-else-branch : goal.returns-else-branch
returns-else-branch g c accepted =
    let shape = c.args.shape.now in
    let clash = c.in_ok-check_cert.ensures.accepted.1 ((accepted-elsewhere Global (objects_of shape) (history_of shape) c.args.cert.now.lines.items).0 accepted) in
    cc
