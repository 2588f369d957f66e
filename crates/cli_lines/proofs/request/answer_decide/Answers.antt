use Rattle.std.proofs.Common.{None}
use Rattle.cli_lines.specs.Line.{NoneSays, DecideSays}
use Rattle.cli_lines.proofs.HistoryLemmas.{none-decides, if_ok}
use Rattle.cli_lines.proofs.request.answer_decide.Goals as goal

pub returns-in-NotOpaque : goal.returns-in-NotOpaque
returns-in-NotOpaque c =
    let plan = c.args.shape.now.sealed.facts.plan in
    let h = c.args.shape.now.sealed.history in
    if_ok (NoneSays c.args.certifying plan h) (DecideSays None c.args.certifying plan h) c.said_of_none.result
    (λ s says. none-decides None c.args.certifying plan h s says) c.said_of_none.ensures
