use Rattle.std.proofs.Common.{[], Some, subst}
use Rattle.search_prefix.specs.Searches.{Reports}
use Rattle.cli_lines.specs.Line.{NoneSays, DecideSays}
use Rattle.cli_lines.proofs.HistoryLemmas.{none-from_refuted, none-decides, if_ok}
use Rattle.cli_lines.proofs.request.answer_explore.Goals as goal

pub said_of_none-requires : goal.said_of_none-requires
said_of_none-requires c =
    let shape = c.args.shape.now.sealed in
    none-from_refuted shape.facts.plan.objects shape.history
    (subst (λ o. Reports shape.facts.plan.objects shape.history [] (Some c.args.budget) o) c.in-Refuted.is
    (subst (λ p. Reports shape.facts.plan.objects shape.history p (Some c.args.budget) c.in_ok-order.field-0) c.empty.ensures c.in_ok-order.ensures))

pub returns-in-Refuted : goal.returns-in-Refuted
returns-in-Refuted c =
    let plan = c.args.shape.now.sealed.facts.plan in
    let h = c.args.shape.now.sealed.history in
    if_ok (NoneSays c.args.certifying plan h) (DecideSays (Some c.args.budget) c.args.certifying plan h) c.said_of_none.result
    (λ s says. none-decides (Some c.args.budget) c.args.certifying plan h s says) c.said_of_none.ensures
