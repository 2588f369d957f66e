use Rattle.std.proofs.Common.{◌≡◌, subst}
use Rattle.std.specs.Prelude.{MatchResult}
use Rattle.aud_history.specs.WellFormed.{IsWellFormed}
use Rattle.aud_facts.specs.Sets.{IsSealedWith}
use Rattle.aud_facts.specs.Status.{hist}
use Rattle.aud_know.specs.Verdicts.{FactsReportAtOnce}
use Rattle.aud_know.proofs.Judging.{reported_at_once}
use Rattle.aud_report.specs.declared.said.Said.TheVariants as said
use Rattle.cli_lines.specs.Line.{RequestSays, SetSays}
use Rattle.cli_lines.proofs.HistoryLemmas.{says_of_facts, if_ok}
use Rattle.cli_lines.proofs.run.judge_facts.Goals as goal

pub returns-in-Ok : goal.returns-in-Ok
returns-in-Ok c =
    let facts = c.args.facts.now in
    let sealed = c.in-Ok.sealed.value in
    let read : (sealed.facts ≡ facts) × IsSealedWith facts sealed.history × IsWellFormed sealed.history =
    subst (λ r. MatchResult r (λ s. (s.value.facts ≡ facts) × IsSealedWith facts s.value.history × IsWellFormed s.value.history) (λ t. FactsReportAtOnce facts.plan.logs facts.facts t))
    c.in-Ok.is c.in_ok-sealed.ensures in
    let asked = RequestSays c.args.request in
    if_ok (asked sealed.facts.plan sealed.history) (SetSays asked facts.plan facts.facts) c.answer.result
    (λ s says. says_of_facts asked facts sealed read.0 read.1 read.2 s says) c.answer.ensures

pub returns-in-Err : goal.returns-in-Err
returns-in-Err c =
    let facts = c.args.facts.now in
    let reported : FactsReportAtOnce facts.plan.logs facts.facts c.in-Err.reported =
    subst (λ r. MatchResult r (λ s. (s.value.facts ≡ facts) × IsSealedWith facts s.value.history × IsWellFormed s.value.history) (λ t. FactsReportAtOnce facts.plan.logs facts.facts t))
    c.in-Err.is c.in_ok-sealed.ensures in
    reported_at_once said.Verdict facts.plan.logs facts.facts (RequestSays c.args.request facts.plan (hist facts.facts)) c.in-Err.reported reported
