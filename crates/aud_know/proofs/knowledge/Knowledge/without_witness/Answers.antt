use Rattle.std.proofs.Common.{◌≡◌, subst}
use Rattle.std.specs.Prelude.{MatchResult}
use Rattle.aud_history.specs.WellFormed.{IsWellFormed}
use Rattle.aud_facts.specs.Sets.{IsSealedWith}
use Rattle.aud_know.specs.Known.{KnowledgeOf}
use Rattle.aud_know.specs.Verdicts.{FactsReportAtOnce, IsVerdict}
use Rattle.aud_know.proofs.Judging.{reported_at_once}
use Rattle.aud_know.proofs.knowledge.Knowledge.without_witness.Goals as goal

pub returns-in-Err : goal.returns-in-Err
returns-in-Err g c =
    let facts = c.self.inside.facts in
    let reported : FactsReportAtOnce facts.plan.logs facts.facts c.in-Err.reported =
    subst (λ r. MatchResult r (λ s. (s.value.facts ≡ facts) × IsSealedWith facts s.value.history × IsWellFormed s.value.history) (λ t. FactsReportAtOnce facts.plan.logs facts.facts t))
    c.in-Err.is c.in_ok-sealed.ensures in
    subst (λ (k : KnowledgeOf). IsVerdict k c.in-Err.reported) c.self.view_is (reported_at_once (λ w. w) facts.plan.logs facts.facts _ c.in-Err.reported reported)
