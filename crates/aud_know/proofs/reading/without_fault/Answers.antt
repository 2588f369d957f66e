use Rattle.std.proofs.Common.{refl, subst}
use Rattle.aud_history.specs.FirstFault.{HistoryOf, IsFirstFault}
use Rattle.aud_history.specs.WellFormed.{IsWellFormed}
use Rattle.aud_facts.specs.Sets.{SealedOf}
use Rattle.aud_know.specs.Verdicts.{FactsReportAtOnce}
use Rattle.aud_know.specs.declared.verdict.Verdict.TheVariants as verdict
use Rattle.aud_know.proofs.Judging.{ill_formed}
use Rattle.aud_know.proofs.reading.without_fault.Goals as goal

pub returns-in-Some : goal.returns-in-Some
returns-in-Some g c =
    let fault : IsFirstFault c.deref.result.now.history c.in-Some.stamp c.in-Some.rule =
    subst (λ (h : HistoryOf). IsFirstFault h.events c.in-Some.stamp c.in-Some.rule) c.history.ensures.history c.in-Some.ensures in
    subst (λ (s : SealedOf). FactsReportAtOnce {X = g.row.A.Denot} s.facts.plan.logs s.facts.facts (verdict.IllFormed c.in-Some.stamp c.in-Some.rule)) c.deref.ensures
    (ill_formed g.row.A.Denot c.deref.result.now.facts c.deref.result.now.history c.in-Some.stamp c.in-Some.rule c.history.ensures.sealed fault)

pub returns-in-None : goal.returns-in-None
returns-in-None g c = (
  refl,
  subst (λ (s : SealedOf). IsWellFormed s.history) c.deref.ensures (subst (λ (h : HistoryOf). IsWellFormed h.events) c.history.ensures.history c.in-None.ensures),
)
