use Rattle.std.proofs.Common.{sym, ◌∙◌, ap, subst}
use Rattle.base_values.proofs.Bools.{not_true}
use Rattle.aud_history.specs.Table.{RowOf}
use Rattle.aud_history.specs.WellFormed.{IsWellFormed}
use Rattle.aud_witness.specs.Configurations.{status_allows}
use Rattle.aud_witness.proofs.Bridge.{status-allowed}
use Rattle.judge_clauses.specs.Clauses.{KnownFactsOf}
use Rattle.judge_clauses.proofs.facts.KnownFacts.cannot.Goals as goal

pub returns : goal.returns
returns g c = λ yes.
    let h = c.args.self.now.history in
    let fine : IsWellFormed h = subst (λ (f : KnownFactsOf). IsWellFormed f.history) c.self.view_is c.self.invariant.1.0 in (
      c.in-Some.ensures.1,
      sym (status-allowed h c.args.tx c.args.fate fine) ∙ ap (λ (r : RowOf). status_allows r.status c.args.fate) (sym c.in-Some.ensures.0)
          ∙ ap (λ s. status_allows s c.args.fate) (sym c.status.ensures) ∙ sym c.allows.ensures ∙ not_true c.allows.result yes,
    )
