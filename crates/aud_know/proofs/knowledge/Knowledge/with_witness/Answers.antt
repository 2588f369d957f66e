use Rattle.std.specs.Prelude.{◌≡◌, Some}
use Rattle.std.proofs.Common.{sym, ap, subst, ◌∙◌}
use Rattle.aud_facts.specs.Status.{fact_status}
use Rattle.aud_facts.specs.declared.status.FactStatus.TheVariants.{Sealed}
use Rattle.aud_know.specs.Known.{KnowledgeOf}
use Rattle.aud_know.specs.Truth.{IsKnowledge}
use Rattle.aud_know.proofs.Judging.{reports_nothing, says_opaque}
use Rattle.aud_know.proofs.knowledge.Knowledge.with_witness.Goals as goal

pub returns-in_ok-copy-in-None : goal.returns-in_ok-copy-in-None
returns-in_ok-copy-in-None g c =
    let k = c.args.self.now in
    let truth : IsKnowledge k.plan k.held = subst (λ (k : KnowledgeOf). IsKnowledge k.plan k.held) c.self.view_is c.self.invariant in
    let witness : k.held.witness ≡ Some c.in_ok-copy-in-None.copy = c.requires ∙ ap Some (sym c.in_ok-copy-in-None.ensures) in
    let sealed : fact_status k.plan.logs k.held.facts ≡ Sealed =
    subst (λ (k : KnowledgeOf). fact_status k.plan.logs k.held.facts ≡ Sealed) c.self.view_is
    (sym c.status.ensures ∙ reports_nothing g.row.A.Denot c.status.result (sym c.of_status.ensures ∙ c.in-None.is)) in
    says_opaque c.quiet_is_no_conflict.ensures k truth sealed g.row.A.Denot c.in_ok-copy-in-None.copy witness
