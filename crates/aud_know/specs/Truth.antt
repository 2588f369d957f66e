-- When what is held is true.
use Rattle.std.specs.Prelude.{◌≡◌, List, Some}
use Rattle.std.specs.List.{Contains}
use Rattle.aud_event.specs.Meanings.{PlanOf}
use Rattle.aud_event.specs.declared.fact.Fact.{Fact}
use Rattle.aud_event.specs.contracts.fact.FactOrd.TheImpl as fact_order
use Rattle.aud_history.specs.WellFormed.{IsWellFormed}
use Rattle.aud_facts.specs.declared.status.FactStatus.TheVariants.{Sealed}
use Rattle.aud_facts.specs.Status.{fact_status, hist}
use Rattle.aud_facts.specs.Sets.{AreSound}
use Rattle.aud_facts.specs.Quiet.{AreQuiet}
use Rattle.aud_witness.specs.declared.decision.Decision.{Decision}
use Rattle.aud_witness.specs.DecisionOrder.{decision_cmp}
use Rattle.aud_witness.specs.Orders.{Refuted, Shows}
use Rattle.aud_know.specs.Norms.{IsNormal}
use Rattle.aud_know.specs.Known.{Held}

-- the facts are sealed, and their history is well-formed
pub record AreWhole (plan : PlanOf) (facts : List Fact) : Type 0 where
  pub sealed : fact_status plan.logs facts ≡ Sealed
  pub well_formed : IsWellFormed (hist facts)

-- the facts are whole, and the order shows their history
abbrev pub AreShownBy : PlanOf → List Fact → List Decision → Type 0
AreShownBy plan facts p = AreWhole plan facts × Shows plan.objects (hist facts) p

-- the facts are whole, and no order that begins with the prefix shows their history
abbrev pub AreRefutedAt : PlanOf → List Fact → List Decision → Type 0
AreRefutedAt plan facts p = AreWhole plan facts × Refuted plan.objects (hist facts) p

-- if the facts conflict nowhere, and there is any refuted prefix or a witness, then they are sealed, their history is
-- well-formed, no prefix that begins with a refuted one shows it, and the witness does
pub record IsTrue (plan : PlanOf) (held : Held) : Type 0 where
  pub refuted : AreQuiet held.facts → (p : List Decision) → Contains held.cover p → AreRefutedAt plan held.facts p
  pub shown : AreQuiet held.facts → (p : List Decision) → held.witness ≡ Some p → AreShownBy plan held.facts p

-- each part is in normal form, every fact passes the plan's check, and all is true
pub record IsKnowledge (plan : PlanOf) (held : Held) : Type 0 where
  pub normal : IsNormal fact_order.ghosts.cmp decision_cmp held
  pub sound : AreSound plan held.facts
  pub true_for : IsTrue plan held
