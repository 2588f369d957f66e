-- What contracts see of a set of facts.
use Rattle.std.specs.Prelude.{◌≡◌, ℕ, List, None, ◌↔◌}
use Rattle.aud_event.specs.declared.fact.Event.{Event}
use Rattle.aud_facts.specs.declared.status.FactStatus.{FactStatus}
use Rattle.aud_facts.specs.declared.status.FactStatus.TheVariants.{Sealed}
use Rattle.aud_facts.specs.Status.{fact_status, hist}
use Rattle.std.specs.List.{AllByRecursion, Contains}
use Rattle.aud_event.specs.declared.fact.Fact.{Fact}
use Rattle.aud_event.specs.Meanings.{PlanOf}
use Rattle.aud_event.specs.Facts.{first_fact_fault}

-- facts under a plan
pub record FactsOf : Type 0 where
  pub plan : PlanOf
  pub facts : List Fact

-- every fact passes the plan's check
abbrev pub AreSound : PlanOf → List Fact → Type 0
AreSound plan facts = AllByRecursion (λ f. first_fact_fault plan f ≡ None) facts

-- a sealed set with its history
pub record SealedOf : Type 0 where
  pub facts : FactsOf
  pub history : List (ℕ × Event)

-- every log has its end mark and its records, and no stamp is missing
abbrev pub AreSealed : FactsOf → Type 0
AreSealed facts = fact_status facts.plan.logs facts.facts ≡ Sealed

-- the facts are sealed, and this is their history
pub record IsSealedWith (facts : FactsOf) (history : List (ℕ × Event)) : Type 0 where
  pub sealed : fact_status facts.plan.logs facts.facts ≡ Sealed
  pub events : history ≡ hist facts.facts

-- the sealed set is that of the facts
abbrev pub IsSealOf : FactsOf → SealedOf → Type 0
IsSealOf facts sealed = (sealed.facts ≡ facts) × IsSealedWith facts sealed.history

-- the status of facts that are not sealed
abbrev pub IsStatusOfUnsealed : FactsOf → FactStatus → Type 0
IsStatusOfUnsealed facts status = (fact_status facts.plan.logs facts.facts ≡ status) × (status ≡ Sealed → ⊥)

-- exactly the facts of one set that another has not
abbrev pub AreWithout : List Fact → List Fact → List Fact → Type 0
AreWithout ours theirs left = (f : Fact) → Contains left f ↔ (Contains ours f × (Contains theirs f → ⊥))
