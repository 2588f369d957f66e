-- A sealed set that gains a fact is in conflict.
use Rattle.std.specs.Prelude.{◌≡◌, false, List, None, ⊤}
use Rattle.aud_event.specs.Meanings.{PlanOf}
use Rattle.aud_event.specs.Facts.{first_fact_fault}
use Rattle.aud_event.specs.declared.fact.Fact.{Fact}
use Rattle.aud_event.specs.contracts.fact.FactOrd.TheImpl as fact
use Rattle.base_sorted.specs.Sets.{has, with_item}
use Rattle.aud_facts.specs.declared.status.FactStatus.{FactStatus}
use Rattle.aud_facts.specs.declared.status.FactStatus.TheVariants.{Conflict, Waiting, Gap, Sealed}
use Rattle.aud_facts.specs.Order.{AreOrdered}
use Rattle.aud_facts.specs.Sets.{FactsOf, AreSound}
use Rattle.aud_facts.specs.Status.{fact_status}

-- it is a conflict
abbrev pub IsConflict : FactStatus → Type 0
IsConflict (Conflict k log at) = ⊤
IsConflict (Waiting log) = ⊥
IsConflict (Gap stamp) = ⊥
IsConflict Sealed = ⊥

-- the status of the facts is a conflict
abbrev pub AreInConflict : FactsOf → Type 0
AreInConflict facts = IsConflict (fact_status facts.plan.logs facts.facts)

-- whatever new fact fits the plan, a sealed set that gains it is in conflict
abbrev pub SealedIsFull : Type 0
SealedIsFull = (plan : PlanOf) (facts : List Fact) (f : Fact) → AreOrdered facts → AreSound plan facts → fact_status plan.logs facts ≡ Sealed →
    first_fact_fault plan f ≡ None → has fact.ghosts.cmp facts f ≡ false → IsConflict (fact_status plan.logs (with_item fact.ghosts.cmp f facts))
