-- What contracts see of a Knowledge, and of what it takes.
use Rattle.std.specs.Prelude.{◌≡◌, List, [], ◌++◌, Option, Some, None}
use Rattle.std.specs.Arc.{arc_value}
use Rattle.std.specs.declared.sync.Arc.{Arc}
use Rattle.aud_event.specs.Meanings.{PlanOf}
use Rattle.aud_event.specs.declared.fact.Fact.{Fact}
use Rattle.aud_event.specs.contracts.fact.FactOrd.TheImpl as fact_order
use Rattle.aud_facts.specs.Sets.{FactsOf}
use Rattle.aud_witness.specs.declared.decision.Decision.{Decision}
use Rattle.aud_witness.specs.DecisionOrder.{decision_cmp}
use Rattle.aud_know.specs.Norms.{AtomOf, Norm, norm}

-- an atom of what is known of a history
abbrev pub KnownAtom : Type 0
KnownAtom = AtomOf Fact Decision

-- facts, refuted prefixes, and a witness
abbrev pub Held : Type 0
Held = Norm Fact Decision

-- the normal form of atoms
abbrev pub norm_of : List KnownAtom → Held
norm_of xs = norm fact_order.ghosts.cmp decision_cmp xs

-- a plan, and what is held under it
pub record KnowledgeOf : Type 0 where
  pub plan : PlanOf
  pub held : Held

-- the Knowledge of atoms
abbrev pub knowing : PlanOf → List KnownAtom → KnowledgeOf
knowing plan xs = record { plan = plan; held = norm_of xs }

-- the facts are known, and nothing was found of them
abbrev pub knowing_facts : FactsOf → KnowledgeOf
knowing_facts f = record { plan = f.plan; held = record { facts = f.facts; cover = []; witness = None } }

-- the atoms are taken: what was the normal form of xs is that of xs with them
abbrev pub Takes : Held → Held → List KnownAtom → Type 0
Takes old new atoms = (xs : List KnownAtom) → old ≡ norm_of xs → new ≡ norm_of (xs ++ atoms)

-- what a link leads to, if there is one
abbrev pub linked : {T Z : Type 0} → Option (Arc T Z) → Option T
linked None = None
linked (Some a) = Some (arc_value a)
