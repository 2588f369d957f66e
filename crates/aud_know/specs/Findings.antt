-- What contracts see of a finding.
use Rattle.std.specs.Prelude.{List, ◌∷◌, map}
use Rattle.aud_facts.specs.Sets.{FactsOf, AreSound}
use Rattle.aud_facts.specs.Order.{AreOrdered}
use Rattle.aud_facts.specs.Status.{hist}
use Rattle.aud_witness.specs.Orders.{Refuted, Shows}
use Rattle.aud_know.specs.Norms.{fact, refuted, shown}
use Rattle.aud_know.specs.Known.{KnownAtom}
use Rattle.aud_know.specs.Truth.{AreWhole}
use Rattle.aud_know.specs.declared.claim.Claim.{Claim}
use Rattle.aud_know.specs.declared.claim.Claim.TheVariants as claim

-- the facts of a history under their plan, and what is said of the history, as an atom
pub record FindingOf : Type 0 where
  pub facts : FactsOf
  pub claim : KnownAtom

-- what a claim says, as an atom
abbrev pub claimed : {X : Type 0} → Claim X → KnownAtom
claimed (claim.Refuted p) = refuted p
claimed (claim.Witness p) = shown p

-- the atoms of a finding: what it says, and all facts of its history
abbrev pub found : FindingOf → List KnownAtom
found g = g.claim ∷ map fact g.facts.facts

-- what is said holds of the history of sealed facts
abbrev pub Holds : FactsOf → KnownAtom → Type 0
Holds facts (fact f) = ⊥
Holds facts (refuted p) = Refuted facts.plan.objects (hist facts.facts) p
Holds facts (shown p) = Shows facts.plan.objects (hist facts.facts) p

-- what the type of a finding keeps: the facts are sealed, their history is well-formed, and what is said of it holds
pub record IsTrueFinding (g : FindingOf) : Type 0 where
  pub ordered : AreOrdered g.facts.facts
  pub sound : AreSound g.facts.plan g.facts.facts
  pub whole : AreWhole g.facts.plan g.facts.facts
  pub holds : Holds g.facts g.claim
