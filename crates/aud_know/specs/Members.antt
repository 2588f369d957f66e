-- What the normal form of atoms has.
use Rattle.std.specs.Prelude.{◌≡◌, ◌↔◌, List, ◌++◌, Option, Some, None}
use Rattle.std.specs.List.{Contains}
use Rattle.std.specs.List.Sorted.{IsStrictlySortedBy}
use Rattle.std.specs.Cmp.Lexicographic.{slice_cmp}
use Rattle.std.specs.declared.cmp.Ordering.TheVariants.{Less}
use Rattle.aud_event.specs.declared.fact.Fact.{Fact}
use Rattle.aud_facts.specs.Order.{AreOrdered}
use Rattle.aud_witness.specs.declared.decision.Decision.{Decision}
use Rattle.aud_witness.specs.DecisionOrder.{decision_cmp}
use Rattle.aud_know.specs.Norms.{fact, refuted, shown}
use Rattle.aud_know.specs.Known.{KnownAtom, Held}

-- p is refuted by an atom, and no proper beginning of it is
pub record IsFirstRefuted (atoms : List KnownAtom) (p : List Decision) : Type 0 where
  pub there : Contains atoms (refuted p)
  pub first : (q rest : List Decision) → Contains atoms (refuted q) → p ≡ q ++ rest → q ≡ p

-- a witness is among the atoms, and none of them is less; or there is none
abbrev pub IsLeastShown : List KnownAtom → Option (List Decision) → Type 0
IsLeastShown atoms None = (q : List Decision) → Contains atoms (shown q) → ⊥
IsLeastShown atoms (Some p) = Contains atoms (shown p) × ((q : List Decision) → Contains atoms (shown q) → slice_cmp decision_cmp q p ≡ Less → ⊥)

-- the facts are those of the atoms, each once, least first; the refuted prefixes are those of which no proper beginning is
-- refuted, each once, least first; and the witness is the least
pub record IsNormOf (atoms : List KnownAtom) (held : Held) : Type 0 where
  pub facts : (f : Fact) → Contains held.facts f ↔ Contains atoms (fact f)
  pub ordered : AreOrdered held.facts
  pub cover : (p : List Decision) → Contains held.cover p ↔ IsFirstRefuted atoms p
  pub rising : IsStrictlySortedBy (slice_cmp decision_cmp) held.cover
  pub witness : IsLeastShown atoms held.witness
