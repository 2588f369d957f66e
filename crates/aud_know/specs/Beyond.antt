-- What one Knowledge has that another has not.
use Rattle.std.specs.Prelude.{◌≡◌, ◌≢◌, ◌↔◌, ◌⊎◌, ◌++◌, Bool, MatchBool, List, Option, Some}
use Rattle.std.specs.List.{Contains}
use Rattle.aud_event.specs.declared.fact.Fact.{Fact}
use Rattle.aud_witness.specs.declared.decision.Decision.{Decision}
use Rattle.aud_know.specs.Norms.{atoms_of}
use Rattle.aud_know.specs.Known.{Held, norm_of}

-- the items that the other has not
abbrev pub AreNew : {T : Type 0} → List T → List T → List T → Type 0
AreNew {T} held other new = (x : T) → Contains new x ↔ (Contains held x × ¬ (Contains other x))

-- the witness, where the other has not the same
abbrev pub IsNewWitness : Option (List Decision) → Option (List Decision) → Option (List Decision) → Type 0
IsNewWitness held other new = (p : List Decision) → (new ≡ Some p) ↔ ((held ≡ Some p) × (other ≢ Some p))

-- there is a refuted prefix or a witness
abbrev pub HasFinding : List (List Decision) → Option (List Decision) → Type 0
HasFinding cover witness = (p : List Decision) × (Contains cover p ⊎ (witness ≡ Some p))

-- the refuted prefixes that the other has not; the witness where the other has not the same; and all facts where there is any of
-- these, else the facts that the other has not
pub record IsBeyond (held other new : Held) : Type 0 where
  pub cover : AreNew held.cover other.cover new.cover
  pub witness : IsNewWitness held.witness other.witness new.witness
  pub all_facts : HasFinding new.cover new.witness → new.facts ≡ held.facts
  pub new_facts : ¬ (HasFinding new.cover new.witness) → AreNew held.facts other.facts new.facts

-- the facts are all that are held, or those of them that the other has not, as the test says
abbrev pub AreAllOrNew : Bool → List Fact → List Fact → List Fact → Type 0
AreAllOrNew all held other new = MatchBool all (new ≡ held) (AreNew held other new)

-- joined to the other, both give the same
abbrev pub JoinAlike : Held → Held → Held → Type 0
JoinAlike other x y = norm_of (atoms_of other ++ atoms_of x) ≡ norm_of (atoms_of other ++ atoms_of y)
