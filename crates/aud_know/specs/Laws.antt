-- Laws of normal forms and of verdicts, each the contract of a function of src/laws.rt.
use Rattle.std.specs.Prelude.{◌≡◌, ◌↔◌, List, [], ◌++◌}
use Rattle.std.specs.List.{Contains}
use Rattle.aud_event.specs.Meanings.{Declared}
use Rattle.aud_history.specs.Histories.{History}
use Rattle.aud_witness.specs.declared.decision.Decision.{Decision}
use Rattle.aud_witness.specs.Orders.{Refuted}
use Rattle.aud_know.specs.Norms.{atoms_of}
use Rattle.aud_know.specs.Known.{KnownAtom, Held, norm_of, KnowledgeOf, knowing}
use Rattle.aud_know.specs.Members.{IsNormOf}
use Rattle.aud_know.specs.Truth.{IsKnowledge, AreShownBy, AreRefutedAt}
use Rattle.aud_know.specs.Verdicts.{IsVerdict}
use Rattle.aud_know.specs.declared.verdict.Verdict.{Verdict}
use Rattle.aud_know.specs.declared.verdict.Verdict.TheVariants as verdict

-- the normal form of atoms is what has exactly their facts, their first refuted prefixes and their least witness
abbrev pub NormIsExact : Type 0
NormIsExact = (atoms : List KnownAtom) (held : Held) → (held ≡ norm_of atoms) ↔ IsNormOf atoms held

-- equal sets of atoms, in any order or grouping and with repeats, have one normal form
abbrev pub NormIsOfSet : Type 0
NormIsOfSet = (xs ys : List KnownAtom) → ((a : KnownAtom) → Contains xs a → Contains ys a) → ((a : KnownAtom) → Contains ys a → Contains xs a) → norm_of xs ≡ norm_of ys

-- a Knowledge is that of its own atoms
abbrev pub KnowledgeIsNorm : Type 0
KnowledgeIsNorm = (k : KnowledgeOf) → IsKnowledge k.plan k.held → k ≡ knowing k.plan (atoms_of k.held)

-- what a normal form absorbed does not show
abbrev pub NormAbsorbs : Type 0
NormAbsorbs = (xs ys : List KnownAtom) → norm_of (ys ++ atoms_of (norm_of xs)) ≡ norm_of (ys ++ xs)

-- equal Knowledge has one verdict
abbrev pub VerdictIsOne : Type 0 → Type 0
VerdictIsOne X = (k : KnowledgeOf) (v w : Verdict X) → IsVerdict k v → IsVerdict k w → v ≡ w

-- Opaque is said of a sealed well-formed history only with an order that shows it
abbrev pub OpaqueIsShown : Type 0 → Type 0
OpaqueIsShown X = (k : KnowledgeOf) (p : List Decision) → IsKnowledge k.plan k.held → IsVerdict {X = X} k (verdict.Opaque p) → AreShownBy k.plan k.held.facts p

-- NotOpaque is said of one only where no order shows it
abbrev pub NotOpaqueIsRefuted : Type 0 → Type 0
NotOpaqueIsRefuted X = (k : KnowledgeOf) → IsKnowledge k.plan k.held → IsVerdict {X = X} k verdict.NotOpaque → AreRefutedAt k.plan k.held.facts []
