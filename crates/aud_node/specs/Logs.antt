-- Lists of offers, and what they make known.
use Rattle.std.specs.Prelude.{ℕ, zero, suc, ◌≡◌, ◌++◌, ◌==◌, if◌then◌else◌, List, [], ◌∷◌, map}
use Rattle.std.specs.Arc.{arc_value}
use Rattle.std.specs.declared.sync.Arc.{Arc}
use Rattle.std.specs.declared.alloc.Global.{Global}
use Rattle.aud_event.specs.Meanings.{PlanOf}
use Rattle.aud_witness.specs.declared.decision.Decision.{Decision}
use Rattle.aud_cover.specs.Closings.{IsCovered}
use Rattle.aud_know.specs.declared.item.Item.{Item}
use Rattle.aud_know.specs.Items.{item_atoms}
use Rattle.aud_know.specs.Known.{KnownAtom, KnowledgeOf, knowing, Takes}
use Rattle.aud_know.specs.Truth.{AreRefutedAt, AreShownBy}
use Rattle.aud_know.specs.declared.verdict.Verdict.{Verdict}
use Rattle.aud_know.specs.declared.verdict.Verdict.TheVariants as verdict

-- an offer: the seat that made it, and the item
abbrev pub Entry : Type 0
Entry = ℕ × Item Global

-- the items of one seat, in order
abbrev pub own : ℕ → List Entry → List (Item Global)
own seat [] = []
own seat (e ∷ es) = if e.0 == seat then e.1 ∷ own seat es else own seat es

-- the atoms of all items
abbrev pub atoms_in : List Entry → List KnownAtom
atoms_in [] = []
atoms_in (e ∷ es) = item_atoms e.1 ++ atoms_in es

-- the state of a list of offers under a plan: the normal form of the atoms of its items
abbrev pub state_of : PlanOf → List Entry → KnowledgeOf
state_of plan log = knowing plan (atoms_in log)

-- the state of the offers has a refuted prefix that begins the prefix
abbrev pub IsKnownIn : PlanOf → List Entry → List Decision → Type 0
IsKnownIn plan log prefix = IsCovered (state_of plan log).held.cover prefix

-- where the verdict is opaque, the facts of the state are sealed, their history is well-formed, and the order that it carries shows it
abbrev pub SaysOpaque : {X : Type 0} → KnowledgeOf → Verdict X → Type 0
SaysOpaque k v = (p : List Decision) → v ≡ verdict.Opaque p → AreShownBy k.plan k.held.facts p

-- and where it is not opaque, no order shows it
abbrev pub SaysNotOpaque : {X : Type 0} → KnowledgeOf → Verdict X → Type 0
SaysNotOpaque k v = v ≡ verdict.NotOpaque → AreRefutedAt k.plan k.held.facts []

-- what is known once an item more is taken
abbrev pub IsWider : KnowledgeOf → Item Global → KnowledgeOf → Type 0
IsWider old item new = (new.plan ≡ old.plan) × Takes old.held new.held (item_atoms item)

-- what a list that shares its items says
abbrev pub written_of : List (ℕ × Arc (Item Global) Global) → List Entry
written_of items = map (λ p. (p.0, arc_value p.1)) items

-- the new list begins with the old one, and its last entry is the offer
abbrev pub Offered : List Entry → List Entry → ℕ → Item Global → Type 0
Offered old new seat item = (between : List Entry) × (new ≡ (old ++ between) ++ (seat, item) ∷ [])

-- the numbers below n, in order
abbrev pub upto : ℕ → List ℕ
upto zero = []
upto (suc n) = upto n ++ n ∷ []
