-- The atoms of what a Knowledge takes.
use Rattle.std.specs.Prelude.{◌≡◌, List, [], ◌∷◌, None}
use Rattle.aud_event.specs.Meanings.{PlanOf}
use Rattle.aud_event.specs.Facts.{first_fact_fault}
use Rattle.aud_know.specs.Norms.{fact, atoms_of}
use Rattle.aud_know.specs.Known.{KnownAtom}
use Rattle.aud_know.specs.Findings.{found}
use Rattle.aud_know.specs.declared.item.Item.{Item}
use Rattle.aud_know.specs.declared.item.Item.TheVariants as item

-- the atoms of an item: a fact is its own; a finding's; and those of what a Knowledge holds
abbrev pub item_atoms : {X : Type 0} → Item X → List KnownAtom
item_atoms (item.Fact f) = fact f ∷ []
item_atoms (item.Finding g) = found g
item_atoms (item.Known k) = atoms_of k.value.held

-- the item is of the plan: a fact passes its check, a finding or a Knowledge has an equal one
abbrev pub IsOfPlan : {X : Type 0} → PlanOf → Item X → Type 0
IsOfPlan plan (item.Fact f) = first_fact_fault plan f ≡ None
IsOfPlan plan (item.Finding g) = g.facts.plan ≡ plan
IsOfPlan plan (item.Known k) = k.value.plan ≡ plan
