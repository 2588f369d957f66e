-- What is kept beside what is there now, so that a change can be taken back with no memory.
use Rattle.std.specs.Prelude.{◌≡◌, ℕ, ℤ, if◌then◌else◌, List, [], ◌∷◌, drop, take, length, nat_lt, ◌-◌, Option, Some, None, MatchOption, ◌<◌}
use Rattle.std.specs.Map.{keys_of}
use Rattle.base_undo.specs.declared.tombstone_map.TombstoneChange.{TombstoneChange}
use Rattle.base_undo.specs.declared.tombstone_map.TombstoneChange.TheVariants as kept
use Rattle.base_undo.specs.declared.items.ItemsChange.{ItemsChange}
use Rattle.base_undo.specs.declared.items.ItemsChange.TheVariants as item
use Rattle.base_undo.specs.Entries.{with_value, without_entry}

-- a queue keeps the items that left: all items that came, and how many of them left
pub record ItemsOf : Type 0 where
  pub all : List ℤ
  pub gone : ℕ

-- the items of a queue, the front first
abbrev pub items_in : ItemsOf → List ℤ
items_in q = drop q.gone q.all

-- values under keys are kept as keys, ascending, each with the value that it has now, or with none where it had one before
abbrev pub Slots : Type 0 → Type 0
Slots V = List (ℤ × Option V)

-- the entries now: the keys that have a value
abbrev pub entries_in : {V : Type 0} → List (ℤ × Option V) → List (ℤ × V)
entries_in [] = []
entries_in ((k, None) ∷ es) = entries_in es
entries_in ((k, Some v) ∷ es) = (k, v) ∷ entries_in es

-- the members of a set: the keys that have a value
abbrev pub members : {V : Type 0} → List (ℤ × Option V) → List ℤ
members es = keys_of (entries_in es)

-- how values under keys take a change back
abbrev pub back_kept : {V : Type 0} → List (ℤ × Option V) → TombstoneChange V → List (ℤ × Option V)
back_kept es (kept.Had k v) = with_value es k (Some v)
back_kept es (kept.Lacked k) = with_value es k None
back_kept es (kept.Came k) = without_entry es k

-- how a queue takes a change back
abbrev pub back_items : ItemsOf → ItemsChange → ItemsOf
back_items q item.Came = if nat_lt q.gone (length q.all) then record { all = take (length q.all - 1) q.all; gone = q.gone } else q
back_items q item.Left = record { all = q.all; gone = q.gone - 1 }

-- the first was taken, if there was one
abbrev pub TakesFirst : {X : Type 0} → List X → List X → Option X → Type 0
TakesFirst old new found = MatchOption found ((old ≡ []) × (new ≡ [])) (λ x. old ≡ x ∷ new)

-- keys were passed up to the next that has a value and with it, if one was left
abbrev pub PassesEntry : {V : Type 0} → List (ℤ × Option V) → List (ℤ × Option V) → Option (ℤ × V) → Type 0
PassesEntry old new found = MatchOption found (entries_in old ≡ []) (λ e. (entries_in old ≡ e ∷ entries_in new) × (length new < length old))
