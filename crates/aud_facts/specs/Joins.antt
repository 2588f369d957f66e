-- Joins of sets of facts.
use Rattle.std.specs.Prelude.{◌≡◌, List}
use Rattle.std.specs.declared.cmp.Ordering.{Ordering}
use Rattle.std.specs.List.Sorted.{IsStrictlySortedBy}
use Rattle.aud_event.specs.contracts.fact.FactOrd.TheImpl as fact
use Rattle.base_sorted.specs.Sets.{union}
use Rattle.aud_facts.specs.Order.{AreOrdered}
use Rattle.aud_facts.specs.Sets.{FactsOf}

-- the first's plan, and the facts of both
abbrev pub joined : FactsOf → FactsOf → FactsOf
joined x y = record { plan = x.plan; facts = union fact.ghosts.cmp x.facts y.facts }

-- which of two is joined to the other does not show
abbrev pub JoinsCommute : Type 0
JoinsCommute = (x y : FactsOf) → AreOrdered x.facts → AreOrdered y.facts → x.plan ≡ y.plan → joined x y ≡ joined y x

-- nor does the grouping
abbrev pub JoinsAssociate : Type 0
JoinsAssociate = (x y z : FactsOf) → AreOrdered x.facts → AreOrdered y.facts → AreOrdered z.facts → joined (joined x y) z ≡ joined x (joined y z)

-- nor do repeats
abbrev pub JoinsRepeat : Type 0
JoinsRepeat = (x : FactsOf) → AreOrdered x.facts → joined x x ≡ x

-- the same for lists of any items in their order
abbrev pub UnionsCommute : {T : Type 0} → (T → T → Ordering) → Type 0
UnionsCommute {T} cmp = (xs ys : List T) → IsStrictlySortedBy cmp xs → IsStrictlySortedBy cmp ys → union cmp xs ys ≡ union cmp ys xs

abbrev pub UnionsAssociate : {T : Type 0} → (T → T → Ordering) → Type 0
UnionsAssociate {T} cmp =
    (xs ys zs : List T) → IsStrictlySortedBy cmp xs → IsStrictlySortedBy cmp ys → IsStrictlySortedBy cmp zs → union cmp (union cmp xs ys) zs ≡ union cmp xs (union cmp ys zs)

abbrev pub UnionsRepeat : {T : Type 0} → (T → T → Ordering) → Type 0
UnionsRepeat {T} cmp = (xs : List T) → IsStrictlySortedBy cmp xs → union cmp xs xs ≡ xs
