-- Values under keys that are kept, as entries that ascend.
use Rattle.std.proofs.Common.{◌≡◌, ℤ, true, cond, int_lt, List, [], ◌∷◌, Option, Some, None, refl, ◌∙◌, ap, arith}
use Rattle.std.specs.declared.cmp.Ordering.TheVariants.{Less}
use Rattle.std.specs.Ordering.{int_eq, int_cmp}
use Rattle.std.specs.List.{AllByRecursion}
use Rattle.std.specs.List.Sorted.{IsStrictlySortedBy}
use Rattle.std.specs.Map.{lookup, set_value, remove_entry, keys_of}
use Rattle.std.specs.BTreeMap.{is_at, insert_entry}
use Rattle.std.proofs.lemmas.Grind.{common_steps}
use Rattle.base_undo.specs.Entries.{value_at, with_entry, without_entry, with_value, AreAbove, Ascend}
use Rattle.base_undo.specs.Keeps.{entries_in}
use Rattle.base_undo.proofs.Ints.{lt-not_eq, lt-not_lt, eq-is, lt-trans, eq-itself, lt-itself}

-- the value of a key that may be kept
abbrev pub kept_value : {V : Type 0} → Option (Option V) → Option V
kept_value None = None
kept_value (Some o) = o

pub AreAbove-trans : {X : Type 0} (j k : ℤ) (es : List (ℤ × X)) → int_lt j k ≡ true → AreAbove k es → AreAbove j es
AreAbove-trans j k [] l h = tt
AreAbove-trans j k (e ∷ es) l h = (lt-trans j k e.0 l h.0, AreAbove-trans j k es l h.1)

-- # Entries of which all keys are above a key

pub value-below : {X : Type 0} (k : ℤ) (es : List (ℤ × X)) → AreAbove k es → value_at es k ≡ None
value-below k [] h = refl
value-below k (e ∷ es) h = grind (arith, value-below k es h.1, lt-not_eq k e.0 h.0)

pub with-below : {X : Type 0} (k : ℤ) (v : X) (es : List (ℤ × X)) → AreAbove k es → with_entry es k v ≡ (k, v) ∷ es
with-below k v [] h = refl
with-below k v (e ∷ es) h = grind (arith, h.0)

pub without-below : {X : Type 0} (k : ℤ) (es : List (ℤ × X)) → AreAbove k es → without_entry es k ≡ es
without-below k [] h = refl
without-below k (e ∷ es) h = grind (arith, without-below k es h.1, lt-not_eq k e.0 h.0)

-- a key that is kept after j is above j
pub found-above : {X : Type 0} (j k : ℤ) (v : X) (es : List (ℤ × X)) → AreAbove j es → value_at es k ≡ Some v → int_lt j k ≡ true
found-above j k v [] h n = cc
found-above j k v (e ∷ es) h n = grind (arith, common_steps, found-above j k v es h.1, eq-is k e.0)

-- # A value is written and taken back

pub with-same : {X : Type 0} (es : List (ℤ × X)) (k : ℤ) (v : X) → value_at es k ≡ Some v → with_value es k v ≡ es
with-same [] k v n = refl
with-same (e ∷ es) k v n = grind (arith, common_steps, with-same es k v)

pub with-none : {X : Type 0} (es : List (ℤ × X)) (k : ℤ) (v : X) → value_at es k ≡ None → with_value es k v ≡ es
with-none [] k v n = refl
with-none (e ∷ es) k v n = grind (arith, common_steps, with-none es k v)

pub with-back : {X : Type 0} (es : List (ℤ × X)) (k : ℤ) (v w : X) → value_at es k ≡ Some w → with_value (with_value es k v) k w ≡ es
with-back [] k v w n = refl
with-back (e ∷ es) k v w n = grind (arith, common_steps, with-back es k v w)

-- to put a value under a key that is there is to write it
pub put-kept : {X : Type 0} (es : List (ℤ × X)) (k : ℤ) (v w : X) → Ascend es → value_at es k ≡ Some w → with_entry es k v ≡ with_value es k v
put-kept [] k v w h n = cc
put-kept (e ∷ es) k v w h n = grind (arith, common_steps, put-kept es k v w h.1, found-above e.0 k w es h.0, lt-not_lt e.0 k, eq-is k e.0, lt-itself k)

pub put-back : {X : Type 0} (es : List (ℤ × X)) (k : ℤ) (v w : X) → Ascend es → value_at es k ≡ Some w → with_value (with_entry es k v) k w ≡ es
put-back es k v w h n = ap (λ l. with_value l k w) (put-kept es k v w h n) ∙ with-back es k v w n

pub came-back : {X : Type 0} (es : List (ℤ × X)) (k : ℤ) (v : X) → value_at es k ≡ None → without_entry (with_entry es k v) k ≡ es
came-back [] k v n = grind (arith, common_steps, eq-itself k)
came-back (e ∷ es) k v n = grind (arith, common_steps, came-back es k v, eq-itself k)

-- # What that makes of the entries now

AreAbove-in : {V : Type 0} (k : ℤ) (es : List (ℤ × Option V)) → AreAbove k es → AreAbove k (entries_in es)
AreAbove-in k [] h = tt
AreAbove-in k ((j, None) ∷ es) h = AreAbove-in k es h.1
AreAbove-in k ((j, Some v) ∷ es) h = (h.0, AreAbove-in k es h.1)

pub Ascend-in : {V : Type 0} (es : List (ℤ × Option V)) → Ascend es → Ascend (entries_in es)
Ascend-in [] h = tt
Ascend-in ((k, None) ∷ es) h = Ascend-in es h.1
Ascend-in ((k, Some v) ∷ es) h = (AreAbove-in k es h.0, Ascend-in es h.1)

pub value-in : {V : Type 0} (es : List (ℤ × Option V)) (k : ℤ) → Ascend es → value_at (entries_in es) k ≡ kept_value (value_at es k)
value-in [] k h = refl
value-in ((j, None) ∷ es) k h = grind (arith, common_steps, value-in es k h.1, value-below k (entries_in es), AreAbove-in k es, eq-is k j)
value-in ((j, Some v) ∷ es) k h = grind (arith, common_steps, value-in es k h.1)

pub put-in : {V : Type 0} (es : List (ℤ × Option V)) (k : ℤ) (v : V) → Ascend es → entries_in (with_entry es k (Some v)) ≡ with_entry (entries_in es) k v
put-in [] k v h = refl
put-in ((j, None) ∷ es) k v h =
    grind (arith, common_steps, put-in es k v h.1, with-below k v (entries_in es), AreAbove-in k es, AreAbove-trans k j es, eq-is k j)
put-in ((j, Some w) ∷ es) k v h = grind (arith, common_steps, put-in es k v h.1)

pub take-in : {V : Type 0} (es : List (ℤ × Option V)) (k : ℤ) → Ascend es → entries_in (with_value es k None) ≡ without_entry (entries_in es) k
take-in [] k h = refl
take-in ((j, None) ∷ es) k h = grind (arith, common_steps, take-in es k h.1, without-below k (entries_in es), AreAbove-in k es, eq-is k j)
take-in ((j, Some w) ∷ es) k h = grind (arith, common_steps, take-in es k h.1)

-- # They stay ascending

less-lt : (j k : ℤ) → int_cmp j k ≡ Less → int_lt j k ≡ true
less-lt j k h = grind (arith, common_steps)

AreAbove-sorted : {X : Type 0} (k : ℤ) (es : List (ℤ × X)) → AllByRecursion (λ j. int_cmp k j ≡ Less) (keys_of es) → AreAbove k es
AreAbove-sorted k [] h = tt
AreAbove-sorted k (e ∷ es) h = (less-lt k e.0 h.0, AreAbove-sorted k es h.1)

pub Ascend-sorted : {X : Type 0} (es : List (ℤ × X)) → IsStrictlySortedBy int_cmp (keys_of es) → Ascend es
unfolding IsStrictlySortedBy
Ascend-sorted [] h = tt
Ascend-sorted (e ∷ es) h = (AreAbove-sorted e.0 es h.0, Ascend-sorted es h.1)

AreAbove-with : {X : Type 0} (j k : ℤ) (es : List (ℤ × X)) (v : X) → AreAbove j es → AreAbove j (with_value es k v)
AreAbove-with j k [] v h = h
AreAbove-with j k (e ∷ es) v h = grind (arith, common_steps, AreAbove-with j k es v h.1, h.0)

pub Ascend-with : {X : Type 0} (es : List (ℤ × X)) (k : ℤ) (v : X) → Ascend es → Ascend (with_value es k v)
Ascend-with [] k v h = h
Ascend-with (e ∷ es) k v h = grind (arith, common_steps, Ascend-with es k v h.1, AreAbove-with e.0 k es v h.0, h.0)

AreAbove-without : {X : Type 0} (j k : ℤ) (es : List (ℤ × X)) → AreAbove j es → AreAbove j (without_entry es k)
AreAbove-without j k [] h = h
AreAbove-without j k (e ∷ es) h = grind (arith, common_steps, AreAbove-without j k es h.1, h.0)

pub Ascend-without : {X : Type 0} (es : List (ℤ × X)) (k : ℤ) → Ascend es → Ascend (without_entry es k)
Ascend-without [] k h = h
Ascend-without (e ∷ es) k h = grind (arith, common_steps, Ascend-without es k h.1, AreAbove-without e.0 k es h.0, h.0)

-- # The words of the library's map

pub value-is : {X : Type 0} (es : List (ℤ × X)) (k : ℤ) → lookup (is_at (int_cmp k)) es ≡ value_at es k
value-is [] k = refl
value-is (e ∷ es) k = ap (cond (int_eq k e.0) (Some e.1)) (value-is es k)

pub with_value-is : {X : Type 0} (es : List (ℤ × X)) (k : ℤ) (v : X) → set_value (is_at (int_cmp k)) es v ≡ with_value es k v
with_value-is [] k v = refl
with_value-is (e ∷ es) k v = ap (λ l. cond (int_eq k e.0) ((e.0, v) ∷ es) (e ∷ l)) (with_value-is es k v)

pub without_entry-is : {X : Type 0} (es : List (ℤ × X)) (k : ℤ) → remove_entry (is_at (int_cmp k)) es ≡ without_entry es k
without_entry-is [] k = refl
without_entry-is (e ∷ es) k = ap (λ l. cond (int_eq k e.0) es (e ∷ l)) (without_entry-is es k)

pub with_entry-is : {X : Type 0} (es : List (ℤ × X)) (k : ℤ) (v : X) → insert_entry int_cmp es k v ≡ with_entry es k v
with_entry-is [] k v = refl
with_entry-is (e ∷ es) k v = grind (arith, common_steps, with_entry-is es k v)

-- what the library's map answers and becomes, of a key that is passed as bits, in the words of what is kept
pub found-of : {X : Type 0} {o : Option X} (es held : List (ℤ × X)) (j k : ℤ) → o ≡ lookup (is_at (int_cmp j)) es → j ≡ k → es ≡ held → o ≡ value_at held k
found-of es held j k e same is = e ∙ value-is es j ∙ (λ i. value_at (is i) (same i))

pub put-of : {X : Type 0} (es new held : List (ℤ × X)) (j k : ℤ) (v : X) → new ≡ insert_entry int_cmp es j v → j ≡ k → es ≡ held → new ≡ with_entry held k v
put-of es new held j k v e same is = e ∙ with_entry-is es j v ∙ (λ i. with_entry (is i) (same i) v)

pub written-of : {X : Type 0} (es new : List (ℤ × X)) (j k : ℤ) (v : X) → new ≡ set_value (is_at (int_cmp j)) es v → j ≡ k → new ≡ with_value es k v
written-of es new j k v e same = e ∙ with_value-is es j v ∙ ap (λ n. with_value es n v) same

pub removed-of : {X : Type 0} (es new held : List (ℤ × X)) (j k : ℤ) → new ≡ remove_entry (is_at (int_cmp j)) es → j ≡ k → es ≡ held → new ≡ without_entry held k
removed-of es new held j k e same is = e ∙ without_entry-is es j ∙ (λ i. without_entry (is i) (same i))

-- what is under a key and its clone are the same, if the values in them are
pub cloned : {V : Type 0} (IsClone : Option V → Option V → Type 0) → ((v : V) → IsClone None (Some v) → ⊥) → ((v : V) → IsClone (Some v) None → ⊥) → ((v w : V) → IsClone (Some v) (Some w) → w ≡ v) →
    (o p : Option V) → IsClone o p → p ≡ o
cloned IsClone came left both None None d = refl
cloned IsClone came left both None (Some w) d = absurd (came w d)
cloned IsClone came left both (Some v) None d = absurd (left v d)
cloned IsClone came left both (Some v) (Some w) d = ap Some (both v w d)

pub ruleset stays = (Ascend-sorted, Ascend-with, Ascend-without)

pub ruleset facts = (Ascend-in, value-in, put-in, take-in, with-same, with-none, with-back, put-back, came-back)
