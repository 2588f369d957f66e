-- Every state that an object comes to is proper; what is a member then, and what is under a key.
use Rattle.std.specs.Prelude.{◌≡◌, ℤ, Bool, true, false, not, ◌&&◌, ◌||◌, int_lt, List, [], ◌∷◌, Some, None, refl}
use Rattle.std.specs.Ordering.{int_eq}
use Rattle.std.proofs.Common.{cond, arith}
use Rattle.std.proofs.lemmas.Grind.{common_steps}
use Rattle.aud_event.specs.declared.object.Op.{Op}
use Rattle.aud_event.specs.declared.object.Op.TheVariants.{Inc, Add, Remove, Put, Del}
use Rattle.aud_event.specs.declared.object.ObjKind.{ObjKind}
use Rattle.aud_event.specs.declared.object.ObjKind.TheVariants as kind
use Rattle.aud_event.specs.Meanings.{Declared}
use Rattle.aud_kinds.specs.Objects.{ObjState, set_of, map_of, has_member, with_member, without_member, after_op, opens_at, opening_of}
use Rattle.base_undo.specs.Entries.{value_at, with_entry, without_entry, AreAbove, Ascend}
use Rattle.aud_object.specs.Proper.{IsBelow, MembersAscend, IsProper}
use Rattle.base_undo.proofs.Ints.{lt-not_eq, eq-is, lt-trans, above}
use Rattle.base_undo.proofs.Keeping.{AreAbove-trans, value-below, Ascend-without}

-- # Members

pub has-with : (s : List ℤ) (e k : ℤ) → has_member (with_member s e) k ≡ (int_eq k e || has_member s k)
has-with [] e k = refl
has-with (x ∷ s) e k = grind (arith, common_steps, has-with s e k, eq-is e x)

below-trans : (v w : ℤ) (s : List ℤ) → int_lt v w ≡ true → IsBelow w s → IsBelow v s
below-trans v w [] l h = tt
below-trans v w (x ∷ s) l h = (lt-trans v w x l h.0, below-trans v w s l h.1)

below-none : (v : ℤ) (s : List ℤ) → IsBelow v s → has_member s v ≡ false
below-none v [] h = refl
below-none v (x ∷ s) h = grind (arith, below-none v s h.1, lt-not_eq v x h.0)

pub has-without : (s : List ℤ) (e k : ℤ) → MembersAscend s → has_member (without_member s e) k ≡ (not (int_eq k e) && has_member s k)
has-without [] e k h = grind (arith, common_steps)
has-without (x ∷ s) e k h = grind (arith, common_steps, has-without s e k h.1, below-none x s h.0, eq-is e x, eq-is k x, eq-is k e)

below-with : (v e : ℤ) (s : List ℤ) → IsBelow v s → int_lt v e ≡ true → IsBelow v (with_member s e)
below-with v e [] h l = (l, tt)
below-with v e (x ∷ s) h l = grind (arith, common_steps, below-with v e s h.1 l, h.0, h.1)

below-without : (v e : ℤ) (s : List ℤ) → IsBelow v s → IsBelow v (without_member s e)
below-without v e [] h = tt
below-without v e (x ∷ s) h = grind (arith, common_steps, below-without v e s h.1, h.0, h.1)

pub ascend-with : (s : List ℤ) (e : ℤ) → MembersAscend s → MembersAscend (with_member s e)
ascend-with [] e h = (tt, tt)
ascend-with (x ∷ s) e h = grind (arith, common_steps, ascend-with s e h.1, below-with x e s h.0, below-trans e x s, h.0, h.1, eq-is e x)

pub ascend-without : (s : List ℤ) (e : ℤ) → MembersAscend s → MembersAscend (without_member s e)
ascend-without [] e h = tt
ascend-without (x ∷ s) e h = grind (arith, common_steps, ascend-without s e h.1, below-without x e s h.0, h.0, h.1)

-- # Keys of maps that ascend

pub value-with : {X : Type 0} (es : List (ℤ × X)) (k j : ℤ) (v : X) → value_at (with_entry es k v) j ≡ cond (int_eq j k) (Some v) (value_at es j)
value-with [] k j v = refl
value-with (e ∷ es) k j v = grind (arith, common_steps, value-with es k j v, eq-is k e.0, eq-is j k, eq-is j e.0)

pub value-without : {X : Type 0} (es : List (ℤ × X)) (k j : ℤ) → Ascend es → value_at (without_entry es k) j ≡ cond (int_eq j k) None (value_at es j)
value-without [] k j h = grind (arith, common_steps)
value-without (e ∷ es) k j h = grind (arith, common_steps, value-without es k j h.1, value-below e.0 es h.0, eq-is k e.0, eq-is j k, eq-is j e.0)

above-with : {X : Type 0} (j k : ℤ) (es : List (ℤ × X)) (v : X) → int_lt j k ≡ true → AreAbove j es → AreAbove j (with_entry es k v)
above-with j k [] v l h = (l, tt)
above-with j k (e ∷ es) v l h = go (above-with j k es v l h.1) (int_lt k e.0) (int_eq k e.0)
  where
    go : AreAbove j (with_entry es k v) → (a b : Bool) → AreAbove j (cond a ((k, v) ∷ e ∷ es) (cond b ((e.0, v) ∷ es) (e ∷ with_entry es k v)))
    go more true b = (l, h)
    go more false true = h
    go more false false = (h.0, more)

pub keys-with : {X : Type 0} (es : List (ℤ × X)) (k : ℤ) (v : X) → Ascend es → Ascend (with_entry es k v)
keys-with [] k v h = (tt, tt)
keys-with (e ∷ es) k v h = go (keys-with es k v h.1) (int_lt k e.0) refl (int_eq k e.0) refl
  where
    go : Ascend (with_entry es k v) → (a : Bool) → int_lt k e.0 ≡ a → (b : Bool) → int_eq k e.0 ≡ b → Ascend (cond a ((k, v) ∷ e ∷ es) (cond b ((e.0, v) ∷ es) (e ∷ with_entry es k v)))
    go more true less b is = ((less, AreAbove-trans k e.0 es less h.0), h)
    go more false less true is = h
    go more false less false is = (above-with e.0 k es v (above k e.0 less (let flip : int_eq e.0 k ≡ false = grind (arith, common_steps, is) in flip)) h.0, more)

-- # Every operation

-- what changes neither a set nor a map leaves the state proper
pub proper-after : (s : ObjState) (op : Op) → IsProper s → IsProper (after_op s op)
proper-after (set_of s) (Add v) h = ascend-with s v h
proper-after (set_of s) (Remove v) h = ascend-without s v h
proper-after (map_of m) (Put k v) h = keys-with m k v h
proper-after (map_of m) (Del k) h = Ascend-without m k h
proper-after _ Inc h = h
proper-after _ _ h = h

pub proper-opening : (d : Declared) → IsProper (opening_of d)
proper-opening d = go d.kind
  where
    go : (k : ObjKind) → IsProper (opens_at k d.opening)
    go kind.SetOf = tt
    go _ = tt
