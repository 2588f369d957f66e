-- What an object holds, what it answers, and the event lists that are in its sequential specification.
use Rattle.std.specs.Prelude.{◌≡◌, ℕ, ℤ, pos, ◌+ℤ◌, ◌-ℤ◌, Bool, false, not, if◌then◌else◌, int_lt, int_le, ◌&&◌, nat_eq, is_some, Option, None, List, [], ◌∷◌, ◌++◌, Some, slice_get}
use Rattle.std.specs.List.{list_any}
use Rattle.std.specs.Ordering.{int_eq}
use Rattle.aud_event.specs.declared.object.ObjKind.{ObjKind}
use Rattle.aud_event.specs.declared.object.ObjKind.TheVariants as kind
use Rattle.aud_event.specs.declared.object.Op.{Op}
use Rattle.aud_event.specs.declared.object.Op.TheVariants.{Read, Write, Inc, Dec, Get, Add, Remove, Contains, Enq, Deq, Plus, Put, Look, Del}
use Rattle.aud_event.specs.declared.object.Answer.{Answer}
use Rattle.aud_event.specs.declared.object.Answer.TheVariants.{Done, Int, Flag, Empty}
use Rattle.aud_event.specs.declared.fact.Event.{Event}
use Rattle.aud_event.specs.declared.fact.Event.TheVariants.{Inv, Ret}
use Rattle.aud_event.specs.Meanings.{Declared}
use Rattle.std.specs.Int.{w64, cast_unsigned}
use Rattle.base_undo.specs.Digests.{stirred, digest_values, digest_entries}
use Rattle.base_undo.specs.Entries.{value_at, with_entry, without_entry}

-- what an object holds: a set its members, the least first; a queue its items, the front first; a map its entries, the least
-- key first
pub data ObjState : Type 0 where
  register : ℤ → ObjState
  counter : ℤ → ObjState
  set_of : List ℤ → ObjState
  queue : List ℤ → ObjState
  map_of : List (ℤ × ℤ) → ObjState

-- at which state an object opens: a register and a counter at the declared value, the others empty
abbrev pub opens_at : ObjKind → ℤ → ObjState
opens_at kind.Register v = register v
opens_at kind.Counter v = counter v
opens_at kind.SetOf v = set_of []
opens_at kind.Queue v = queue []
opens_at kind.MapOf v = map_of []

abbrev pub opening_of : Declared → ObjState
opening_of d = opens_at d.kind d.opening

-- the kind of the object that holds the state
abbrev pub kind_of : ObjState → ObjKind
kind_of (register v) = kind.Register
kind_of (counter v) = kind.Counter
kind_of (set_of s) = kind.SetOf
kind_of (queue q) = kind.Queue
kind_of (map_of m) = kind.MapOf

-- whether a value is a member
abbrev pub has_member : List ℤ → ℤ → Bool
has_member s v = list_any (int_eq v) s

-- the members with one value more, in its place by size
abbrev pub with_member : List ℤ → ℤ → List ℤ
with_member [] v = v ∷ []
with_member (x ∷ s) v = if int_lt v x then v ∷ x ∷ s else (if int_eq v x then x ∷ s else x ∷ with_member s v)

-- the members without a value
abbrev pub without_member : List ℤ → ℤ → List ℤ
without_member [] v = []
without_member (x ∷ s) v = if int_eq v x then s else x ∷ without_member s v

-- what a queue answers to a removal from its front
abbrev pub front_of : List ℤ → Answer
front_of [] = Empty
front_of (v ∷ q) = Int v

-- the items after the front one
abbrev pub after_front : List ℤ → List ℤ
after_front [] = []
after_front (v ∷ q) = q

-- the greatest i64
abbrev pub greatest : ℤ
greatest = pos 9223372036854775807

-- the least i64
abbrev pub least : ℤ
least = pos 0 -ℤ pos 9223372036854775808

-- whether a number is an i64
abbrev pub is_within : ℤ → Bool
is_within n = int_le least n && int_le n greatest

-- a sum, or what was there where the sum is no i64
abbrev pub plus_or_stay : ℤ → ℤ → ℤ
plus_or_stay n k = if is_within (n +ℤ k) then n +ℤ k else n

-- what a map answers to a look at a key
abbrev pub found : Option ℤ → Answer
found None = Empty
found (Some v) = Int v

-- the items of a queue; of other objects none
abbrev pub items_of : ObjState → List ℤ
items_of (queue q) = q
items_of _ = []

-- The table: what an operation answers. Its last row is for the operations of other kinds and for none else:
-- `HasAnswers` and `EachObservingTells` refuse a kind whose row is forgotten.
abbrev pub answer_of : ObjState → Op → Answer
answer_of (register v) Read = Int v
answer_of (register v) (Write _) = Done
answer_of (counter n) Inc = Done
answer_of (counter n) Dec = Done
answer_of (counter n) Get = Int n
answer_of (set_of s) (Add v) = Flag (not (has_member s v))
answer_of (set_of s) (Remove v) = Flag (has_member s v)
answer_of (set_of s) (Contains v) = Flag (has_member s v)
answer_of (queue q) (Enq _) = Done
answer_of (queue q) Deq = front_of q
answer_of (counter n) (Plus _) = Done
answer_of (map_of m) (Put _ _) = Done
answer_of (map_of m) (Look k) = found (value_at m k)
answer_of (map_of m) (Del k) = Flag (is_some (value_at m k))
answer_of _ _ = Done

-- The table: what the object then holds; a counter at the end of its range stays. Its last row is for the operations that
-- observe and for those of other kinds: `EachOtherChanges` refuses a kind whose row is forgotten.
abbrev pub after_op : ObjState → Op → ObjState
after_op (register v) (Write w) = register w
after_op (counter n) Inc = counter (if int_eq n greatest then n else n +ℤ pos 1)
after_op (counter n) Dec = counter (if int_eq n least then n else n -ℤ pos 1)
after_op (set_of s) (Add v) = set_of (with_member s v)
after_op (set_of s) (Remove v) = set_of (without_member s v)
after_op (queue q) (Enq v) = queue (q ++ v ∷ [])
after_op (queue q) Deq = queue (after_front q)
after_op (counter n) (Plus k) = counter (plus_or_stay n k)
after_op (map_of m) (Put k v) = map_of (with_entry m k v)
after_op (map_of m) (Del k) = map_of (without_entry m k)
after_op state _ = state

-- a number for the state, the same for states that mean the same
abbrev pub digest_of : ObjState → ℕ
digest_of (register v) = stirred 1 (cast_unsigned w64 v)
digest_of (counter v) = stirred 2 (cast_unsigned w64 v)
digest_of (set_of s) = digest_values 3 s
digest_of (queue q) = digest_values 4 q
digest_of (map_of m) = digest_entries (λ digest v. stirred digest (cast_unsigned w64 v)) 5 m

-- whether an event is an invocation or a response on an object
abbrev pub is_on : ℕ → Event → Bool
is_on ob (Inv o _) = nat_eq o ob
is_on ob (Ret o _ _) = nat_eq o ob
is_on ob _ = false

-- the invocations and responses on an object, in their order
abbrev pub on_object : ℕ → List Event → List Event
on_object ob [] = []
on_object ob (e ∷ es) = if is_on ob e then e ∷ on_object ob es else on_object ob es

-- Seq(ob): executions whose answers are, one after another, those of the table. One trailing invocation may follow.
abbrev pub IsInSeq : ObjState → List Event → Type 0
IsInSeq state [] = Unit {0}
IsInSeq state (Inv _ op ∷ []) = Unit {0}
IsInSeq state (Inv _ op ∷ Ret _ _ answer ∷ es) = (answer ≡ answer_of state op) × IsInSeq (after_op state op) es
IsInSeq state _ = ⊥

-- on each object of the plan the events are in Seq of the object
abbrev pub IsLegal : List Declared → List Event → Type 0
IsLegal objects es = (ob : ℕ) (d : Declared) → slice_get objects ob ≡ Some d → IsInSeq (opening_of d) (on_object ob es)
