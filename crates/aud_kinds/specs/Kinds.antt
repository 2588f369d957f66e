-- The laws of an implementation of a kind, and that the kinds keep them.
use Rattle.std.specs.Prelude.{◌≡◌, ℤ, true, List, [], ◌∷◌, Option, Some, None}
use Rattle.std.proofs.Common.{refl}
use Rattle.aud_event.specs.declared.object.ObjKind.{ObjKind}
use Rattle.aud_event.specs.declared.object.ObjKind.TheVariants as kind
use Rattle.aud_event.specs.declared.object.Op.{Op}
use Rattle.aud_event.specs.declared.object.Op.TheVariants.{Read, Write, Inc, Dec, Get, Add, Remove, Contains, Enq, Deq, Plus, Put, Look, Del}
use Rattle.aud_event.specs.Objects.{name_of, is_of_kind, is_answer_of, is_observing}
use Rattle.aud_kinds.specs.Objects.{ObjState, register, counter, set_of, queue, map_of, answer_of, after_op, front_of, found}
use Rattle.base_undo.specs.Entries.{value_at}
use Rattle.base_undo.specs.Keeps.{Slots, members, entries_in, ItemsOf, items_in}

-- every operation of the kind has, in every state, an answer that its name can have
abbrev pub HasAnswers : {S : Type 0} → ObjKind → (S → ObjState) → Type 0
HasAnswers {S} k means = (s : S) (op : Op) → is_of_kind k (name_of op) ≡ true → is_answer_of (name_of op) (answer_of (means s) op) ≡ true

-- an observing operation leaves every state as it is
abbrev pub StaysPut : {S : Type 0} → (S → ObjState) → Type 0
StaysPut {S} means = (s : S) (op : Op) → is_observing op ≡ true → after_op (means s) op ≡ means s

pub observing_stays : (s : ObjState) (op : Op) → is_observing op ≡ true → after_op s op ≡ s
observing_stays (register v) Read h = refl
observing_stays _ Read h = refl
observing_stays _ Get h = refl
observing_stays _ (Contains w) h = refl
observing_stays _ (Look k) h = refl
observing_stays _ _ h = cc

pub register_answers : HasAnswers kind.Register register
register_answers s Read h = refl
register_answers s (Write v) h = refl
register_answers s _ h = cc

pub register_stays : StaysPut register
register_stays s op h = observing_stays (register s) op h

pub counter_answers : HasAnswers kind.Counter counter
counter_answers s Inc h = refl
counter_answers s Dec h = refl
counter_answers s Get h = refl
counter_answers s (Plus k) h = refl
counter_answers s _ h = cc

pub counter_stays : StaysPut counter
counter_stays s op h = observing_stays (counter s) op h

pub set_answers : HasAnswers {S = Slots (Unit {0})} kind.SetOf (λ s. set_of (members s))
set_answers s (Add v) h = refl
set_answers s (Remove v) h = refl
set_answers s (Contains v) h = refl
set_answers s _ h = cc

pub set_stays : StaysPut {S = Slots (Unit {0})} (λ s. set_of (members s))
set_stays s op h = observing_stays (set_of (members s)) op h

front_answers : (q : List ℤ) → is_answer_of (name_of Deq) (front_of q) ≡ true
front_answers [] = refl
front_answers (v ∷ q) = refl

pub queue_answers : HasAnswers {S = ItemsOf} kind.Queue (λ q. queue (items_in q))
queue_answers s (Enq v) h = refl
queue_answers s Deq h = front_answers (items_in s)
queue_answers s _ h = cc

pub queue_stays : StaysPut {S = ItemsOf} (λ q. queue (items_in q))
queue_stays s op h = observing_stays (queue (items_in s)) op h

look_answers : (k : ℤ) (o : Option ℤ) → is_answer_of (name_of (Look k)) (found o) ≡ true
look_answers k None = refl
look_answers k (Some v) = refl

pub map_answers : HasAnswers {S = Slots ℤ} kind.MapOf (λ s. map_of (entries_in s))
map_answers s (Put k v) h = refl
map_answers s (Look k) h = look_answers k (value_at (entries_in s) k)
map_answers s (Del k) h = refl
map_answers s _ h = cc

pub map_stays : StaysPut {S = Slots ℤ} (λ s. map_of (entries_in s))
map_stays s op h = observing_stays (map_of (entries_in s)) op h
