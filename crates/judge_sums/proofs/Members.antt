-- What a set has of an element, as a number.
use Rattle.std.specs.Prelude.{◌≡◌, ℕ, ◌+◌, ℤ, pos, negsuc, ◌+ℤ◌, Bool, true, false, not, ◌&&◌, ◌||◌, List, Option, Some, None, refl}
use Rattle.std.specs.Ordering.{int_eq}
use Rattle.std.proofs.Common.{sym, ◌∙◌, ap, subst, cond, arith}
use Rattle.std.proofs.lemmas.Int.{ints}
use Rattle.aud_event.specs.declared.object.Op.{Op}
use Rattle.aud_event.specs.declared.object.Op.TheVariants.{Read, Write, Inc, Dec, Get, Add, Remove, Contains, Enq, Deq, Plus, Put, Look, Del}
use Rattle.aud_event.specs.declared.object.Answer.{Answer}
use Rattle.aud_event.specs.declared.object.Answer.TheVariants.{Done, Int, Flag, Empty}
use Rattle.aud_kinds.specs.Objects.{ObjState, set_of, answer_of, after_op, has_member, with_member, without_member}
use Rattle.aud_object.specs.Proper.{MembersAscend}
use Rattle.aud_object.specs.Replayed.{same_answer}
use Rattle.base_undo.proofs.Ints.{eq-is}
use Rattle.aud_object.proofs.Proper.{has-with, has-without, ascend-with, ascend-without}
use Rattle.search_model.specs.declared.quantity.Quantity.TheVariants.{Element}
use Rattle.search_model.specs.Quantities.{is_yes, element_change, member_seen, absence_seen, element_seen, change, seen, reach}
use Rattle.search_model.proofs.Yes.{yes-of}

-- 1 for a member, 0 for none
abbrev pub as_number : Bool → ℤ
as_number b = cond b (pos 1) (pos 0)

plus-zero : (n : ℤ) → n ≡ n +ℤ pos 0
plus-zero n = omega (arith, ints)

added : (a m t : Bool) → (a ≡ true → t ≡ not m) → as_number (a || m) ≡ as_number m +ℤ cond (a && t) (pos 1) (pos 0)
added true true true is = absurd (let no : true ≡ false = is refl in cc)
added true true false is = refl
added true false true is = refl
added true false false is = absurd (let no : false ≡ true = is refl in cc)
added false m t is = plus-zero (as_number m)

removed : (a m t : Bool) → (a ≡ true → t ≡ m) → as_number (not a && m) ≡ as_number m +ℤ cond (a && t) (negsuc 0) (pos 0)
removed true true true is = refl
removed true true false is = absurd (let no : false ≡ true = is refl in cc)
removed true false true is = absurd (let no : true ≡ false = is refl in cc)
removed true false false is = refl
removed false m t is = plus-zero (as_number m)

eq-sym : (a b : ℤ) → int_eq a b ≡ int_eq b a
eq-sym a b = grind (arith, ints, eq-is a b, eq-is b a)

-- the state is a set that has the element so many times
abbrev pub IsMember : ℤ → ℤ → ℕ → ObjState → Type 0
IsMember v n s state = (members : List ℤ) × ((state ≡ set_of members) × MembersAscend members × (n ≡ as_number (has_member members v)))

number-after : (op : Op) (v : ℤ) (members : List ℤ) (answer : Answer) → MembersAscend members → same_answer (answer_of (set_of members) op) answer ≡ true →
    (later : List ℤ) × ((after_op (set_of members) op ≡ set_of later) × MembersAscend later × (as_number (has_member later v) ≡ as_number (has_member members v) +ℤ element_change v op answer))
number-after (Add w) v members answer proper right = (
  with_member members w,
  (
    refl,
    ascend-with members w proper,
    ap as_number (has-with members w v) ∙ ap (λ b. as_number (b || has_member members v)) (eq-sym v w)
        ∙ added (int_eq w v) (has_member members v) (is_yes answer)
        (λ same. yes-of (not (has_member members w)) answer right ∙ ap (λ n. not (has_member members n)) (eq-is w v same)),
  ),
)
number-after (Remove w) v members answer proper right = (
  without_member members w,
  (
    refl,
    ascend-without members w proper,
    ap as_number (has-without members w v proper) ∙ ap (λ b. as_number (not b && has_member members v)) (eq-sym v w)
        ∙ removed (int_eq w v) (has_member members v) (is_yes answer)
        (λ same. yes-of (has_member members w) answer right ∙ ap (has_member members) (eq-is w v same)),
  ),
)
number-after Read v members answer proper right = (members, (refl, proper, plus-zero (as_number (has_member members v))))
number-after (Write w) v members answer proper right = (members, (refl, proper, plus-zero (as_number (has_member members v))))
number-after Inc v members answer proper right = (members, (refl, proper, plus-zero (as_number (has_member members v))))
number-after Dec v members answer proper right = (members, (refl, proper, plus-zero (as_number (has_member members v))))
number-after Get v members answer proper right = (members, (refl, proper, plus-zero (as_number (has_member members v))))
number-after (Contains w) v members answer proper right = (members, (refl, proper, plus-zero (as_number (has_member members v))))
number-after (Enq w) v members answer proper right = (members, (refl, proper, plus-zero (as_number (has_member members v))))
number-after Deq v members answer proper right = (members, (refl, proper, plus-zero (as_number (has_member members v))))
number-after (Plus k) v members answer proper right = (members, (refl, proper, plus-zero (as_number (has_member members v))))
number-after (Put k w) v members answer proper right = (members, (refl, proper, plus-zero (as_number (has_member members v))))
number-after (Look k) v members answer proper right = (members, (refl, proper, plus-zero (as_number (has_member members v))))
number-after (Del k) v members answer proper right = (members, (refl, proper, plus-zero (as_number (has_member members v))))

-- # What an answer tells

if-some : (b : Bool) (o : Option ℤ) (n : ℤ) → cond b o None ≡ Some n → (b ≡ true) × (o ≡ Some n)
if-some true o n is = (refl, is)
if-some false o n is = absurd (cc)

member-seen : (b : Bool) (answer : Answer) (w : ℤ) → same_answer (Flag b) answer ≡ true → member_seen answer ≡ Some w → as_number b ≡ w
member-seen true (Flag true) w right is = cc
member-seen true (Flag false) w right is = absurd (cc)
member-seen false (Flag true) w right is = absurd (cc)
member-seen false (Flag false) w right is = cc
member-seen b Done w right is = absurd (cc)
member-seen b (Int v) w right is = absurd (cc)
member-seen b Empty w right is = absurd (cc)

absence-seen : (b : Bool) (answer : Answer) (w : ℤ) → same_answer (Flag (not b)) answer ≡ true → absence_seen answer ≡ Some w → as_number b ≡ w
absence-seen true (Flag false) w right is = cc
absence-seen true (Flag true) w right is = absurd (cc)
absence-seen false (Flag false) w right is = absurd (cc)
absence-seen false (Flag true) w right is = cc
absence-seen b Done w right is = absurd (cc)
absence-seen b (Int v) w right is = absurd (cc)
absence-seen b Empty w right is = absurd (cc)

seen-element : (op : Op) (v : ℤ) (members : List ℤ) (answer : Answer) (w : ℤ) → same_answer (answer_of (set_of members) op) answer ≡ true → element_seen v op answer ≡ Some w →
    as_number (has_member members v) ≡ w
seen-element (Add u) v members answer w right is =
    let (on, tells) = if-some (int_eq u v) (absence_seen answer) w is in
    absence-seen (has_member members v) answer w (subst (λ m. same_answer (Flag (not (has_member members m))) answer ≡ true) (eq-is u v on) right) tells
seen-element (Remove u) v members answer w right is =
    let (on, tells) = if-some (int_eq u v) (member_seen answer) w is in
    member-seen (has_member members v) answer w (subst (λ m. same_answer (Flag (has_member members m)) answer ≡ true) (eq-is u v on) right) tells
seen-element (Contains u) v members answer w right is =
    let (on, tells) = if-some (int_eq u v) (member_seen answer) w is in
    member-seen (has_member members v) answer w (subst (λ m. same_answer (Flag (has_member members m)) answer ≡ true) (eq-is u v on) right) tells
seen-element _ v members answer w right is = absurd (cc)

pub element-after : (x : ℕ) (v : ℤ) (op : Op) (answer : Answer) (n : ℤ) (s : ℕ) (state : ObjState) → IsMember v n (reach (Element x v) op + s) state → same_answer (answer_of state op) answer ≡ true →
    IsMember v (n +ℤ change (Element x v) op answer) s (after_op state op)
element-after x v op answer n s state is right =
    let (members, (is_set, proper, so_many)) = is in
    let (later, (leads, ascend, number)) = number-after op v members answer proper (subst (λ (z : ObjState). same_answer (answer_of z op) answer ≡ true) is_set right) in
    (later, (ap (λ (z : ObjState). after_op z op) is_set ∙ leads, ascend, ap (λ m. m +ℤ element_change v op answer) so_many ∙ sym number))

pub element-seen : (x : ℕ) (v : ℤ) (op : Op) (answer : Answer) (n w : ℤ) (s : ℕ) (state : ObjState) → IsMember v n s state → same_answer (answer_of state op) answer ≡ true → seen (Element x v) op answer ≡ Some w → n ≡ w
element-seen x v op answer n w s state is right tells =
    let (members, (is_set, proper, so_many)) = is in
    so_many ∙ seen-element op v members answer w (subst (λ (z : ObjState). same_answer (answer_of z op) answer ≡ true) is_set right) tells

pub element-room : (v n : ℤ) (a s : ℕ) (state : ObjState) → IsMember v n (a + s) state → IsMember v n s state
element-room v n a s state is = is
