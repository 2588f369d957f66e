-- The interface of a cell, which registers, elements and keys supply.
use Rattle.std.specs.Prelude.{◌≡◌, ℤ, pos, Bool, true, false, not, ◌&&◌, ◌||◌, is_some, List, Option, Some, None, refl}
use Rattle.std.specs.Ordering.{int_eq}
use Rattle.std.proofs.Common.{sym, ◌∙◌, ap, subst, cond}
use Rattle.aud_event.specs.declared.object.Op.{Op}
use Rattle.aud_event.specs.declared.object.Op.TheVariants.{Read, Write, Inc, Dec, Get, Add, Remove, Contains, Enq, Deq, Plus, Put, Look, Del}
use Rattle.aud_event.specs.declared.object.Answer.{Answer}
use Rattle.aud_event.specs.declared.object.Answer.TheVariants.{Done, Int, Flag, Empty}
use Rattle.aud_kinds.specs.Objects.{ObjState, register, counter, set_of, queue, map_of, answer_of, after_op, has_member, found}
use Rattle.base_undo.specs.Entries.{value_at, Ascend}
use Rattle.aud_object.specs.Proper.{MembersAscend, IsProper}
use Rattle.aud_object.specs.Replayed.{same_answer}
use Rattle.base_undo.proofs.Ints.{eq-is}
use Rattle.aud_object.proofs.Proper.{has-with, has-without, value-with, value-without}
use Rattle.search_model.specs.declared.cell.Cell.{Cell}
use Rattle.search_model.specs.declared.cell.Cell.TheVariants.{Whole, Element, Key}
use Rattle.search_model.specs.declared.cell.Need.{Need}
use Rattle.search_model.specs.declared.cell.Need.TheVariants.{Absent, Present, Holding}
use Rattle.search_model.specs.Cells.{is_cell, content, meets, flagged, looked, read, asks, puts}
use Rattle.search_model.specs.Quantities.{is_yes}
use Rattle.search_model.proofs.Yes.{yes-of}

-- what is left, or else what was there
abbrev pub over : Option (Option ℤ) → Option ℤ → Option ℤ
over None o = o
over (Some n) o = n

-- # What an operation leaves

abbrev member : Bool → Option ℤ
member b = cond b (Some (pos 0)) None

add-leaves : (a m t : Bool) → (a ≡ true → t ≡ not m) → member (a || m) ≡ over (cond (a && t) (Some (Some (pos 0))) None) (member m)
add-leaves true true true is = absurd (let no : true ≡ false = is refl in cc)
add-leaves true true false is = refl
add-leaves true false true is = refl
add-leaves true false false is = absurd (let no : false ≡ true = is refl in cc)
add-leaves false m t is = refl

remove-leaves : (a m t : Bool) → (a ≡ true → t ≡ m) → member (not a && m) ≡ over (cond (a && t) (Some None) None) (member m)
remove-leaves true true true is = refl
remove-leaves true true false is = absurd (let no : false ≡ true = is refl in cc)
remove-leaves true false true is = absurd (let no : true ≡ false = is refl in cc)
remove-leaves true false false is = refl
remove-leaves false m t is = refl

put-leaves : (a : Bool) (v : ℤ) (o : Option ℤ) → cond a (Some v) o ≡ over (cond a (Some (Some v)) None) o
put-leaves true v o = refl
put-leaves false v o = refl

del-leaves : (a t : Bool) (o : Option ℤ) → (a ≡ true → t ≡ is_some o) → cond a None o ≡ over (cond (a && t) (Some None) None) o
del-leaves true true o is = refl
del-leaves true false None is = refl
del-leaves true false (Some v) is = absurd (let no : false ≡ true = is refl in cc)
del-leaves false t o is = refl

after-whole : (op : Op) (v : ℤ) (answer : Answer) → content Whole (after_op (register v) op) ≡ over (puts Whole op answer) (Some v)
after-whole (Write w) v answer = refl
after-whole Read v answer = refl
after-whole Inc v answer = refl
after-whole Dec v answer = refl
after-whole Get v answer = refl
after-whole (Add w) v answer = refl
after-whole (Remove w) v answer = refl
after-whole (Contains w) v answer = refl
after-whole (Enq w) v answer = refl
after-whole Deq v answer = refl
after-whole (Plus w) v answer = refl
after-whole (Put k w) v answer = refl
after-whole (Look k) v answer = refl
after-whole (Del k) v answer = refl

after-element : (op : Op) (e : ℤ) (s : List ℤ) (answer : Answer) → MembersAscend s → same_answer (answer_of (set_of s) op) answer ≡ true →
    content (Element e) (after_op (set_of s) op) ≡ over (puts (Element e) op answer) (content (Element e) (set_of s))
after-element (Add w) e s answer proper right =
    ap member (has-with s w e) ∙ add-leaves (int_eq e w) (has_member s e) (is_yes answer)
    (λ same. yes-of (not (has_member s w)) answer right ∙ ap (λ n. not (has_member s n)) (sym (eq-is e w same)))
after-element (Remove w) e s answer proper right =
    ap member (has-without s w e proper) ∙ remove-leaves (int_eq e w) (has_member s e) (is_yes answer)
    (λ same. yes-of (has_member s w) answer right ∙ ap (λ n. has_member s n) (sym (eq-is e w same)))
after-element (Write w) e s answer proper right = refl
after-element Read e s answer proper right = refl
after-element Inc e s answer proper right = refl
after-element Dec e s answer proper right = refl
after-element Get e s answer proper right = refl
after-element (Contains w) e s answer proper right = refl
after-element (Enq w) e s answer proper right = refl
after-element Deq e s answer proper right = refl
after-element (Plus w) e s answer proper right = refl
after-element (Put k w) e s answer proper right = refl
after-element (Look k) e s answer proper right = refl
after-element (Del k) e s answer proper right = refl

after-key : (op : Op) (k : ℤ) (m : List (ℤ × ℤ)) (answer : Answer) → Ascend m → same_answer (answer_of (map_of m) op) answer ≡ true →
    content (Key k) (after_op (map_of m) op) ≡ over (puts (Key k) op answer) (content (Key k) (map_of m))
after-key (Put j v) k m answer proper right = value-with m j k v ∙ put-leaves (int_eq k j) v (value_at m k)
after-key (Del j) k m answer proper right =
    value-without m j k proper ∙ del-leaves (int_eq k j) (is_yes answer) (value_at m k)
    (λ same. yes-of (is_some (value_at m j)) answer right ∙ ap (λ n. is_some (value_at m n)) (sym (eq-is k j same)))
after-key (Write w) k m answer proper right = refl
after-key Read k m answer proper right = refl
after-key Inc k m answer proper right = refl
after-key Dec k m answer proper right = refl
after-key Get k m answer proper right = refl
after-key (Add w) k m answer proper right = refl
after-key (Remove w) k m answer proper right = refl
after-key (Contains w) k m answer proper right = refl
after-key (Enq w) k m answer proper right = refl
after-key Deq k m answer proper right = refl
after-key (Plus w) k m answer proper right = refl
after-key (Look j) k m answer proper right = refl

-- what the cell holds once an operation ran and answered so
pub after-cell : (c : Cell) (s : ObjState) (op : Op) (answer : Answer) → IsProper s → is_cell c s ≡ true → same_answer (answer_of s op) answer ≡ true →
    content c (after_op s op) ≡ over (puts c op answer) (content c s)
after-cell Whole (register v) op answer proper on right = after-whole op v answer
after-cell (Element e) (set_of s) op answer proper on right = after-element op e s answer proper right
after-cell (Key k) (map_of m) op answer proper on right = after-key op k m answer proper right
after-cell Whole (counter n) op answer proper on right = absurd (cc)
after-cell Whole (set_of s) op answer proper on right = absurd (cc)
after-cell Whole (queue q) op answer proper on right = absurd (cc)
after-cell Whole (map_of m) op answer proper on right = absurd (cc)
after-cell (Element e) (register v) op answer proper on right = absurd (cc)
after-cell (Element e) (counter n) op answer proper on right = absurd (cc)
after-cell (Element e) (queue q) op answer proper on right = absurd (cc)
after-cell (Element e) (map_of m) op answer proper on right = absurd (cc)
after-cell (Key k) (register v) op answer proper on right = absurd (cc)
after-cell (Key k) (counter n) op answer proper on right = absurd (cc)
after-cell (Key k) (set_of s) op answer proper on right = absurd (cc)
after-cell (Key k) (queue q) op answer proper on right = absurd (cc)

kind-register : (c : Cell) (a b : ℤ) → is_cell c (register a) ≡ is_cell c (register b)
kind-register Whole a b = refl
kind-register (Element e) a b = refl
kind-register (Key k) a b = refl

kind-counter : (c : Cell) (a b : ℤ) → is_cell c (counter a) ≡ is_cell c (counter b)
kind-counter Whole a b = refl
kind-counter (Element e) a b = refl
kind-counter (Key k) a b = refl

kind-set : (c : Cell) (a b : List ℤ) → is_cell c (set_of a) ≡ is_cell c (set_of b)
kind-set Whole a b = refl
kind-set (Element e) a b = refl
kind-set (Key k) a b = refl

kind-queue : (c : Cell) (a b : List ℤ) → is_cell c (queue a) ≡ is_cell c (queue b)
kind-queue Whole a b = refl
kind-queue (Element e) a b = refl
kind-queue (Key k) a b = refl

kind-map : (c : Cell) (a b : List (ℤ × ℤ)) → is_cell c (map_of a) ≡ is_cell c (map_of b)
kind-map Whole a b = refl
kind-map (Element e) a b = refl
kind-map (Key k) a b = refl

-- no operation changes the kind
pub is_cell-after : (c : Cell) (s : ObjState) (op : Op) → is_cell c (after_op s op) ≡ is_cell c s
is_cell-after c (register v) (Write w) = kind-register c w v
is_cell-after c (counter n) Inc = kind-counter c _ n
is_cell-after c (counter n) Dec = kind-counter c _ n
is_cell-after c (counter n) (Plus k) = kind-counter c _ n
is_cell-after c (set_of s) (Add v) = kind-set c _ s
is_cell-after c (set_of s) (Remove v) = kind-set c _ s
is_cell-after c (queue q) (Enq v) = kind-queue c _ q
is_cell-after c (queue q) Deq = kind-queue c _ q
is_cell-after c (map_of m) (Put k v) = kind-map c _ m
is_cell-after c (map_of m) (Del k) = kind-map c _ m
is_cell-after c _ _ = refl

-- # What an operation needs

if-some : (b : Bool) (o : Option Need) (n : Need) → cond b o None ≡ Some n → (b ≡ true) × (o ≡ Some n)
if-some true o n is = (refl, is)
if-some false o n is = absurd (cc)

flagged-met : (b : Bool) (answer : Answer) (so not_so n : Need) (o : Option ℤ) → same_answer (Flag b) answer ≡ true → flagged so not_so answer ≡ Some n → meets (cond b so not_so) o ≡ true → meets n o ≡ true
flagged-met true (Flag true) so not_so n o right is met = let same : so ≡ n = cc in subst (λ n. meets n o ≡ true) same met
flagged-met true (Flag false) so not_so n o right is met = absurd (cc)
flagged-met false (Flag true) so not_so n o right is met = absurd (cc)
flagged-met false (Flag false) so not_so n o right is met = let same : not_so ≡ n = cc in subst (λ n. meets n o ≡ true) same met
flagged-met b Done so not_so n o right is met = absurd (cc)
flagged-met b (Int v) so not_so n o right is met = absurd (cc)
flagged-met b Empty so not_so n o right is met = absurd (cc)

absent-met : (m : Bool) → meets (cond (not m) Absent (Holding (pos 0))) (member m) ≡ true
absent-met true = refl
absent-met false = refl

present-met : (m : Bool) → meets (cond m (Holding (pos 0)) Absent) (member m) ≡ true
present-met true = refl
present-met false = refl

there-met : (o : Option ℤ) → meets (cond (is_some o) Present Absent) o ≡ true
there-met None = refl
there-met (Some v) = refl

looked-met : (o : Option ℤ) (answer : Answer) (n : Need) → same_answer (found o) answer ≡ true → looked answer ≡ Some n → meets n o ≡ true
looked-met (Some v) (Int w) n right is = let same : Holding w ≡ n = cc in subst (λ n. meets n (Some v) ≡ true) same right
looked-met None Empty n right is = let same : Absent ≡ n = cc in subst (λ n. meets n None ≡ true) same refl
looked-met None Done n right is = absurd (cc)
looked-met None (Int w) n right is = absurd (cc)
looked-met None (Flag b) n right is = absurd (cc)
looked-met (Some v) Done n right is = absurd (cc)
looked-met (Some v) (Flag b) n right is = absurd (cc)
looked-met (Some v) Empty n right is = absurd (cc)

read-met : (v : ℤ) (answer : Answer) (n : Need) → same_answer (Int v) answer ≡ true → read answer ≡ Some n → meets n (Some v) ≡ true
read-met v (Int w) n right is = let same : Holding w ≡ n = cc in subst (λ n. meets n (Some v) ≡ true) same right
read-met v Done n right is = absurd (cc)
read-met v (Flag b) n right is = absurd (cc)
read-met v Empty n right is = absurd (cc)

asks-whole : (op : Op) (v : ℤ) (answer : Answer) (n : Need) → same_answer (answer_of (register v) op) answer ≡ true → asks Whole op answer ≡ Some n → meets n (Some v) ≡ true
asks-whole Read v answer n right is = read-met v answer n right is
asks-whole _ v answer n right is = absurd (cc)

asks-element : (op : Op) (e : ℤ) (s : List ℤ) (answer : Answer) (n : Need) → same_answer (answer_of (set_of s) op) answer ≡ true → asks (Element e) op answer ≡ Some n → meets n (member (has_member s e)) ≡ true
asks-element (Add w) e s answer n right is =
    let (on, tells) = if-some (int_eq e w) (flagged Absent (Holding (pos 0)) answer) n is in
    let same : w ≡ e = sym (eq-is e w on) in
    flagged-met (not (has_member s e)) answer Absent (Holding (pos 0)) n (member (has_member s e)) (subst (λ u. same_answer (Flag (not (has_member s u))) answer ≡ true) same right) tells (absent-met (has_member s e))
asks-element (Remove w) e s answer n right is =
    let (on, tells) = if-some (int_eq e w) (flagged (Holding (pos 0)) Absent answer) n is in
    let same : w ≡ e = sym (eq-is e w on) in
    flagged-met (has_member s e) answer (Holding (pos 0)) Absent n (member (has_member s e)) (subst (λ u. same_answer (Flag (has_member s u)) answer ≡ true) same right) tells (present-met (has_member s e))
asks-element (Contains w) e s answer n right is =
    let (on, tells) = if-some (int_eq e w) (flagged (Holding (pos 0)) Absent answer) n is in
    let same : w ≡ e = sym (eq-is e w on) in
    flagged-met (has_member s e) answer (Holding (pos 0)) Absent n (member (has_member s e)) (subst (λ u. same_answer (Flag (has_member s u)) answer ≡ true) same right) tells (present-met (has_member s e))
asks-element _ e s answer n right is = absurd (cc)

asks-key : (op : Op) (k : ℤ) (m : List (ℤ × ℤ)) (answer : Answer) (n : Need) → same_answer (answer_of (map_of m) op) answer ≡ true → asks (Key k) op answer ≡ Some n → meets n (value_at m k) ≡ true
asks-key (Look j) k m answer n right is =
    let (on, tells) = if-some (int_eq k j) (looked answer) n is in
    looked-met (value_at m k) answer n (subst (λ u. same_answer (found (value_at m u)) answer ≡ true) (sym (eq-is k j on)) right) tells
asks-key (Del j) k m answer n right is =
    let (on, tells) = if-some (int_eq k j) (flagged Present Absent answer) n is in
    flagged-met (is_some (value_at m k)) answer Present Absent n (value_at m k) (subst (λ u. same_answer (Flag (is_some (value_at m u))) answer ≡ true) (sym (eq-is k j on)) right) tells (there-met (value_at m k))
asks-key _ k m answer n right is = absurd (cc)

-- what an operation that answered so needs of the cell is there
pub asks-met : (c : Cell) (s : ObjState) (op : Op) (answer : Answer) (n : Need) → is_cell c s ≡ true → same_answer (answer_of s op) answer ≡ true → asks c op answer ≡ Some n → meets n (content c s) ≡ true
asks-met Whole (register v) op answer n on right is = asks-whole op v answer n right is
asks-met (Element e) (set_of s) op answer n on right is = asks-element op e s answer n right is
asks-met (Key k) (map_of m) op answer n on right is = asks-key op k m answer n right is
asks-met Whole (counter i) op answer n on right is = absurd (cc)
asks-met Whole (set_of s) op answer n on right is = absurd (cc)
asks-met Whole (queue q) op answer n on right is = absurd (cc)
asks-met Whole (map_of m) op answer n on right is = absurd (cc)
asks-met (Element e) (register v) op answer n on right is = absurd (cc)
asks-met (Element e) (counter i) op answer n on right is = absurd (cc)
asks-met (Element e) (queue q) op answer n on right is = absurd (cc)
asks-met (Element e) (map_of m) op answer n on right is = absurd (cc)
asks-met (Key k) (register v) op answer n on right is = absurd (cc)
asks-met (Key k) (counter i) op answer n on right is = absurd (cc)
asks-met (Key k) (set_of s) op answer n on right is = absurd (cc)
asks-met (Key k) (queue q) op answer n on right is = absurd (cc)
