-- One state of the list of states changes.
use Rattle.std.specs.Prelude.{option_map, slice_get, if◌then◌else◌}
use Rattle.std.proofs.Common.{◌≡◌, ℕ, zero, suc, ◌+◌, ◌<◌, ◌≤◌, Bool, true, List, [], ◌∷◌, ◌++◌, length, map, take, drop, get_or, set, Option, Some, None, MatchOption, refl, sym, ◌∙◌, ap, arith}
use Rattle.std.proofs.Math.Seq.{drop-cons}
use Rattle.std.proofs.lemmas.List.{map-append, map_more, take_more}
use Rattle.aud_event.specs.declared.object.Op.{Op}
use Rattle.aud_event.specs.declared.object.Answer.{Answer}
use Rattle.aud_object.specs.declared.state.State.{State}
use Rattle.aud_object.specs.declared.state.Change.{Change}
use Rattle.aud_kinds.specs.Objects.{ObjState, answer_of, after_op}
use Rattle.aud_object.specs.declared.execution.Execution.{Execution}
use Rattle.aud_object.specs.States.{meaning, back}
use Rattle.aud_object.specs.Logs.{back_at}
use Rattle.aud_object.specs.Replayed.{after_at, answer_at, answers, executed}

-- what was changed at a place is taken back there
pub back_at-set : {A : Type 0} (ss : List (State A)) (i : ℕ) (s t : State A) (change : Change) → i < length ss → s ≡ get_or ss i s → back t change ≡ s → back_at (set ss i t) i change ≡ ss
back_at-set [] i s t change low e b = absurd (omega arith)
back_at-set (x ∷ ss) zero s t change low e b = ap (λ z. z ∷ ss) (b ∙ e)
back_at-set (x ∷ ss) (suc i) s t change low e b = ap (λ l. x ∷ l) (back_at-set ss i s t change (omega arith) e b)

pub set-itself : {A : Type 0} (ss : List (State A)) (i : ℕ) (s t : State A) → i < length ss → s ≡ get_or ss i s → t ≡ s → set ss i t ≡ ss
set-itself [] i s t low e b = absurd (omega arith)
set-itself (x ∷ ss) zero s t low e b = ap (λ z. z ∷ ss) (b ∙ e)
set-itself (x ∷ ss) (suc i) s t low e b = ap (λ l. x ∷ l) (set-itself ss i s t (omega arith) e b)

pub back_at-is : {A : Type 0} (ss : List (State A)) (i : ℕ) (s t : State A) (change : Change) → i < length ss → s ≡ get_or ss i s → t ≡ back s change → set ss i t ≡ back_at ss i change
back_at-is [] i s t change low e b = absurd (omega arith)
back_at-is (x ∷ ss) zero s t change low e b = ap (λ z. z ∷ ss) (b ∙ ap (λ z. back z change) e)
back_at-is (x ∷ ss) (suc i) s t change low e b = ap (λ l. x ∷ l) (back_at-is ss i s t change (omega arith) e b)

pub back_at-past : {A : Type 0} (ss : List (State A)) (i : ℕ) (change : Change) → length ss ≤ i → ss ≡ back_at ss i change
back_at-past [] i change far = refl
back_at-past (x ∷ ss) zero change far = absurd (omega arith)
back_at-past (x ∷ ss) (suc i) change far = ap (λ l. x ∷ l) (back_at-past ss i change (omega arith))

pub after_at-set : {A : Type 0} (ss : List (State A)) (i : ℕ) (s t : State A) (op : Op) → i < length ss → s ≡ get_or ss i s → meaning t ≡ after_op (meaning s) op → map meaning (set ss i t) ≡ after_at (map meaning ss) i op
after_at-set [] i s t op low e b = absurd (omega arith)
after_at-set (x ∷ ss) zero s t op low e b = ap (λ z. z ∷ map meaning ss) (b ∙ ap (λ z. after_op (meaning z) op) e)
after_at-set (x ∷ ss) (suc i) s t op low e b = ap (λ l. meaning x ∷ l) (after_at-set ss i s t op (omega arith) e b)

pub after_at-past : {A : Type 0} (ss : List (State A)) (i : ℕ) (op : Op) → length ss ≤ i → map meaning ss ≡ after_at (map meaning ss) i op
after_at-past [] i op far = refl
after_at-past (x ∷ ss) zero op far = absurd (omega arith)
after_at-past (x ∷ ss) (suc i) op far = ap (λ l. meaning x ∷ l) (after_at-past ss i op (omega arith))

pub answer_at-is : {A : Type 0} (ss : List (State A)) (i : ℕ) (s : State A) (op : Op) (a : Answer) → i < length ss → s ≡ get_or ss i s → a ≡ answer_of (meaning s) op → Some a ≡ answer_at (map meaning ss) i op
answer_at-is [] i s op a low e b = absurd (omega arith)
answer_at-is (x ∷ ss) zero s op a low e b = ap Some (b ∙ ap (λ z. answer_of (meaning z) op) e)
answer_at-is (x ∷ ss) (suc i) s op a low e b = answer_at-is ss i s op a (omega arith) e b

pub answer_at-past : {A : Type 0} (ss : List (State A)) (i : ℕ) (op : Op) → length ss ≤ i → let none : Option Answer = None in none ≡ answer_at (map meaning ss) i op
answer_at-past [] i op far = refl
answer_at-past (x ∷ ss) zero op far = absurd (omega arith)
answer_at-past (x ∷ ss) (suc i) op far = answer_at-past ss i op (omega arith)

pub back_at-either : {A : Type 0} (ss : List (State A)) (i : ℕ) (s t : State A) (o : Option Change) → i < length ss → s ≡ get_or ss i s → MatchOption o (t ≡ s) (λ change. back t change ≡ s) → MatchOption o (set ss i t ≡ ss) (λ change. back_at (set ss i t) i change ≡ ss)
back_at-either ss i s t None low e b = set-itself ss i s t low e b
back_at-either ss i s t (Some change) low e b = back_at-set ss i s t change low e b

-- # One more of two lists that grow alike

pub map-more : {X Y Z : Type 0} (f : X → Z) (h : Y → Z) (xs new : List X) (ys : List Y) (i : ℕ) (x : X) (y : Y) → i < length ys → y ≡ get_or ys i y → f x ≡ h y → new ≡ xs ++ x ∷ [] → map f xs ≡ map h (take i ys) → map f new ≡ map h (take (i + 1) ys)
map-more f h xs new ys i x y low at same is so =
    ap (map f) is ∙ map-append f xs (x ∷ []) ∙ (λ j. so j ++ (same ∙ ap h at) j ∷ []) ∙ sym (map_more h ys i y low)

pub copy-more : {X : Type 0} (xs new ys : List X) (i : ℕ) (x y : X) → i < length ys → y ≡ get_or ys i y → x ≡ y → new ≡ xs ++ x ∷ [] → xs ≡ take i ys → new ≡ take (i + 1) ys
copy-more xs new ys i x y low at same is so = is ∙ (λ j. so j ++ (same ∙ at) j ∷ []) ∙ sym (take_more ys i y low)

-- lists whose first elements mean the same mean the same as their rests do
pub same-rests : {X Y : Type 0} (f : X → Y) (x y xs ys : List X) (s t : X) → x ≡ s ∷ xs → y ≡ t ∷ ys → f s ≡ f t → (map f x ≡ map f y → map f xs ≡ map f ys) × (map f xs ≡ map f ys → map f x ≡ map f y)
same-rests f x y xs ys s t is_x is_y same = (
  (λ e. let all : f s ∷ map f xs ≡ f t ∷ map f ys = sym (ap (map f) is_x) ∙ e ∙ ap (map f) is_y in cc),
  (λ e. ap (map f) is_x ∙ (λ j. same j ∷ e j) ∙ sym (ap (map f) is_y)),
)

-- # What stands at a place

pub mapped-at : {X Y Z : Type 0} (f : X → Y) (h : Y → Z) (xs : List X) (i : ℕ) (x : X) → i < length xs → x ≡ get_or xs i x → Some (h (f x)) ≡ option_map h (slice_get (map f xs) i)
mapped-at f h [] i x low e = absurd (omega arith)
mapped-at f h (y ∷ xs) zero x low e = ap (λ z. Some (h (f z))) e
mapped-at f h (y ∷ xs) (suc i) x low e = mapped-at f h xs i x (omega arith) e

pub mapped-past : {X Y Z : Type 0} (f : X → Y) (h : Y → Z) (xs : List X) (i : ℕ) → length xs ≤ i → let none : Option Z = None in none ≡ option_map h (slice_get (map f xs) i)
mapped-past f h [] i far = refl
mapped-past f h (y ∷ xs) zero far = absurd (omega arith)
mapped-past f h (y ∷ xs) (suc i) far = mapped-past f h xs i (omega arith)

pub stands-at : {X Y : Type 0} (f : X → Y) (xs : List X) (i : ℕ) (x : X) → i < length xs → x ≡ get_or xs i x → Some (f x) ≡ slice_get (map f xs) i
stands-at f [] i x low e = absurd (omega arith)
stands-at f (y ∷ xs) zero x low e = ap (λ z. Some (f z)) e
stands-at f (y ∷ xs) (suc i) x low e = stands-at f xs i x (omega arith) e

-- one more execution ran
pub executed-more : (states new : List ObjState) (xs : List Execution) (i : ℕ) (d : Execution) (right : Bool) → i < length xs → right ≡ answers (answer_at states (get_or xs i d).object (get_or xs i d).op) (get_or xs i d).answer → right ≡ true →
    new ≡ after_at states (get_or xs i d).object (get_or xs i d).op → executed states (drop i xs) ≡ executed new (drop (i + 1) xs)
executed-more states new xs i d right low own is_right is =
    let one : suc i ≡ i + 1 = omega arith in
    ap (executed states) (drop-cons xs i d low) ∙ (λ j. if (sym own ∙ is_right) j then executed (sym is j) (drop (suc i) xs) else None) ∙ ap (λ n. executed new (drop n xs)) one
