-- What a queue holds where a block runs.
use Rattle.std.specs.Prelude.{◌≡◌, ℕ, ◌+◌, ℤ, Bool, true, false, ◌&&◌, nat_eq, List, [], ◌∷◌, ◌++◌, length, Some, None, slice_get, refl}
use Rattle.std.proofs.Common.{sym, ◌∙◌, ap, subst, inl, inr, cond, arith}
use Rattle.std.proofs.lemmas.List.{length-append, append_assoc, append-nil}
use Rattle.aud_event.specs.declared.object.Op.{Op}
use Rattle.aud_event.specs.declared.object.Op.TheVariants.{Read, Write, Inc, Dec, Get, Add, Remove, Contains, Enq, Deq, Plus, Put, Look, Del}
use Rattle.aud_event.specs.declared.object.Answer.{Answer}
use Rattle.aud_event.specs.declared.object.Answer.TheVariants.{Done, Int, Flag, Empty}
use Rattle.base_values.proofs.Bools.{split}
use Rattle.aud_object.specs.declared.execution.Execution.{Execution}
use Rattle.aud_kinds.specs.Objects.{ObjState, queue, answer_of, after_op, front_of}
use Rattle.aud_object.specs.Replayed.{after_at, answer_at, answers, same_answer, executed}
use Rattle.base_undo.proofs.Ints.{eq-is}
use Rattle.aud_object.proofs.Legality.{after_at-other}
use Rattle.judge_clauses.proofs.Walking.{off, ran-first}
use Rattle.judge_sums.proofs.Finding.{seen-here, there-after}
use Rattle.search_model.specs.Queues.{is_addition, is_take, adds, takes}
use Rattle.search_model.specs.Blocks.{item, added, Asks}
use Rattle.search_model.proofs.Lists.{get-at}

-- the queue holds what was added, but for the first ones, so many, which were taken
pub record IsLeft (all : List ℤ) (n : ℕ) (state : ObjState) : Type 0 where
  pub gone : List ℤ
  pub left : List ℤ
  pub is : state ≡ queue left
  pub whole : all ≡ gone ++ left
  pub many : n ≡ length gone

keep : (all : List ℤ) (n : ℕ) (state : ObjState) → IsLeft all n state → IsLeft (all ++ []) (n + 0) state
keep all n state left =
    let more : n ≡ n + 0 = omega arith in
    subst (λ k. IsLeft (all ++ []) k state) more (subst (λ l. IsLeft l n state) (sym (append-nil all)) left)

-- a queue and an operation
left-after : (op : Op) (answer : Answer) (all left gone : List ℤ) (n : ℕ) → all ≡ gone ++ left → n ≡ length gone → same_answer (answer_of (queue left) op) answer ≡ true →
    IsLeft (all ++ item op) (n + cond (is_take op answer) 1 0) (after_op (queue left) op)
left-after (Enq v) answer all left gone n whole many right = record {
  gone = gone;
  left = left ++ v ∷ [];
  is = refl;
  whole = ap (λ l. l ++ v ∷ []) whole ∙ append_assoc gone left (v ∷ []);
  many = omega (arith, many);
}
left-after Deq (Int w) all (v ∷ left) gone n whole many right = record {
  gone = gone ++ v ∷ [];
  left = left;
  is = refl;
  whole = append-nil all ∙ whole ∙ sym (append_assoc gone (v ∷ []) left);
  many = omega (arith, many, length-append gone (v ∷ []));
}
left-after Deq (Int w) all [] gone n whole many right = absurd (cc)
left-after Deq Empty all [] gone n whole many right = record { gone = gone; left = []; is = refl; whole = append-nil all ∙ whole; many = omega (arith, many) }
left-after Deq Empty all (v ∷ left) gone n whole many right = absurd (cc)
left-after Deq Done all [] gone n whole many right = absurd (cc)
left-after Deq Done all (v ∷ left) gone n whole many right = absurd (cc)
left-after Deq (Flag b) all [] gone n whole many right = absurd (cc)
left-after Deq (Flag b) all (v ∷ left) gone n whole many right = absurd (cc)
left-after Read answer all left gone n whole many right = keep all n (queue left) (record { gone = gone; left = left; is = refl; whole = whole; many = many })
left-after (Write w) answer all left gone n whole many right = keep all n (queue left) (record { gone = gone; left = left; is = refl; whole = whole; many = many })
left-after Inc answer all left gone n whole many right = keep all n (queue left) (record { gone = gone; left = left; is = refl; whole = whole; many = many })
left-after Dec answer all left gone n whole many right = keep all n (queue left) (record { gone = gone; left = left; is = refl; whole = whole; many = many })
left-after Get answer all left gone n whole many right = keep all n (queue left) (record { gone = gone; left = left; is = refl; whole = whole; many = many })
left-after (Add w) answer all left gone n whole many right = keep all n (queue left) (record { gone = gone; left = left; is = refl; whole = whole; many = many })
left-after (Remove w) answer all left gone n whole many right = keep all n (queue left) (record { gone = gone; left = left; is = refl; whole = whole; many = many })
left-after (Contains w) answer all left gone n whole many right = keep all n (queue left) (record { gone = gone; left = left; is = refl; whole = whole; many = many })
left-after (Plus k) answer all left gone n whole many right = keep all n (queue left) (record { gone = gone; left = left; is = refl; whole = whole; many = many })
left-after (Put k w) answer all left gone n whole many right = keep all n (queue left) (record { gone = gone; left = left; is = refl; whole = whole; many = many })
left-after (Look k) answer all left gone n whole many right = keep all n (queue left) (record { gone = gone; left = left; is = refl; whole = whole; many = many })
left-after (Del k) answer all left gone n whole many right = keep all n (queue left) (record { gone = gone; left = left; is = refl; whole = whole; many = many })

item-length : (op : Op) → length (item op) ≡ cond (is_addition op) 1 0
item-length (Enq v) = refl
item-length Read = refl
item-length (Write w) = refl
item-length Inc = refl
item-length Dec = refl
item-length Get = refl
item-length (Add w) = refl
item-length (Remove w) = refl
item-length (Contains w) = refl
item-length Deq = refl
item-length (Plus k) = refl
item-length (Put k w) = refl
item-length (Look k) = refl
item-length (Del k) = refl

-- what one execution adds
pub first-length : (x : ℕ) (e : Execution) → length (cond (nat_eq e.object x) (item e.op) []) ≡ cond (nat_eq e.object x && is_addition e.op) 1 0
first-length x e = go (nat_eq e.object x)
  where
    go : (b : Bool) → length (cond b (item e.op) []) ≡ cond (b && is_addition e.op) 1 0
    go true = item-length e.op
    go false = refl

pub added-length : (x : ℕ) (es : List Execution) → length (added x es) ≡ adds x es
added-length x [] = refl
added-length x (e ∷ es) =
    length-append (cond (nat_eq e.object x) (item e.op) []) (added x es) ∙ ap (λ k. k + length (added x es)) (first-length x e) ∙ ap (λ k. cond (nat_eq e.object x && is_addition e.op) 1 0 + k) (added-length x es)

-- # Along a block

-- the object of the number is such a queue
abbrev pub Stands : ℕ → List ℤ → ℕ → List ObjState → Type 0
Stands x all n states = (state : ObjState) × ((slice_get states x ≡ Some state) × IsLeft all n state)

abbrev added_by : ℕ → Execution → List ℤ
added_by x e = cond (nat_eq e.object x) (item e.op) []

abbrev taken_by : ℕ → Execution → ℕ
taken_by x e = cond (nat_eq e.object x && is_take e.op e.answer) 1 0

stands-after : (x : ℕ) (states : List ObjState) (e : Execution) (all : List ℤ) (n : ℕ) → Stands x all n states → answers (answer_at states e.object e.op) e.answer ≡ true →
    Stands x (all ++ added_by x e) (n + taken_by x e) (after_at states e.object e.op)
stands-after x states e all n stands right =
    let (state, (at, left)) = stands in
    elim (split (nat_eq e.object x)) [
      | inl same ↦
          let queue_at : slice_get states x ≡ Some (queue left.left) = at ∙ ap (λ (z : ObjState). Some z) left.is in
          let seen : same_answer (answer_of (queue left.left) e.op) e.answer ≡ true = seen-here states x e (queue left.left) same queue_at right in
          let own_items : item e.op ≡ added_by x e = sym (ap (λ b. cond b (item e.op) []) same) in
          let own_takes : cond (is_take e.op e.answer) 1 0 ≡ taken_by x e = sym (ap (λ b. cond (b && is_take e.op e.answer) 1 0) same) in (
            after_op (queue left.left) e.op,
            (
              there-after states x e (queue left.left) same queue_at,
              subst (λ k. IsLeft (all ++ added_by x e) (n + k) (after_op (queue left.left) e.op)) own_takes
                  (subst (λ l. IsLeft (all ++ l) (n + cond (is_take e.op e.answer) 1 0) (after_op (queue left.left) e.op)) own_items
                  (left-after e.op e.answer all left.left left.gone n left.whole left.many seen)),
            ),
          )
      | inr other ↦
          let no_items : [] ≡ added_by x e = sym (ap (λ b. cond b (item e.op) []) other) in
          let no_takes : 0 ≡ taken_by x e = sym (ap (λ b. cond (b && is_take e.op e.answer) 1 0) other) in (
            state,
            (
              after_at-other states e.object x e.op (off e.object x other) ∙ at,
              subst (λ k. IsLeft (all ++ added_by x e) (n + k) state) no_takes (subst (λ l. IsLeft (all ++ l) (n + 0) state) no_items (keep all n state left)),
            ),
          )
    ]

pub executed-stands : (x : ℕ) (es : List Execution) (states ends : List ObjState) (all : List ℤ) (n : ℕ) → Stands x all n states → executed states es ≡ Some ends →
    Stands x (all ++ added x es) (n + takes x es) ends
executed-stands x [] states ends all n stands led =
    let same : states ≡ ends = cc in
    let (state, (at, left)) = stands in
    subst (Stands x (all ++ []) (n + 0)) same (state, (at, keep all n state left))
executed-stands x (e ∷ es) states ends all n stands led =
    let (right, rest) = ran-first states e es ends led in
    let sum : (n + taken_by x e) + takes x es ≡ n + (taken_by x e + takes x es) = omega arith in
    subst (λ k. Stands x (all ++ (added_by x e ++ added x es)) k ends) sum
    (subst (λ l. Stands x l ((n + taken_by x e) + takes x es) ends) (append_assoc all (added_by x e) (added x es))
    (executed-stands x es (after_at states e.object e.op) ends (all ++ added_by x e) (n + taken_by x e) (stands-after x states e all n stands right) rest))

-- the first part of a block that ran
executed-front : (front back : List Execution) (e : Execution) (states ends : List ObjState) → executed states (front ++ e ∷ back) ≡ Some ends →
    (middle : List ObjState) × ((executed states front ≡ Some middle) × (answers (answer_at middle e.object e.op) e.answer ≡ true))
executed-front [] back e states ends led = (states, (refl, (ran-first states e back ends led).0))
executed-front (f ∷ front) back e states ends led =
    let (right, rest) = ran-first states f (front ++ e ∷ back) ends led in
    let (middle, (went, answered)) = executed-front front back e (after_at states f.object f.op) ends rest in
    (middle, (ap (λ b. cond b (executed (after_at states f.object f.op) front) None) right ∙ went, answered))

-- what a queue answers
front-int : (left : List ℤ) (v : ℤ) → same_answer (front_of left) (Int v) ≡ true → (back : List ℤ) × (left ≡ v ∷ back)
front-int [] v right = absurd (cc)
front-int (w ∷ left) v right = (left, ap (λ u. u ∷ left) (eq-is w v right))

front-empty : (left : List ℤ) → same_answer (front_of left) Empty ≡ true → left ≡ []
front-empty [] right = refl
front-empty (w ∷ left) right = absurd (cc)

-- where a block asks for an item, the queue answers as it did
asked-here : (x : ℕ) (es : List Execution) (j e : ℕ) (answer : Answer) (states ends : List ObjState) (all : List ℤ) (n : ℕ) (asks : Asks x es j e answer) → Stands x all n states → executed states es ≡ Some ends →
    (left : List ℤ) × ((gone : List ℤ) × ((all ++ added x asks.front ≡ gone ++ left) × (n + j ≡ length gone) × (same_answer (front_of left) answer ≡ true)))
asked-here x es j e answer states ends all n asks stands led =
    let (middle, (went, answered)) = executed-front asks.front asks.back asks.one states ends (subst (λ l. executed states l ≡ Some ends) asks.whole led) in
    let (state, (at, left)) = executed-stands x asks.front states middle all n stands went in
    let queue_at : slice_get middle x ≡ Some (queue left.left) = at ∙ ap (λ (z : ObjState). Some z) left.is in
    let seen : same_answer (answer_of (queue left.left) asks.one.op) asks.one.answer ≡ true = seen-here middle x asks.one (queue left.left) asks.on queue_at answered in
    let by_op : same_answer (answer_of (queue left.left) Deq) asks.one.answer ≡ true = subst (λ (o : Op). same_answer (answer_of (queue left.left) o) asks.one.answer ≡ true) asks.asks seen in
    (left.left, (left.gone, (left.whole, ap (λ k. n + k) (sym asks.takes) ∙ left.many, subst (λ (a : Answer). same_answer (front_of left.left) a ≡ true) asks.gets by_op)))

-- the n-th item that is taken is the n-th that was added
pub taken-here : (x : ℕ) (es : List Execution) (j e : ℕ) (v : ℤ) (states ends : List ObjState) (all : List ℤ) (n : ℕ) (asks : Asks x es j e (Int v)) → Stands x all n states → executed states es ≡ Some ends →
    slice_get (all ++ added x asks.front) (n + j) ≡ Some v
taken-here x es j e v states ends all n asks stands led =
    let (left, (gone, (whole, many, right))) = asked-here x es j e (Int v) states ends all n asks stands led in
    let (back, is) = front-int left v right in
    ap (λ l. slice_get l (n + j)) (whole ∙ ap (λ l. gone ++ l) is) ∙ get-at gone v back (n + j) many

-- where nothing is left, all that was added is taken
pub empty-here : (x : ℕ) (es : List Execution) (j e : ℕ) (states ends : List ObjState) (all : List ℤ) (n : ℕ) → Asks x es j e Empty → Stands x all n states → executed states es ≡ Some ends →
    n + j ≡ length all + e
empty-here x es j e states ends all n asks stands led =
    let (left, (gone, (whole, many, right))) = asked-here x es j e Empty states ends all n asks stands led in
    let none : left ≡ [] = front-empty left right in
    let all_gone : all ++ added x asks.front ≡ gone = whole ∙ ap (λ l. gone ++ l) none ∙ append-nil gone in
    let sizes : length (all ++ added x asks.front) ≡ length gone = ap length all_gone in
    let items : length (added x asks.front) ≡ adds x asks.front = added-length x asks.front in
    omega (arith, many, sizes, items, asks.adds, length-append all (added x asks.front))
