-- Who took an item that stood in front.
use Rattle.std.specs.Prelude.{◌≡◌, ℕ, zero, suc, ◌+◌, ◌-◌, ◌<◌, ◌≤◌, ℤ, true, false, ◌&&◌, nat_eq, nat_lt, List, [], ◌∷◌, ◌++◌, Some, slice_get, refl, ◌⊎◌}
use Rattle.std.proofs.Common.{sym, ◌∙◌, ap, subst, inl, inr, cond, arith}
use Rattle.std.proofs.lemmas.Bool.{ltb-true, lt-ltb}
use Rattle.std.proofs.lemmas.List.{append_assoc}
use Rattle.std.proofs.lemmas.Option.{same_Some}
use Rattle.aud_event.specs.declared.object.Op.{Op}
use Rattle.aud_event.specs.declared.object.Op.TheVariants.{Read, Write, Inc, Dec, Get, Add, Remove, Contains, Enq, Deq, Plus, Put, Look, Del}
use Rattle.aud_event.specs.declared.object.Answer.{Answer}
use Rattle.aud_event.specs.declared.object.Answer.TheVariants.{Done, Int, Flag, Empty}
use Rattle.aud_event.specs.Meanings.{Declared, PlanOf}
use Rattle.base_values.proofs.Bools.{and_true, true_and, true_or, or_right, split}
use Rattle.aud_object.specs.declared.execution.Execution.{Execution}
use Rattle.aud_kinds.specs.Objects.{queue, opening_of}
use Rattle.base_undo.proofs.Ints.{eq-itself}
use Rattle.aud_history.specs.Histories.{History, is_in}
use Rattle.aud_history.specs.WellFormed.{IsWellFormed}
use Rattle.aud_history.specs.FirstFault.{IsWithinLimits}
use Rattle.aud_history.specs.Table.{row_of}
use Rattle.aud_witness.specs.declared.decision.Decision.{Decision}
use Rattle.aud_witness.specs.Orders.{stands_before, Shows}
use Rattle.judge_clauses.specs.Clauses.{is_kept_in}
use Rattle.judge_clauses.proofs.Naming.{kept-named}
use Rattle.search_model.specs.Queues.{is_take, takes, takes_of, adds, taken_before}
use Rattle.search_model.specs.Blocks.{item, added, added_of, is_take_of, gives, takes_value, Asks}
use Rattle.search_model.proofs.Deeds.{takes-append}
use Rattle.search_model.proofs.Lists.{get-left, get-right}
use Rattle.judge_queues.proofs.Adders.{queued, added_before, queued-length, queued-through, taker-of}
use Rattle.judge_queues.proofs.Placing.{taken-at}

-- # A block's own takes

pub added-append : (x : ℕ) (a b : List Execution) → added x (a ++ b) ≡ added x a ++ added x b
added-append x [] b = refl
added-append x (e ∷ a) b =
    ap (λ l. cond (nat_eq e.object x) (item e.op) [] ++ l) (added-append x a b) ∙ sym (append_assoc (cond (nat_eq e.object x) (item e.op) []) (added x a) (added x b))

-- what a take is
take-parts : (op : Op) (answer : Answer) → is_take op answer ≡ true → (op ≡ Deq) × ((v : ℤ) × (answer ≡ Int v))
take-parts Deq (Int v) is = (refl, (v, refl))
take-parts Deq Done is = absurd (cc)
take-parts Deq (Flag b) is = absurd (cc)
take-parts Deq Empty is = absurd (cc)
take-parts Read answer is = absurd (cc)
take-parts (Write w) answer is = absurd (cc)
take-parts Inc answer is = absurd (cc)
take-parts Dec answer is = absurd (cc)
take-parts Get answer is = absurd (cc)
take-parts (Add w) answer is = absurd (cc)
take-parts (Remove w) answer is = absurd (cc)
take-parts (Contains w) answer is = absurd (cc)
take-parts (Enq w) answer is = absurd (cc)
take-parts (Plus k) answer is = absurd (cc)
take-parts (Put k w) answer is = absurd (cc)
take-parts (Look k) answer is = absurd (cc)
take-parts (Del k) answer is = absurd (cc)

abbrev Take : ℕ → List Execution → ℕ → Type 0
Take x es k = (e : ℕ) × ((v : ℤ) × Asks x es k e (Int v))

-- each of a block's takes is somewhere
pub take-there : (x : ℕ) (es : List Execution) (k : ℕ) → k < takes x es → Take x es k
take-there x [] k low = absurd (omega (arith, low))
take-there x (f ∷ es) k low = go k (split (nat_eq f.object x && is_take f.op f.answer)) low (λ j below. take-there x es j below)
  where
    push : (k j : ℕ) → k ≡ cond (nat_eq f.object x && is_take f.op f.answer) 1 0 + j → Take x es j → Take x (f ∷ es) k
    push k j is found =
        let (e, (v, asks)) = found in (
          adds x (f ∷ asks.front),
          (
            v,
            record {
              front = f ∷ asks.front;
              one = asks.one;
              back = asks.back;
              whole = ap (λ l. f ∷ l) asks.whole;
              on = asks.on;
              asks = asks.asks;
              gets = asks.gets;
              takes = ap (λ n. cond (nat_eq f.object x && is_take f.op f.answer) 1 0 + n) asks.takes ∙ sym is;
              adds = refl;
            },
          ),
        )

    go : (k : ℕ) → ((nat_eq f.object x && is_take f.op f.answer) ≡ true) ⊎ ((nat_eq f.object x && is_take f.op f.answer) ≡ false) → k < cond (nat_eq f.object x && is_take f.op f.answer) 1 0 + takes x es →
        ((j : ℕ) → j < takes x es → Take x es j) → Take x (f ∷ es) k
    go k (inr other) low further =
        let none : ◌≡◌ {A = ℕ} (cond (nat_eq f.object x && is_take f.op f.answer) 1 0) 0 = ap (λ b. cond b 1 0) other in
        push k k (omega (arith, none)) (further k (omega (arith, none, low)))
    go zero (inl own) low further =
        let (on, is) = and_true (nat_eq f.object x) (is_take f.op f.answer) own in
        let (asks, (v, gets)) = take-parts f.op f.answer is in
        (0, (v, record { front = []; one = f; back = es; whole = refl; on = on; asks = asks; gets = gets; takes = refl; adds = refl }))
    go (suc k) (inl own) low further =
        let here : ◌≡◌ {A = ℕ} (cond (nat_eq f.object x && is_take f.op f.answer) 1 0) 1 = ap (λ b. cond b 1 0) own in
        push (suc k) k (omega (arith, here)) (further k (omega (arith, here, low)))

-- a block that takes the value
asks-value : (x : ℕ) (v : ℤ) (one : Execution) → nat_eq one.object x ≡ true → one.op ≡ Deq → one.answer ≡ Int v → is_take_of x v one ≡ true
asks-value x v one on asks gets =
    true_and (nat_eq one.object x) (gives v one.op one.answer) on
    (subst (λ (o : Op). gives v o one.answer ≡ true) (sym asks) (subst (λ (a : Answer). gives v Deq a ≡ true) (sym gets) (eq-itself v)))

value-there : (x : ℕ) (v : ℤ) (front : List Execution) (one : Execution) (back : List Execution) → is_take_of x v one ≡ true → takes_value x v (front ++ one ∷ back) ≡ true
value-there x v [] one back is = true_or (is_take_of x v one) (takes_value x v back) is
value-there x v (e ∷ front) one back is = or_right (is_take_of x v e) (takes_value x v (front ++ one ∷ back)) (value-there x v front one back is)

pub takes-it : (x : ℕ) (es : List Execution) (k e : ℕ) (v : ℤ) → Asks x es k e (Int v) → takes_value x v es ≡ true
takes-it x es k e v asks = ap (takes_value x v) asks.whole ∙ value-there x v asks.front asks.one asks.back (asks-value x v asks.one asks.on asks.asks asks.gets)

-- what was added before an execution is the first part of what the block adds
pub front-added : (x : ℕ) (es : List Execution) (k e : ℕ) (answer : Answer) (asks : Asks x es k e answer) → added x es ≡ added x asks.front ++ added x (asks.one ∷ asks.back)
front-added x es k e answer asks = ap (added x) asks.whole ∙ added-append x asks.front (asks.one ∷ asks.back)

-- a block takes at least as many as before an execution
pub asks-takes : (x : ℕ) (es : List Execution) (j e : ℕ) (answer : Answer) → Asks x es j e answer → j ≤ takes x es
asks-takes x es j e answer asks =
    let all : takes x es ≡ takes x asks.front + takes x (asks.one ∷ asks.back) = ap (takes x) asks.whole ∙ takes-append x asks.front (asks.one ∷ asks.back) in
    let early = asks.takes in
    omega (arith, all, early)

-- # In an order that shows

module _ (plan : PlanOf) (h : History) (fine : IsWellFormed h) (within : IsWithinLimits plan h) (x : ℕ) (d : Declared) (declared : slice_get plan.objects x ≡ Some d) (opens : opening_of d ≡ queue [])
    (p : List Decision) (shown : Shows plan.objects h p) where
  -- an item that was added before T by another one stands at its place
  pub item-before : (b t i : ℕ) (v : ℤ) → stands_before p b t ≡ true → is_kept_in p b ≡ true → slice_get (added_of h x b) i ≡ Some v → slice_get (queued h x p t) (added_before h x p b + i) ≡ Some v
  item-before b t i v front kept at =
      let (rest, is) = queued-through h x p b t shown.full.once front kept in
      let size = queued-length h x p b in
      ap (λ l. slice_get l (added_before h x p b + i)) is
      ∙ get-left (queued h x p b ++ added_of h x b) rest (added_before h x p b + i) v (get-right (queued h x p b) (added_of h x b) (added_before h x p b + i) i (omega (arith, size)) ∙ at)

  -- what one that is kept takes before T stands at its place
  take-before : (y t k e : ℕ) (w : ℤ) → is_in h y ≡ true → stands_before p y t ≡ true → is_kept_in p y ≡ true → Asks x (row_of h y).block.executions k e (Int w) → slice_get (queued h x p t) (taken_before h x p y + k) ≡ Some w
  take-before y t k e w there front kept asks =
      let (rest, is) = queued-through h x p y t shown.full.once front kept in
      let at : slice_get (queued h x p y ++ added x asks.front) (taken_before h x p y + k) ≡ Some w = taken-at plan h fine within x d declared opens p y shown there k e w asks in
      let more : List ℤ = added x (asks.one ∷ asks.back) in
      let wide : (queued h x p y ++ added x asks.front) ++ more ≡ queued h x p y ++ added_of h x y =
      append_assoc (queued h x p y) (added x asks.front) more ∙ ap (λ l. queued h x p y ++ l) (sym (front-added x (row_of h y).block.executions k e (Int w) asks)) in
      let all : slice_get (queued h x p y ++ added_of h x y) (taken_before h x p y + k) ≡ Some w =
      ap (λ l. slice_get l (taken_before h x p y + k)) (sym wide) ∙ get-left (queued h x p y ++ added x asks.front) more (taken_before h x p y + k) w at in
      ap (λ l. slice_get l (taken_before h x p y + k)) is ∙ get-left (queued h x p y ++ added_of h x y) rest (taken_before h x p y + k) w all

  -- some other one before T took it
  abbrev pub TookBefore : ℕ → ℤ → Type 0
  TookBefore t v = (y : ℕ) × ((stands_before p y t ≡ true) × (is_kept_in p y ≡ true) × (is_in h y ≡ true) × (takes_value x v (row_of h y).block.executions ≡ true))

  -- an item of B that stood before what T asked for was taken before, and not by T
  pub gone-before : (b t i j : ℕ) (v : ℤ) → is_in h t ≡ true → j ≤ takes_of h x t → takes_value x v (row_of h t).block.executions ≡ false →
      stands_before p b t ≡ true → is_kept_in p b ≡ true → slice_get (added_of h x b) i ≡ Some v → added_before h x p b + i < taken_before h x p t + j → TookBefore t v
  gone-before b t i j v there many not_own front kept at low =
      let m : ℕ = added_before h x p b + i in
      let here : slice_get (queued h x p t) (added_before h x p b + i) ≡ Some v = item-before b t i v front kept at in
      elim (split (nat_lt m (taken_before h x p t))) [
        | inl below ↦
            let (y, (k, (before, stays, few, is))) = taker-of h x p t m shown.full.once (shown.full.same t ∙ there) (ltb-true m (taken_before h x p t) below) in
            let inside : is_in h y ≡ true = sym (shown.full.same y) ∙ kept-named p y stays in
            let (g, (w, own)) = take-there x (row_of h y).block.executions k few in
            let took : slice_get (queued h x p t) (taken_before h x p y + k) ≡ Some w = take-before y t k g w inside before stays own in
            let same : v ≡ w = same_Some v w (sym here ∙ ap (slice_get (queued h x p t)) is ∙ took) in
            (y, (before, stays, inside, ap (λ u. takes_value x u (row_of h y).block.executions) same ∙ takes-it x (row_of h y).block.executions k g w own))
        | inr above ↦
            absurd (
            let enough : taken_before h x p t ≤ m = not-less m (taken_before h x p t) above in
            let (k, is) = beyond m (taken_before h x p t) enough in
            let few : k < takes x (row_of h t).block.executions = omega (arith, many, low, is) in
            let (g, (w, own)) = take-there x (row_of h t).block.executions k few in
            let took : slice_get (queued h x p t ++ added x own.front) (taken_before h x p t + k) ≡ Some w = taken-at plan h fine within x d declared opens p t shown there k g w own in
            let wide : slice_get (queued h x p t ++ added x own.front) m ≡ Some v = get-left (queued h x p t) (added x own.front) m v here in
            let same : v ≡ w = same_Some v w (sym wide ∙ ap (slice_get (queued h x p t ++ added x own.front)) is ∙ took) in
            let takes_it : takes_value x v (row_of h t).block.executions ≡ true = ap (λ u. takes_value x u (row_of h t).block.executions) same ∙ takes-it x (row_of h t).block.executions k g w own in
            cc
            )
      ]
    where
      not-less : (a b : ℕ) → nat_lt a b ≡ false → b ≤ a
      not-less a b is = grind (arith, lt-ltb a b)

      beyond : (m n : ℕ) → n ≤ m → (k : ℕ) × (m ≡ n + k)
      beyond m n enough = (m - n, omega (arith, enough))
