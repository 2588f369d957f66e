-- What a block does to a queue, execution by execution.
use Rattle.std.specs.Prelude.{◌≡◌, ℕ, zero, suc, ◌+◌, ◌<◌, ℤ, true, ◌&&◌, nat_eq, List, [], ◌∷◌, ◌++◌, length, Some, slice_get, refl}
use Rattle.std.proofs.Common.{◌∙◌, ap, cond, arith, take, drop, get_or}
use Rattle.std.proofs.Math.Seq.{take-suc}
use Rattle.std.proofs.lemmas.Option.{same_Some}
use Rattle.aud_event.specs.declared.object.Op.{Op}
use Rattle.aud_event.specs.declared.object.Op.TheVariants.{Enq, Deq}
use Rattle.base_values.proofs.Bools.{and_true}
use Rattle.aud_object.specs.declared.execution.Execution.{Execution}
use Rattle.base_undo.proofs.Ints.{eq-is}
use Rattle.search_model.specs.Queues.{is_addition, is_take, adds, takes}
use Rattle.search_model.specs.Blocks.{item, added, brings, is_addition_of, Asks}
use Rattle.search_model.proofs.Lists.{get-right}

pub takes-append : (x : ℕ) (a b : List Execution) → takes x (a ++ b) ≡ takes x a + takes x b
takes-append x [] b = omega arith
takes-append x (e ∷ a) b = let rest = takes-append x a b in omega (arith, rest)

adds-append : (x : ℕ) (a b : List Execution) → adds x (a ++ b) ≡ adds x a + adds x b
adds-append x [] b = omega arith
adds-append x (e ∷ a) b = let rest = adds-append x a b in omega (arith, rest)

-- one execution more
pub takes-more : (x : ℕ) (es : List Execution) (k : ℕ) (d : Execution) → k < length es →
    takes x (take (k + 1) es) ≡ takes x (take k es) + cond (nat_eq (get_or es k d).object x && is_take (get_or es k d).op (get_or es k d).answer) 1 0
takes-more x es k d low =
    let last : takes x (get_or es k d ∷ []) ≡ cond (nat_eq (get_or es k d).object x && is_take (get_or es k d).op (get_or es k d).answer) 1 0 = omega arith in
    let one : k + 1 ≡ suc k = omega arith in
    ap (λ n. takes x (take n es)) one ∙ ap (takes x) (take-suc es k d low) ∙ takes-append x (take k es) (get_or es k d ∷ []) ∙ ap (λ n. takes x (take k es) + n) last

pub adds-more : (x : ℕ) (es : List Execution) (k : ℕ) (d : Execution) → k < length es →
    adds x (take (k + 1) es) ≡ adds x (take k es) + cond (nat_eq (get_or es k d).object x && is_addition (get_or es k d).op) 1 0
adds-more x es k d low =
    let last : adds x (get_or es k d ∷ []) ≡ cond (nat_eq (get_or es k d).object x && is_addition (get_or es k d).op) 1 0 = omega arith in
    let one : k + 1 ≡ suc k = omega arith in
    ap (λ n. adds x (take n es)) one ∙ ap (adds x) (take-suc es k d low) ∙ adds-append x (take k es) (get_or es k d ∷ []) ∙ ap (λ n. adds x (take k es) + n) last

-- an execution that asks for an item
pub asks-there : (x : ℕ) (es : List Execution) (k : ℕ) (e : Execution) → slice_get es k ≡ Some e → nat_eq e.object x ≡ true → e.op ≡ Deq → Asks x es (takes x (take k es)) (adds x (take k es)) e.answer
asks-there x es k e at on asks = record {
  front = take k es;
  one = e;
  back = drop (suc k) es;
  whole = split-at es k e at;
  on = on;
  asks = asks;
  gets = refl;
  takes = refl;
  adds = refl;
}
  where
    split-at : (es : List Execution) (k : ℕ) (e : Execution) → slice_get es k ≡ Some e → es ≡ take k es ++ e ∷ drop (suc k) es
    split-at [] k e at = absurd (cc)
    split-at (f ∷ es) zero e at = ap (λ z. z ∷ es) (same_Some f e at)
    split-at (f ∷ es) (suc k) e at = ap (λ l. f ∷ l) (split-at es k e at)

brings-is : (v : ℤ) (op : Op) → brings v op ≡ true → op ≡ Enq v
brings-is v (Enq w) is = ap Enq (eq-is w v is)
brings-is v _ is = absurd (cc)

-- an execution that adds the value is one of its block's additions
pub adds-there : (x : ℕ) (v : ℤ) (es : List Execution) (k : ℕ) (d : Execution) → k < length es → is_addition_of x v (get_or es k d) ≡ true → (i : ℕ) × (slice_get (added x es) i ≡ Some v)
adds-there x v [] k d low is = absurd (omega (arith, low))
adds-there x v (e ∷ es) zero d low is =
    let (on, own) = and_true (nat_eq e.object x) (brings v e.op) is in
    let items : cond (nat_eq e.object x) (item e.op) [] ≡ v ∷ [] = ap (λ b. cond b (item e.op) []) on ∙ ap item (brings-is v e.op own) in
    (0, ap (λ l. slice_get (l ++ added x es) 0) items)
adds-there x v (e ∷ es) (suc k) d low is =
    let (i, at) = adds-there x v es k d (omega (arith, low)) is in
    (length (cond (nat_eq e.object x) (item e.op) []) + i, get-right (cond (nat_eq e.object x) (item e.op) []) (added x es) (length (cond (nat_eq e.object x) (item e.op) []) + i) i refl ∙ at)
