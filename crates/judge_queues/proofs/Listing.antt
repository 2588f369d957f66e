-- Which additions of a block may be what is taken.
use Rattle.std.specs.Prelude.{◌≡◌, ℕ, zero, suc, ◌+◌, ◌<◌, ◌≤◌, ℤ, Bool, true, false, ◌&&◌, nat_eq, List, [], ◌∷◌, ◌++◌, length, Some, slice_get, ◌||◌, None, refl}
use Rattle.std.proofs.Common.{sym, ◌∙◌, ap, subst, cond, arith, take, get_or, below_more}
use Rattle.std.proofs.lemmas.List.{take_all}
use Rattle.std.proofs.lemmas.Option.{same_Some, slice_get_within}
use Rattle.aud_event.specs.declared.object.Op.{Op}
use Rattle.aud_event.specs.declared.object.Op.TheVariants.{Enq}
use Rattle.base_values.proofs.Bools.{or_false, and_true, true_and}
use Rattle.aud_object.specs.declared.execution.Execution.{Execution}
use Rattle.base_undo.proofs.Ints.{eq-itself}
use Rattle.aud_history.specs.Table.{RowOf}
use Rattle.judge_clauses.specs.declared.clause.Atom.TheVariants.{Item}
use Rattle.judge_clauses.specs.declared.clause.Literal.{Literal}
use Rattle.judge_clauses.specs.declared.clause.Take.{Take}
use Rattle.judge_clauses.specs.Clauses.{KnownFactsOf, says, Unless}
use Rattle.search_model.specs.Queues.{is_addition, adds}
use Rattle.judge_clauses.specs.Touching.{mentions}
use Rattle.search_model.specs.Blocks.{item, added, brings, is_addition_of, gives, takes_value}
use Rattle.judge_queues.specs.Laws.{NoItem, IsNoAdder, IsNoTaker}
use Rattle.judge_queues.proofs.Running.{first-length, added-length}
use Rattle.search_model.proofs.Lists.{get-right}

item-brings : (op : Op) (rest : List ℤ) (v : ℤ) → is_addition op ≡ true → slice_get (item op ++ rest) 0 ≡ Some v → brings v op ≡ true
item-brings (Enq w) rest v is at = let same : w ≡ v = same_Some w v at in subst (λ u. brings u (Enq w) ≡ true) same (eq-itself w)
item-brings _ rest v is at = absurd (cc)

-- an addition whose item is the value
pub item-at : (x : ℕ) (es : List Execution) (k : ℕ) (d : Execution) (v : ℤ) → k < length es → (nat_eq (get_or es k d).object x && is_addition (get_or es k d).op) ≡ true →
    slice_get (added x es) (adds x (take k es)) ≡ Some v → is_addition_of x v (get_or es k d) ≡ true
item-at x [] k d v low is at = absurd (omega (arith, low))
item-at x (e ∷ es) zero d v low is at =
    let (on, own) = and_true (nat_eq e.object x) (is_addition e.op) is in
    true_and (nat_eq e.object x) (brings v e.op) on (item-brings e.op (added x es) v own (sym (ap (λ b. slice_get (cond b (item e.op) [] ++ added x es) 0) on) ∙ at))
item-at x (e ∷ es) (suc k) d v low is at =
    let size = first-length x e in
    let place : cond (nat_eq e.object x && is_addition e.op) 1 0 + adds x (take k es) ≡ length (cond (nat_eq e.object x) (item e.op) []) + adds x (take k es) = omega (arith, size) in
    item-at x es k d v (omega (arith, low)) is
    (sym (get-right (cond (nat_eq e.object x) (item e.op) []) (added x es) (cond (nat_eq e.object x && is_addition e.op) 1 0 + adds x (take k es)) (adds x (take k es)) place) ∙ at)

module _ (f : KnownFactsOf) (c : List Literal) (taken : Take) (a : ℕ) (v : ℤ) (es : List Execution) where
  -- one addition more
  pub no-item-more : (n k : ℕ) (d : Execution) → k < length es → n ≡ adds taken.object (take k es) → (nat_eq (get_or es k d).object taken.object && is_addition (get_or es k d).op) ≡ true →
      (is_addition_of taken.object v (get_or es k d) ≡ true → Unless f c (λ p. says f.history p (Item taken a n) ≡ false)) → NoItem f c taken a v n es → NoItem f c taken a v (n + 1) es
  no-item-more n k d low count is here before =
      below_more (λ i. slice_get (added taken.object es) i ≡ Some v → Unless f c (λ p. says f.history p (Item taken a i) ≡ false)) n before
      (λ at. here (item-at taken.object es k d v low is (ap (slice_get (added taken.object es)) (sym count) ∙ at)))

  -- fewer of them
  pub no-item-less : (n limit : ℕ) → limit ≤ n → NoItem f c taken a v n es → NoItem f c taken a v limit es
  no-item-less n limit few before i low = before i (omega (arith, few, low))

  -- all of them
  pub no-item-all : (n k limit : ℕ) → length es ≤ k → n ≡ adds taken.object (take k es) → NoItem f c taken a v n es → NoItem f c taken a v limit es
  no-item-all n k limit all count before i low at =
      let whole : adds taken.object (take k es) ≡ adds taken.object es = ap (adds taken.object) (take_all k es all) in
      let size = added-length taken.object es in
      let short = slice_get_within (added taken.object es) i v at in
      before i (omega (arith, whole, size, short, count)) at

-- a block adds at most as many items as it has executions
pub adds-few : (x : ℕ) (es : List Execution) → adds x es ≤ length es
adds-few x [] = omega arith
adds-few x (e ∷ es) = let rest = adds-few x es in go (nat_eq e.object x && is_addition e.op) rest
  where
    go : (b : Bool) → adds x es ≤ length es → cond b 1 0 + adds x es ≤ suc (length es)
    go true rest = omega (arith, rest)
    go false rest = omega (arith, rest)

-- a row's additions
pub listed-from : (f : KnownFactsOf) (c : List Literal) (taken : Take) (v : ℤ) (row : RowOf) (limit : ℕ) → limit ≡ length row.block.executions → NoItem f c taken row.tx v limit row.block.executions → IsNoAdder f c taken v row
listed-from f c taken v row limit all none i at p shown broken kept front =
    let size = added-length taken.object row.block.executions in
    let few = adds-few taken.object row.block.executions in
    let short = slice_get_within (added taken.object row.block.executions) i v at in
    none i (omega (arith, size, few, short, all)) at p shown broken

-- # Executions on other objects

pub added-untouched : (x : ℕ) (es : List Execution) → mentions x es ≡ false → added x es ≡ []
added-untouched x [] none = refl
added-untouched x (e ∷ es) none =
    let (other, rest) = or_false (nat_eq e.object x) (mentions x es) none in
    ap (λ b. cond b (item e.op) [] ++ added x es) other ∙ added-untouched x es rest

pub takes_value-untouched : (x : ℕ) (v : ℤ) (es : List Execution) → mentions x es ≡ false → takes_value x v es ≡ false
takes_value-untouched x v [] none = refl
takes_value-untouched x v (e ∷ es) none =
    let (other, rest) = or_false (nat_eq e.object x) (mentions x es) none in
    ap (λ b. (b && gives v e.op e.answer) || takes_value x v es) other ∙ takes_value-untouched x v es rest

-- a row that does not touch the queue is listed, and no taker
pub listed-untouched : (f : KnownFactsOf) (c : List Literal) (taken : Take) (v : ℤ) (row : RowOf) → mentions taken.object row.block.executions ≡ false → IsNoAdder f c taken v row
listed-untouched f c taken v row none i at = absurd (let nothing : None ≡ Some v = sym (ap (λ l. slice_get l i) (added-untouched taken.object row.block.executions none)) ∙ at in cc)

pub no_taker-untouched : (f : KnownFactsOf) (c : List Literal) (x : ℕ) (v : ℤ) (t : ℕ) (row : RowOf) → mentions x row.block.executions ≡ false → IsNoTaker f c x v t row
no_taker-untouched f c x v t row none takes = absurd (let never = takes_value-untouched x v row.block.executions none in cc)
