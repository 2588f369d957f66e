-- A sorted list in three parts.
use Rattle.std.proofs.Common.{◌≡◌, ℕ, zero, suc, ◌+◌, ◌<◌, ◌≤◌, true, ◌||◌, List, [], ◌∷◌, ◌++◌, length, drop, Option, None, Some, refl, sym, ap, ◌∙◌, arith}
use mathlib.Core.Bool.{true≢false}
use Rattle.std.specs.declared.cmp.Ordering.{Ordering}
use Rattle.std.specs.declared.cmp.Ordering.TheVariants.{Less, Equal, Greater}
use Rattle.std.specs.Ordering.{eq_by_cmp, is_eq, ordering_reverse}
use Rattle.std.specs.Cmp.{IsTotalOrder}
use Rattle.std.specs.List.{AllByRecursion}
use Rattle.std.specs.List.Sorted.{IsStrictlySortedBy}
use Rattle.base_sorted.specs.Sets.{by_order, has, with_item}
use Rattle.base_sorted.specs.Sorted.{Below-less, absent_below}
use Rattle.base_trees.specs.Trees.{Found}
use Rattle.base_values.proofs.Bools.{or_always}

pub drop_right : {T : Type 0} (l : List T) (k : T) (r : List T) (m n : ℕ) → m ≡ length l + n + 1 → drop m (l ++ k ∷ r) ≡ drop n r
drop_right [] k r zero n e = absurd (omega (arith, e))
drop_right [] k r (suc m) n e = ap (λ i. drop i r) (omega (arith, e))
drop_right (x ∷ l) k r zero n e = absurd (omega (arith, e))
drop_right (x ∷ l) k r (suc m) n e = drop_right l k r m n (omega (arith, e))

pub drop_middle : {T : Type 0} (l : List T) (k : T) (r : List T) (m : ℕ) → m ≡ length l → drop m (l ++ k ∷ r) ≡ k ∷ r
drop_middle [] k r zero e = refl
drop_middle [] k r (suc m) e = absurd (omega (arith, e))
drop_middle (x ∷ l) k r zero e = absurd (omega (arith, e))
drop_middle (x ∷ l) k r (suc m) e = drop_middle l k r m (omega (arith, e))

pub drop_left : {T : Type 0} (l : List T) (k : T) (r : List T) (m : ℕ) → m ≤ length l → drop m (l ++ k ∷ r) ≡ drop m l ++ k ∷ r
drop_left l k r zero e = refl
drop_left [] k r (suc m) e = absurd (omega (arith, e))
drop_left (x ∷ l) k r (suc m) e = drop_left l k r m (omega (arith, e))

pub found_left : {T : Type 0} (l : List T) (k : T) (r : List T) (n : ℕ) (o : Option T) → n < length l → Found l n o → Found (l ++ k ∷ r) n o
found_left l k r n None lt f = absurd (drop_short l n lt f)
  where
    drop_short : {T : Type 0} (l : List T) (n : ℕ) → n < length l → drop n l ≡ [] → ⊥
    drop_short [] n lt f = omega (arith, lt)
    drop_short (x ∷ l) zero lt f = cc
    drop_short (x ∷ l) (suc n) lt f = drop_short l n (omega (arith, lt)) f
found_left l k r n (Some x) lt f = drop_left l k r n (omega (arith, lt)) ∙ ap (λ z. z ++ k ∷ r) f ∙ sym (ap (λ z. x ∷ z) (drop_left l k r (n + 1) (omega (arith, lt))))

pub found_middle : {T : Type 0} (l : List T) (k : T) (r : List T) (n : ℕ) → n ≡ length l → Found (l ++ k ∷ r) n (Some k)
found_middle l k r n e = drop_middle l k r n e ∙ sym (ap (λ z. k ∷ z) (drop_right l k r (n + 1) 0 (omega (arith, e))))

pub found_right : {T : Type 0} (l : List T) (k : T) (r : List T) (m n : ℕ) (o : Option T) → m ≡ length l + n + 1 → Found r n o → Found (l ++ k ∷ r) m o
found_right l k r m n None e f = drop_right l k r m n e ∙ f
found_right l k r m n (Some x) e f = drop_right l k r m n e ∙ f ∙ sym (ap (λ z. x ∷ z) (drop_right l k r (m + 1) (n + 1) (omega (arith, e))))

module _ {T : Type 0} {R : T → T → Ordering} (o : IsTotalOrder R) where
  pub sorted_left : (l : List T) (k : T) (r : List T) → IsStrictlySortedBy R (l ++ k ∷ r) → IsStrictlySortedBy R l
  unfolding IsStrictlySortedBy
  sorted_left [] k r s = tt
  sorted_left (y ∷ l) k r s = (front l s.0, sorted_left l k r s.1)
    where
      front : (l : List T) → AllByRecursion (λ z. R y z ≡ Less) (l ++ k ∷ r) → AllByRecursion (λ z. R y z ≡ Less) l
      front [] b = tt
      front (z ∷ l) b = (b.0, front l b.1)

  pub sorted_right : (l : List T) (k : T) (r : List T) → IsStrictlySortedBy R (l ++ k ∷ r) → IsStrictlySortedBy R r
  unfolding IsStrictlySortedBy
  sorted_right [] k r s = s.1
  sorted_right (y ∷ l) k r s = sorted_right l k r s.1

  -- the first of a sorted list is below the middle
  pub below_middle : (y : T) (l : List T) (k : T) (r : List T) → AllByRecursion (λ z. R y z ≡ Less) (l ++ k ∷ r) → R y k ≡ Less
  below_middle y [] k r b = b.0
  below_middle y (z ∷ l) k r b = below_middle y l k r b.1

  above_right : (y x k : T) → R y k ≡ Less → R x k ≡ Greater → R x y ≡ Greater
  above_right y x k e f = o.antisymm x y ∙ ap ordering_reverse (o.trans y k x e (o.antisymm k x ∙ ap ordering_reverse f))

  above_middle : (y x k : T) → R y k ≡ Less → R x k ≡ Equal → R x y ≡ Greater
  above_middle y x k e f = o.congr x k y f ∙ o.antisymm k y ∙ ap ordering_reverse e

  pub with_left : (x : T) (l : List T) (k : T) (r : List T) → R x k ≡ Less → with_item R x (l ++ k ∷ r) ≡ with_item R x l ++ k ∷ r
  with_left x [] k r e = ap (λ c. by_order c (x ∷ k ∷ r) (k ∷ r) (k ∷ with_item R x r)) e
  with_left x (y ∷ l) k r e =
      ap (λ z. by_order (R x y) (x ∷ y ∷ (l ++ k ∷ r)) (y ∷ (l ++ k ∷ r)) (y ∷ z)) (with_left x l k r e) ∙ over (R x y)
    where
      over : (c : Ordering) → by_order c (x ∷ y ∷ (l ++ k ∷ r)) (y ∷ (l ++ k ∷ r)) (y ∷ (with_item R x l ++ k ∷ r)) ≡ by_order c (x ∷ y ∷ l) (y ∷ l) (y ∷ with_item R x l) ++ k ∷ r
      over Less = refl
      over Equal = refl
      over Greater = refl

  pub with_right : (x : T) (l : List T) (k : T) (r : List T) → R x k ≡ Greater → IsStrictlySortedBy R (l ++ k ∷ r) → with_item R x (l ++ k ∷ r) ≡ l ++ k ∷ with_item R x r
  unfolding IsStrictlySortedBy
  with_right x [] k r e s = ap (λ c. by_order c (x ∷ k ∷ r) (k ∷ r) (k ∷ with_item R x r)) e
  with_right x (y ∷ l) k r e s =
      ap (λ c. by_order c (x ∷ y ∷ (l ++ k ∷ r)) (y ∷ (l ++ k ∷ r)) (y ∷ with_item R x (l ++ k ∷ r))) (above_right y x k (below_middle y l k r s.0) e)
      ∙ ap (λ z. y ∷ z) (with_right x l k r e s.1)

  pub with_middle : (x : T) (l : List T) (k : T) (r : List T) → R x k ≡ Equal → IsStrictlySortedBy R (l ++ k ∷ r) → with_item R x (l ++ k ∷ r) ≡ l ++ k ∷ r
  unfolding IsStrictlySortedBy
  with_middle x [] k r e s = ap (λ c. by_order c (x ∷ k ∷ r) (k ∷ r) (k ∷ with_item R x r)) e
  with_middle x (y ∷ l) k r e s =
      ap (λ c. by_order c (x ∷ y ∷ (l ++ k ∷ r)) (y ∷ (l ++ k ∷ r)) (y ∷ with_item R x (l ++ k ∷ r))) (above_middle y x k (below_middle y l k r s.0) e)
      ∙ ap (λ z. y ∷ z) (with_middle x l k r e s.1)

  pub has_left : (x : T) (l : List T) (k : T) (r : List T) → R x k ≡ Less → IsStrictlySortedBy R (l ++ k ∷ r) → has R (l ++ k ∷ r) x ≡ has R l x
  unfolding IsStrictlySortedBy
  has_left x [] k r e s = absent_below o x (k ∷ r) (e, Below-less o x k r e s.0)
  has_left x (y ∷ l) k r e s = ap (λ b. eq_by_cmp R x y || b) (has_left x l k r e s.1)

  pub has_middle : (x : T) (l : List T) (k : T) (r : List T) → R x k ≡ Equal → has R (l ++ k ∷ r) x ≡ true
  has_middle x [] k r e = ap (λ c. is_eq c || has R r x) e
  has_middle x (y ∷ l) k r e = ap (λ b. eq_by_cmp R x y || b) (has_middle x l k r e) ∙ or_always (eq_by_cmp R x y)

  pub has_right : (x : T) (l : List T) (k : T) (r : List T) → R x k ≡ Greater → IsStrictlySortedBy R (l ++ k ∷ r) → has R (l ++ k ∷ r) x ≡ has R r x
  unfolding IsStrictlySortedBy
  has_right x [] k r e s = ap (λ c. is_eq c || has R r x) e
  has_right x (y ∷ l) k r e s =
      ap (λ c. is_eq c || has R (l ++ k ∷ r) x) (above_right y x k (below_middle y l k r s.0) e) ∙ has_right x l k r e s.1

  -- a sorted list that has x stays
  pub with_there : (x : T) (ys : List T) → has R ys x ≡ true → IsStrictlySortedBy R ys → with_item R x ys ≡ ys
  unfolding IsStrictlySortedBy
  with_there x [] e s = absurd (true≢false (sym e))
  with_there x (y ∷ ys) e s =
      elim (R x y) as (λ c. R x y ≡ c → (is_eq c || has R ys x) ≡ true → by_order c (x ∷ y ∷ ys) (y ∷ ys) (y ∷ with_item R x ys) ≡ y ∷ ys) [
        | Less ↦ λ f h. absurd (true≢false (sym h ∙ absent_below o x ys (Below-less o x y ys f s.0)))
        | Equal ↦ λ f h. refl
        | Greater ↦ λ f h. ap (λ z. y ∷ z) (with_there x ys h s.1)
      ] refl e

  -- one more at most
  pub length_with : (x : T) (ys : List T) → (length ys ≤ length (with_item R x ys)) × (length (with_item R x ys) ≤ length ys + 1)
  length_with x [] = (omega arith, omega arith)
  length_with x (y ∷ ys) =
      elim (R x y) as (λ c. (length (y ∷ ys) ≤ length (by_order c (x ∷ y ∷ ys) (y ∷ ys) (y ∷ with_item R x ys))) × (length (by_order c (x ∷ y ∷ ys) (y ∷ ys) (y ∷ with_item R x ys)) ≤ length (y ∷ ys) + 1)) [
        | Less ↦ (omega arith, omega arith)
        | Equal ↦ (omega arith, omega arith)
        | Greater ↦ let h = length_with x ys in (omega (arith, h.0), omega (arith, h.1))
      ]
