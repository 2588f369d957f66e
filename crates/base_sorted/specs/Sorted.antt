-- Sorted lists as sets.
use Rattle.std.proofs.Common.{◌≡◌, true, false, ◌||◌, List, [], ◌∷◌, refl, sym, ap, subst, ◌∙◌}
use mathlib.Core.Bool.{true≢false}
use Rattle.std.specs.declared.cmp.Ordering.{Ordering}
use Rattle.std.specs.declared.cmp.Ordering.TheVariants.{Less, Equal, Greater}
use Rattle.std.specs.Ordering.{eq_by_cmp, is_eq, ordering_reverse}
use Rattle.std.specs.Cmp.{IsTotalOrder, alike_right, tied_itself}
use Rattle.std.specs.List.{AllByRecursion}
use Rattle.std.specs.List.Sorted.{IsStrictlySortedBy}
use Rattle.base_values.specs.Exact.{IsExact}
use Rattle.base_sorted.specs.Sets.{by_order, has, with_item, union}
use Rattle.base_values.proofs.Bools.{or_assoc, or_swap, or_again}

-- of three ways, each with what the comparison answered
pub three_ways : {A : Type 0} (P : A → Type 0) (o : Ordering) (a b c : A) → (o ≡ Less → P a) → (o ≡ Equal → P b) → (o ≡ Greater → P c) → P (by_order o a b c)
three_ways P Less a b c f g h = f refl
three_ways P Equal a b c f g h = g refl
three_ways P Greater a b c f g h = h refl

module _ {T : Type 0} {R : T → T → Ordering} (o : IsTotalOrder R) where
  -- what lies below all of a list
  abbrev pub Below : T → List T → Type 0
  Below x ys = AllByRecursion (λ y. R x y ≡ Less) ys

  turned : (x y : T) → R x y ≡ Greater → R y x ≡ Less
  turned x y e = o.antisymm y x ∙ ap ordering_reverse e

  pub Below-less : (x y : T) (ys : List T) → R x y ≡ Less → Below y ys → Below x ys
  Below-less x y [] e b = tt
  Below-less x y (z ∷ zs) e b = (o.trans x y z e b.0, Below-less x y zs e b.1)

  pub has-with_item : (x : T) (ys : List T) (q : T) → has R (with_item R x ys) q ≡ (eq_by_cmp R q x || has R ys q)
  has-with_item x [] q = refl
  has-with_item x (y ∷ ys) q =
      three_ways (λ l. has R l q ≡ (eq_by_cmp R q x || has R (y ∷ ys) q)) (R x y) _ _ _
      (λ e. refl)
      (λ e. or_again (eq_by_cmp R q y) (has R ys q) ∙ ap (λ r. is_eq r || (eq_by_cmp R q y || has R ys q)) (sym (alike_right o x y q e)))
      (λ e. ap (λ b. eq_by_cmp R q y || b) (has-with_item x ys q) ∙ or_swap (eq_by_cmp R q y) (eq_by_cmp R q x) (has R ys q))

  pub has-union : (xs ys : List T) (q : T) → has R (union R xs ys) q ≡ (has R xs q || has R ys q)
  has-union [] ys q = refl
  has-union (x ∷ xs) ys q = has-with_item x (union R xs ys) q ∙ ap (λ b. eq_by_cmp R q x || b) (has-union xs ys q) ∙ sym (or_assoc (eq_by_cmp R q x) (has R xs q) (has R ys q))

  Below-with_item : (z x : T) (ys : List T) → R z x ≡ Less → Below z ys → Below z (with_item R x ys)
  Below-with_item z x [] e b = (e, tt)
  Below-with_item z x (y ∷ ys) e b = three_ways (Below z) (R x y) _ _ _ (λ _. (e, b)) (λ _. b) (λ _. (b.0, Below-with_item z x ys e b.1))

  pub sorted_with_item : (x : T) (ys : List T) → IsStrictlySortedBy R ys → IsStrictlySortedBy R (with_item R x ys)
  unfolding IsStrictlySortedBy
  sorted_with_item x [] s = (tt, tt)
  sorted_with_item x (y ∷ ys) s =
      three_ways (IsStrictlySortedBy R) (R x y) _ _ _
      (λ e. ((e, Below-less x y ys e s.0), s))
      (λ e. s)
      (λ e. (Below-with_item y x ys (turned x y e) s.0, sorted_with_item x ys s.1))

  pub sorted_union : (xs ys : List T) → IsStrictlySortedBy R ys → IsStrictlySortedBy R (union R xs ys)
  sorted_union [] ys s = s
  sorted_union (x ∷ xs) ys s = sorted_with_item x _ (sorted_union xs ys s)

  -- what lies below a list is not in it
  pub absent_below : (q : T) (ys : List T) → Below q ys → has R ys q ≡ false
  absent_below q [] b = refl
  absent_below q (y ∷ ys) b = ap (λ r. is_eq r || has R ys q) b.0 ∙ absent_below q ys b.1

  pub first_there : (x : T) (xs : List T) → has R (x ∷ xs) x ≡ true
  first_there x xs = ap (λ r. is_eq r || has R xs x) (tied_itself o x)

  -- a test that ties with what it lies below is false, so the rest of two equal sets is equal
  tail_of : (x : T) (xs ys : List T) → Below x xs → Below x ys → ((q : T) → has R (x ∷ xs) q ≡ has R (x ∷ ys) q) → (q : T) → has R xs q ≡ has R ys q
  tail_of x xs ys b c same q =
      elim (R q x) as (λ r. R q x ≡ r → (is_eq r || has R xs q) ≡ (is_eq r || has R ys q) → has R xs q ≡ has R ys q) [
        | Less ↦ λ e h. h
        | Equal ↦ λ e h. absent_below q xs (Below-tied q x xs e b) ∙ sym (absent_below q ys (Below-tied q x ys e c))
        | Greater ↦ λ e h. h
      ] refl (same q)
    where
      Below-tied : (q x : T) (ys : List T) → R q x ≡ Equal → Below x ys → Below q ys
      Below-tied q x [] e b = tt
      Below-tied q x (y ∷ ys) e b = (o.congr q x y e ∙ b.0, Below-tied q x ys e b.1)

  -- two sorted lists with the same members are one
  pub same_sorted : IsExact R → (xs ys : List T) → IsStrictlySortedBy R xs → IsStrictlySortedBy R ys → ((q : T) → has R xs q ≡ has R ys q) → xs ≡ ys
  unfolding IsStrictlySortedBy
  same_sorted ex [] [] s t same = refl
  same_sorted ex [] (y ∷ ys) s t same = absurd (true≢false (sym (first_there y ys) ∙ sym (same y)))
  same_sorted ex (x ∷ xs) [] s t same = absurd (true≢false (sym (first_there x xs) ∙ same x))
  same_sorted ex (x ∷ xs) (y ∷ ys) s t same =
      elim (R x y) as (λ r. R x y ≡ r → x ∷ xs ≡ y ∷ ys) [
        | Less ↦ λ e. absurd (true≢false (sym (first_there x xs) ∙ same x ∙ absent_below x (y ∷ ys) (e, Below-less x y ys e t.0)))
        | Equal ↦ λ e.
            let heads = ex x y e in
            let below : Below x ys = subst (λ z. Below z ys) (sym heads) t.0 in
            let tails = same_sorted ex xs ys s.1 t.1 (tail_of x xs ys s.0 below (λ q. same q ∙ ap (λ z. has R (z ∷ ys) q) (sym heads))) in
            λ i. heads i ∷ tails i
        | Greater ↦ λ e. absurd (true≢false (sym (first_there y ys) ∙ sym (same y) ∙ absent_below y (x ∷ xs) (turned x y e, Below-less y x xs (turned x y e) s.0)))
      ] refl
