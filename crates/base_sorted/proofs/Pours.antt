-- The items of one list put into another.
use Rattle.std.proofs.Common.{◌≡◌, Bool, true, false, ◌||◌, List, [], ◌∷◌, refl, sym, ap, ◌∙◌}
use Rattle.std.specs.declared.cmp.Ordering.{Ordering}
use Rattle.std.specs.Ordering.{eq_by_cmp}
use Rattle.std.specs.Cmp.{IsTotalOrder}
use Rattle.std.specs.List.Sorted.{IsStrictlySortedBy}
use Rattle.base_values.specs.Exact.{IsExact}
use Rattle.base_sorted.specs.Sets.{has, with_item, union, inserted}
use Rattle.base_sorted.specs.Sorted.{has-with_item, sorted_with_item, has-union, sorted_union, same_sorted}
use Rattle.base_values.proofs.Bools.{or_comm, or_same, or_swap}

or_assoc : (a b c : Bool) → (a || (b || c)) ≡ ((a || b) || c)
or_assoc true b c = refl
or_assoc false b c = refl

module _ {T : Type 0} {R : T → T → Ordering} (o : IsTotalOrder R) (ex : IsExact R) where
  pub has-inserted : (xs acc : List T) (q : T) → has R (inserted R xs acc) q ≡ (has R xs q || has R acc q)
  has-inserted [] acc q = refl
  has-inserted (x ∷ xs) acc q =
      has-inserted xs (with_item R x acc) q
      ∙ ap (λ b. has R xs q || b) (has-with_item o x acc q)
      ∙ or_swap (has R xs q) (eq_by_cmp R q x) (has R acc q)
      ∙ or_assoc (eq_by_cmp R q x) (has R xs q) (has R acc q)

  pub sorted_inserted : (xs acc : List T) → IsStrictlySortedBy R acc → IsStrictlySortedBy R (inserted R xs acc)
  sorted_inserted [] acc s = s
  sorted_inserted (x ∷ xs) acc s = sorted_inserted xs (with_item R x acc) (sorted_with_item o x acc s)

  pub inserted_union : (xs acc : List T) → IsStrictlySortedBy R acc → inserted R xs acc ≡ union R xs acc
  inserted_union xs acc s =
      same_sorted o ex _ _ (sorted_inserted xs acc s) (sorted_union o xs acc s) (λ q. has-inserted xs acc q ∙ sym (has-union o xs acc q))

  pub union_swap : (xs ys : List T) → IsStrictlySortedBy R xs → IsStrictlySortedBy R ys → union R ys xs ≡ union R xs ys
  union_swap xs ys s t =
      same_sorted o ex _ _ (sorted_union o ys xs s) (sorted_union o xs ys t)
      (λ q. has-union o ys xs q ∙ or_comm (has R ys q) (has R xs q) ∙ sym (has-union o xs ys q))

  union_same : (xs : List T) → IsStrictlySortedBy R xs → union R xs xs ≡ xs
  union_same xs s = same_sorted o ex _ _ (sorted_union o xs xs s) s (λ q. has-union o xs xs q ∙ or_same (has R xs q))

  pub union_itself : (xs ys : List T) → IsStrictlySortedBy R ys → xs ≡ ys → ys ≡ union R xs ys
  union_itself xs ys s e = sym (ap (λ l. union R l ys) e ∙ union_same ys s)

  pub same_has : (xs ys : List T) → IsStrictlySortedBy R xs → IsStrictlySortedBy R ys → has R xs ≡ has R ys → xs ≡ ys
  same_has xs ys s t e = same_sorted o ex xs ys s t (λ q i. e i q)
