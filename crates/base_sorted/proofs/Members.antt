-- Membership, which the tests of a set answer.
use Rattle.std.proofs.Common.{◌≡◌, true, List, [], sym, ap, subst, ◌∙◌, inl, inr, ◌⊎◌, ◌↔◌}
use Rattle.std.specs.declared.cmp.Ordering.{Ordering}
use Rattle.std.specs.Ordering.{eq_by_cmp, is_eq}
use Rattle.std.specs.Cmp.{IsTotalOrder, tied_itself, Equal-is}
use Rattle.std.specs.List.{Contains}
use Rattle.std.specs.List.Sorted.{IsStrictlySortedBy}
use Rattle.std.proofs.lemmas.Bool.{or_cases}
use Rattle.base_values.specs.Exact.{IsExact}
use Rattle.base_sorted.specs.Sets.{has, with_item, union, inserted}
use Rattle.base_sorted.specs.Sorted.{has-with_item, has-union, same_sorted}
use Rattle.base_sorted.proofs.Strict.{some_passes, one_passes}
use Rattle.base_sorted.proofs.Pours.{has-inserted, sorted_inserted}
use Rattle.base_values.proofs.Bools.{or_nothing, or_right, same_bools, true_or}

module _ {T : Type 0} {R : T → T → Ordering} (o : IsTotalOrder R) (ex : IsExact R) where
  pub has_member : (xs : List T) (x : T) → Contains xs x → has R xs x ≡ true
  has_member xs x h = one_passes (eq_by_cmp R x) xs x h (ap is_eq (tied_itself o x))

  pub member_of : (xs : List T) (x : T) → has R xs x ≡ true → Contains xs x
  member_of xs x e = let found = some_passes (eq_by_cmp R x) xs e in subst (Contains xs) (sym (ex x found.0 ((Equal-is (R x found.0)).0 found.2))) found.1

  -- the test is membership
  pub has_is : (xs : List T) (x : T) → (has R xs x ≡ true) ↔ Contains xs x
  has_is xs x = (member_of xs x, has_member xs x)

  pub contains_with_item : (x : T) (ys : List T) (q : T) → Contains (with_item R x ys) q ↔ (Contains ys q ⊎ (q ≡ x))
  contains_with_item x ys q = (from, to)
    where
      from : Contains (with_item R x ys) q → Contains ys q ⊎ (q ≡ x)
      from h = elim (or_cases (eq_by_cmp R q x) (has R ys q) (sym (has-with_item o x ys q) ∙ has_member (with_item R x ys) q h)) [
        | inl first ↦ inr (ex q x ((Equal-is (R q x)).0 first))
        | inr later ↦ inl (member_of ys q later)
      ]

      to : Contains ys q ⊎ (q ≡ x) → Contains (with_item R x ys) q
      to h = member_of (with_item R x ys) q (has-with_item o x ys q ∙ elim h [
        | inl there ↦ or_right (eq_by_cmp R q x) (has R ys q) (has_member ys q there)
        | inr new ↦ true_or (eq_by_cmp R q x) (has R ys q) (ap (λ z. is_eq (R q z)) (sym new) ∙ ap is_eq (tied_itself o q))
      ])

  pub contains_union : (xs ys : List T) (q : T) → Contains (union R xs ys) q ↔ (Contains xs q ⊎ Contains ys q)
  contains_union xs ys q = (from, to)
    where
      from : Contains (union R xs ys) q → Contains xs q ⊎ Contains ys q
      from h = elim (or_cases (has R xs q) (has R ys q) (sym (has-union o xs ys q) ∙ has_member (union R xs ys) q h)) [
        | inl first ↦ inl (member_of xs q first)
        | inr second ↦ inr (member_of ys q second)
      ]

      to : Contains xs q ⊎ Contains ys q → Contains (union R xs ys) q
      to h = member_of (union R xs ys) q (has-union o xs ys q ∙ elim h [
        | inl first ↦ true_or (has R xs q) (has R ys q) (has_member xs q first)
        | inr second ↦ or_right (has R xs q) (has R ys q) (has_member ys q second)
      ])

  -- sorted lists with the same members are one
  pub same_members : (xs ys : List T) → IsStrictlySortedBy R xs → IsStrictlySortedBy R ys → ((x : T) → Contains xs x ↔ Contains ys x) → xs ≡ ys
  same_members xs ys s t same =
      same_sorted o ex xs ys s t
      (λ q. same_bools (has R xs q) (has R ys q) (λ e. has_member ys q ((same q).0 (member_of xs q e))) (λ e. has_member xs q ((same q).1 (member_of ys q e))))

  -- the sorted list of a list's members is what putting in each makes
  pub inserted_is : (xs ys : List T) → IsStrictlySortedBy R ys → ((x : T) → Contains ys x ↔ Contains xs x) → ys ≡ inserted R xs []
  unfolding IsStrictlySortedBy
  inserted_is xs ys s same =
      same_sorted o ex ys (inserted R xs []) s (sorted_inserted o ex xs [] tt)
      (λ q. same_bools (has R ys q) (has R xs q) (λ e. has_member xs q ((same q).0 (member_of ys q e))) (λ e. has_member ys q ((same q).1 (member_of xs q e)))
      ∙ sym (has-inserted o ex xs [] q ∙ or_nothing (has R xs q)))

  -- the members once x is put in, whether x was there or not
  pub contains_grown : (x : T) (ys new : List T) → new ≡ with_item R x ys → (q : T) → Contains new q ↔ (Contains ys q ⊎ (q ≡ x))
  contains_grown x ys new e q = subst (λ l. Contains l q ↔ (Contains ys q ⊎ (q ≡ x))) (sym e) (contains_with_item x ys q)

  pub contains_joined : (xs ys new : List T) → new ≡ union R xs ys → (q : T) → Contains new q ↔ (Contains xs q ⊎ Contains ys q)
  contains_joined xs ys new e q = subst (λ l. Contains l q ↔ (Contains xs q ⊎ Contains ys q)) (sym e) (contains_union xs ys q)
