-- What is left of a set without the items of another.
use Rattle.std.proofs.Common.{◌≡◌, Bool, true, false, not, ◌||◌, ◌&&◌, List, [], ◌∷◌, ◌++◌, refl, sym, ap, subst, ◌∙◌, ◌↔◌, inl, inr, append_assoc, append-nil}
use mathlib.Core.Bool.{true≢false}
use Rattle.std.specs.declared.cmp.Ordering.{Ordering}
use Rattle.std.specs.Ordering.{eq_by_cmp}
use Rattle.std.specs.Cmp.{IsTotalOrder, Equal-is}
use Rattle.std.specs.List.{Contains}
use Rattle.std.proofs.lemmas.List.Elements.{filter-append, Contains-append_left, Contains-append_right, Contains-append_cases}
use Rattle.std.proofs.lemmas.Map.Views.{any-filter_same}
use Rattle.std.specs.List.Sorted.{IsStrictlySortedBy}
use Rattle.std.proofs.lemmas.List.Kept.{IsStrictlySortedBy-filter}
use Rattle.base_values.specs.Exact.{IsExact}
use Rattle.base_sorted.specs.Sets.{has, union, with_item, without}
use Rattle.base_sorted.proofs.Pours.{union_swap}
use Rattle.base_sorted.proofs.Members.{has_is, contains_union, same_members}
use Rattle.base_sorted.specs.Sorted.{has-union, sorted_union, same_sorted}
use Rattle.base_values.proofs.Bools.{is_false}

pub sorted_without : {T : Type 0} (R : T → T → Ordering) (xs ys : List T) → IsStrictlySortedBy R xs → IsStrictlySortedBy R (without R xs ys)
sorted_without R xs ys s = IsStrictlySortedBy-filter R (λ x. not (has R ys x)) xs s

and_true : (a b : Bool) → (not a && b) ≡ true → (b ≡ true) × (a ≡ false)
and_true true b e = absurd (true≢false (sym e))
and_true false b e = (e, refl)

true_and : (a b : Bool) → b ≡ true → a ≡ false → (not a && b) ≡ true
true_and a b e f = (λ i. not (f i) && b) ∙ e

new_or_there : (a b : Bool) → ((not b && a) || b) ≡ (a || b)
new_or_there true true = refl
new_or_there true false = refl
new_or_there false true = refl
new_or_there false false = refl

-- one item more
pub without_more : {T : Type 0} (R : T → T → Ordering) (x : T) (xs ys all : List T) → (all ++ without R (x ∷ []) ys) ++ without R xs ys ≡ all ++ without R (x ∷ xs) ys
without_more R x xs ys all = append_assoc all (without R (x ∷ []) ys) (without R xs ys) ∙ ap (λ l. all ++ l) (sym (filter-append (λ z. not (has R ys z)) (x ∷ []) xs))

module _ {T : Type 0} {R : T → T → Ordering} (o : IsTotalOrder R) (ex : IsExact R) where
  pub has-without : (xs ys : List T) (q : T) → has R (without R xs ys) q ≡ (not (has R ys q) && has R xs q)
  has-without xs ys q = any-filter_same (eq_by_cmp R q) (λ x. not (has R ys x)) (not (has R ys q)) (λ k e. ap (λ z. not (has R ys z)) (sym (ex q k ((Equal-is (R q k)).0 e)))) xs

  pub contains_without : (xs ys : List T) (q : T) → Contains (without R xs ys) q ↔ (Contains xs q × ¬ (Contains ys q))
  contains_without xs ys q = (from, to)
    where
      from : Contains (without R xs ys) q → Contains xs q × ¬ (Contains ys q)
      from h =
          let both = and_true (has R ys q) (has R xs q) (sym (has-without xs ys q) ∙ (has_is o ex (without R xs ys) q).1 h) in
          ((has_is o ex xs q).0 both.0, λ there. true≢false (sym ((has_is o ex ys q).1 there) ∙ both.1))

      to : Contains xs q × ¬ (Contains ys q) → Contains (without R xs ys) q
      to h = (has_is o ex (without R xs ys) q).0 (has-without xs ys q ∙ true_and (has R ys q) (has R xs q) ((has_is o ex xs q).1 h.0) (is_false (has R ys q) (λ e. h.1 ((has_is o ex ys q).0 e))))

  -- what is new joined is all joined
  pub union_of_new : (xs ys : List T) → IsStrictlySortedBy R ys → union R (without R xs ys) ys ≡ union R xs ys
  union_of_new xs ys s =
      same_sorted o ex _ _ (sorted_union o (without R xs ys) ys s) (sorted_union o xs ys s)
      (λ q. has-union o (without R xs ys) ys q ∙ (λ i. has-without xs ys q i || has R ys q) ∙ new_or_there (has R xs q) (has R ys q) ∙ sym (has-union o xs ys q))

  -- the sorted list of the members of both
  pub rebuilt_is : (new ys both all : List T) → both ≡ new ++ ys → IsStrictlySortedBy R ys → IsStrictlySortedBy R all → ((x : T) → Contains all x ↔ Contains both x) → all ≡ union R new ys
  rebuilt_is new ys both all e s t same = same_members o ex all (union R new ys) t (sorted_union o new ys s) (λ x. (from x, to x))
    where
      from : (x : T) → Contains all x → Contains (union R new ys) x
      from x h = (contains_union o ex new ys x).1 (Contains-append_cases new ys x (subst (λ l. Contains l x) e ((same x).0 h)))

      to : (x : T) → Contains (union R new ys) x → Contains all x
      to x h = (same x).1 (subst (λ l. Contains l x) (sym e) (elim ((contains_union o ex new ys x).0 h) [
        | inl first ↦ Contains-append_left new ys x first
        | inr second ↦ Contains-append_right new ys x second
      ]))

  -- a list put in order, and so a list with a sorted one behind it
  pub arranged_is : (items all : List T) → IsStrictlySortedBy R all → ((x : T) → Contains all x ↔ Contains items x) → all ≡ union R items []
  unfolding IsStrictlySortedBy
  arranged_is items all s same = rebuilt_is items [] items all (sym (append-nil items)) tt s same

  pub union_of_both : (new ys : List T) → IsStrictlySortedBy R ys → union R (new ++ ys) [] ≡ union R new ys
  unfolding IsStrictlySortedBy
  union_of_both [] ys s = union_swap o ex [] ys tt s
  union_of_both (x ∷ new) ys s = ap (λ l. with_item R x l) (union_of_both new ys s)
