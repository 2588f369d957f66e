-- The members of a normal form are the lists of which no proper beginning is there.
use Rattle.std.specs.Prelude.{◌≡◌, Bool, true, false, ◌||◌, List, slice_index_or, ◌⊎◌, Contains, refl}
use Rattle.std.proofs.Common.{sym, ap, subst, ◌∙◌, arith, inl, inr}
use Rattle.std.specs.declared.cmp.Ordering.{Ordering}
use Rattle.std.specs.Cmp.{IsTotalOrder}
use Rattle.std.proofs.lemmas.Bool.{cases_lt, or_cases}
use Rattle.std.proofs.lemmas.List.{get_or_default}
use Rattle.base_values.specs.Exact.{IsExact}
use Rattle.aud_lattice.specs.Covers.{cover_cmp, begins, IsCover, covers, cover_union, HasBeginning, IsKept}
use Rattle.aud_lattice.specs.Covering.{begins_itself, begins_trans, begins_ties, begun_ties, same_list, covers-cover_union, cover_cover_union, Less≢Equal}
use Rattle.base_sorted.proofs.Strict.{strict_at, some_passes, one_passes}

module _ {D : Type 0} {R : D → D → Ordering} (o : IsTotalOrder R) (ex : IsExact R) where
  -- what covers is a member
  coverer : (l : List (List D)) (p : List D) → covers R l p ≡ true → HasBeginning R l p
  coverer l p e = some_passes (λ q. begins R q p) l e

  covered_by : (l : List (List D)) (q p : List D) → Contains l q → begins R q p ≡ true → covers R l p ≡ true
  covered_by l q p h e = one_passes (λ x. begins R x p) l q h e

  -- no member of a cover begins another
  alone : (l : List (List D)) (q p : List D) → IsCover R l → Contains l q → Contains l p → begins R q p ≡ true → q ≡ p
  alone l q p s h k e = elim (cases_lt h.0 k.0) [
    | inl before ↦ absurd (Less≢Equal (sym (strict_at (cover_cmp R) l h.0 k.0 q s before k.1) ∙ (λ i. cover_cmp R (h.2 i) ((get_or_default l k.0 q p k.1 ∙ k.2) i)) ∙ begins_ties o q p e))
    | inr not_before ↦ elim (cases_lt k.0 h.0) [
      | inl after ↦ absurd (Less≢Equal (sym (strict_at (cover_cmp R) l k.0 h.0 q s after h.1) ∙ (λ i. cover_cmp R ((get_or_default l k.0 q p k.1 ∙ k.2) i) (h.2 i)) ∙ begun_ties o q p e))
      | inr not_after ↦ let same : h.0 ≡ k.0 = omega arith in sym h.2 ∙ ap (λ n. slice_index_or l n q) same ∙ get_or_default l k.0 q p k.1 ∙ k.2
    ]
  ]

  module _ (ps qs : List (List D)) (t : IsCover R qs) (p : List D) where
    in_either : (q r : List D) → Contains ps q ⊎ Contains qs q → begins R q r ≡ true → covers R (cover_union R ps qs) r ≡ true
    in_either q r h e = covers-cover_union o ps qs r ∙ elim h [ inl a ↦ ap (λ b. b || covers R qs r) (covered_by ps q r a e) | inr a ↦ ap (λ b. covers R ps r || b) (covered_by qs q r a e) ∙ or_true (covers R ps r) ]
      where
        or_true : (a : Bool) → (a || true) ≡ true
        or_true true = refl
        or_true false = refl

    from_either : (r : List D) → covers R (cover_union R ps qs) r ≡ true → (q : List D) × (Contains ps q ⊎ Contains qs q) × (begins R q r ≡ true)
    from_either r e = elim (or_cases (covers R ps r) (covers R qs r) (sym (covers-cover_union o ps qs r) ∙ e)) [
      | inl a ↦ let found = coverer ps r a in (found.0, inl found.1, found.2)
      | inr a ↦ let found = coverer qs r a in (found.0, inr found.1, found.2)
    ]

    cover : IsCover R (cover_union R ps qs)
    cover = cover_cover_union o ps qs t

    pub kept : Contains (cover_union R ps qs) p → IsKept R ps qs p
    kept h = record { there = there; least = least }
      where
        least : (q : List D) → Contains ps q ⊎ Contains qs q → begins R q p ≡ true → q ≡ p
        least q k e =
            let member = coverer (cover_union R ps qs) q (in_either q q k (begins_itself o q)) in
            let same = alone (cover_union R ps qs) member.0 p cover member.1 h (begins_trans o member.0 q p member.2 e) in
            same_list o ex q p e (sym (ap (λ x. begins R x q) same) ∙ member.2)

        there : Contains ps p ⊎ Contains qs p
        there =
            let found = from_either p (covered_by (cover_union R ps qs) p p h (begins_itself o p)) in
            moved found.0 (least found.0 found.1 found.2) found.1
          where
            moved : (q : List D) → q ≡ p → Contains ps q ⊎ Contains qs q → Contains ps p ⊎ Contains qs p
            moved q e h = subst (λ x. Contains ps x ⊎ Contains qs x) e h

    pub keeps : IsKept R ps qs p → Contains (cover_union R ps qs) p
    keeps k =
        let member = coverer (cover_union R ps qs) p (in_either p p k.there (begins_itself o p)) in
        let below = from_either member.0 (covered_by (cover_union R ps qs) member.0 member.0 member.1 (begins_itself o member.0)) in
        let same = k.least below.0 below.1 (begins_trans o below.0 member.0 p below.2 member.2) in
        let back : begins R p member.0 ≡ true = sym (ap (λ x. begins R x member.0) same) ∙ below.2 in
        subst (Contains (cover_union R ps qs)) (same_list o ex member.0 p member.2 back) member.1
