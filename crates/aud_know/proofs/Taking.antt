-- Steps of a normal form.
use Rattle.std.specs.Prelude.{◌≡◌, true, ◌||◌, List, [], ◌∷◌, ◌++◌, Option, Some, None, map, refl}
use Rattle.std.proofs.Common.{sym, ap, subst, ◌∙◌, arith, inl, inr}
use Rattle.std.specs.declared.cmp.Ordering.{Ordering}
use Rattle.std.specs.Cmp.{IsTotalOrder}
use Rattle.std.specs.Cmp.Lexicographic.{slice_cmp}
use Rattle.base_values.specs.Exact.{IsExact}
use Rattle.std.specs.List.Sorted.{IsStrictlySortedBy}
use Rattle.base_sorted.specs.Sets.{has, union, with_item}
use Rattle.base_sorted.specs.Sorted.{has-union, has-with_item, sorted_union, sorted_with_item, same_sorted}
use Rattle.aud_lattice.specs.Covers.{IsCover, covers, cover_union, with_list, normal_form}
use Rattle.aud_lattice.specs.Covering.{covers-with_list, covers-cover_union, cover_with_list, cover_cover_union, same_cover}
use Rattle.aud_lattice.specs.Least.{least_of}
use Rattle.aud_know.specs.Norms.{AtomOf, fact, refuted, shown, facts_of, refuted_of, shown_of, Norm, set_of, least_in, norm, merge, atoms_of, IsNormal}
use Rattle.aud_know.proofs.Norming.{first_or_later, is_normal, merge_normal, norm_append, norm_atoms}
use Rattle.aud_know.proofs.Truths.{QuietParts, WholeStays, IsTrueFor, merge_true}
use Rattle.base_values.proofs.Bools.{or_nothing, or_comm}

facts-map : (F D : Type 0) (fs : List F) → facts_of {D = D} (map fact fs) ≡ fs
facts-map F D [] = refl
facts-map F D (f ∷ fs) = ap (λ l. f ∷ l) (facts-map F D fs)

refuted-map : (F D : Type 0) (fs : List F) → refuted_of {D = D} (map fact fs) ≡ []
refuted-map F D [] = refl
refuted-map F D (f ∷ fs) = refuted-map F D fs

shown-map : (F D : Type 0) (fs : List F) → shown_of {D = D} (map fact fs) ≡ []
shown-map F D [] = refl
shown-map F D (f ∷ fs) = shown-map F D fs

least_none : {T : Type 0} (C : T → T → Ordering) (w : Option T) → least_of C w None ≡ w
least_none C None = refl
least_none C (Some x) = refl

module _ {F D : Type 0} {R : F → F → Ordering} {S : D → D → Ordering} (o : IsTotalOrder R) (ex : IsExact R) (p : IsTotalOrder S) (ey : IsExact S) where
  sorted_none : IsStrictlySortedBy R []
  unfolding IsStrictlySortedBy
  sorted_none = tt

  cover_none : IsCover S []
  unfolding IsStrictlySortedBy
  cover_none = tt

  -- a set with an item
  with_one : (f : F) (xs : List F) → IsStrictlySortedBy R xs → with_item R f xs ≡ union R xs (f ∷ [])
  with_one f xs s = same_sorted o ex (with_item R f xs) (union R xs (f ∷ [])) (sorted_with_item o f xs s) (sorted_union o xs (f ∷ []) (sorted_with_item o f [] sorted_none))
      (λ q. has-with_item o f xs q ∙ or_comm _ (has R xs q) ∙ ap (λ b. has R xs q || b) (sym (or_nothing _)) ∙ sym (has-union o xs (f ∷ []) q))

  -- a set with nothing
  set_alone : (xs : List F) → IsStrictlySortedBy R xs → set_of R xs ≡ xs
  set_alone xs s = same_sorted o ex (union R xs []) xs (sorted_union o xs [] sorted_none) s (λ q. has-union o xs [] q ∙ or_nothing (has R xs q))

  with_one_list : (q : List D) (ps : List (List D)) → IsCover S ps → with_list S q ps ≡ cover_union S ps (q ∷ [])
  with_one_list q ps s = same_cover p ey (with_list S q ps) (cover_union S ps (q ∷ [])) (cover_with_list p q ps s) (cover_cover_union p ps (q ∷ []) (cover_with_list p q [] cover_none))
      (λ r. covers-with_list p q ps r ∙ or_comm _ (covers S ps r) ∙ ap (λ b. covers S ps r || b) (sym (or_nothing _)) ∙ sym (covers-cover_union p ps (q ∷ []) r))

  cover_alone : (ps : List (List D)) → IsCover S ps → cover_union S ps [] ≡ ps
  cover_alone ps s = same_cover p ey (cover_union S ps []) ps (cover_cover_union p ps [] cover_none) s (λ r. covers-cover_union p ps [] r ∙ or_nothing (covers S ps r))

  -- the values that takes leave
  pub with_fact : (n : Norm F D) (f : F) → IsNormal R S n →
      record { facts = with_item R f n.facts; cover = n.cover; witness = n.witness } ≡ merge R S n (norm R S (fact f ∷ []))
  with_fact n f a =
      let facts = with_one f n.facts a.facts in
      let cover = cover_alone n.cover a.cover in
      let witness = least_none (slice_cmp S) n.witness in
      λ i. record { facts = facts i; cover = sym cover i; witness = sym witness i }

  pub with_refuted : (n : Norm F D) (fs : List F) (q : List D) → IsNormal R S n → IsStrictlySortedBy R fs →
      record { facts = union R n.facts fs; cover = with_list S q n.cover; witness = n.witness } ≡ merge R S n (norm R S (refuted q ∷ map fact fs))
  with_refuted n fs q a s =
      let facts = ap (union R n.facts) (sym (set_alone fs s) ∙ ap (set_of R) (sym (facts-map F D fs))) in
      let cover = with_one_list q n.cover a.cover ∙ ap (λ l. cover_union S n.cover (with_list S q (normal_form S l))) (sym (refuted-map F D fs)) in
      let witness = sym (least_none (slice_cmp S) n.witness) ∙ ap (λ l. least_of (slice_cmp S) n.witness (least_in (slice_cmp S) l)) (sym (shown-map F D fs)) in
      λ i. record { facts = facts i; cover = cover i; witness = witness i }

  pub with_shown : (n : Norm F D) (fs : List F) (q : List D) → IsNormal R S n → IsStrictlySortedBy R fs →
      record { facts = union R n.facts fs; cover = n.cover; witness = least_of (slice_cmp S) n.witness (Some q) } ≡ merge R S n (norm R S (shown q ∷ map fact fs))
  with_shown n fs q a s =
      let facts = ap (union R n.facts) (sym (set_alone fs s) ∙ ap (set_of R) (sym (facts-map F D fs))) in
      let cover = sym (cover_alone n.cover a.cover) ∙ ap (λ l. cover_union S n.cover (normal_form S l)) (sym (refuted-map F D fs)) in
      let witness = ap (λ l. least_of (slice_cmp S) n.witness (least_of (slice_cmp S) (Some q) (least_in (slice_cmp S) l))) (sym (shown-map F D fs)) in
      λ i. record { facts = facts i; cover = cover i; witness = witness i }

  pub with_known : (n m : Norm F D) → IsNormal R S m → merge R S n m ≡ merge R S n (norm R S (atoms_of m))
  with_known n m a = ap (merge R S n) (sym (norm_atoms o ex p ey m a))

  -- what is merged is taken
  pub takes : (n m : Norm F D) (Y : List (AtomOf F D)) → m ≡ merge R S n (norm R S Y) → (X : List (AtomOf F D)) → n ≡ norm R S X → m ≡ norm R S (X ++ Y)
  takes n m Y e X h = e ∙ ap (λ k. merge R S k (norm R S Y)) h ∙ sym (norm_append o ex p ey X Y)

  module _ (Quiet Whole : List F → Type 0) (Refutes Shows : List F → List D → Type 0) (parts : QuietParts R Quiet) (stays : WholeStays R Quiet Whole) where
    pub empty_true : IsTrueFor Quiet Whole Refutes Shows (norm R S [])
    empty_true = record { refuted = λ _ q h. absurd (let lt = h.1 in omega arith); shown = λ _ q e. absurd (cc) }

    pub fact_true : (f : F) → IsTrueFor Quiet Whole Refutes Shows (norm R S (fact f ∷ []))
    fact_true f = record { refuted = λ _ q h. absurd (let lt = h.1 in omega arith); shown = λ _ q e. absurd (cc) }

    pub refuted_true : (fs : List F) (q : List D) → IsStrictlySortedBy R fs → Whole fs → Refutes fs q → IsTrueFor Quiet Whole Refutes Shows (norm R S (refuted q ∷ map fact fs))
    refuted_true fs q s whole claim =
        let facts : set_of R (facts_of {D = D} (map fact fs)) ≡ fs = ap (set_of R) (facts-map F D fs) ∙ set_alone fs s in
        let cover : with_list S q (normal_form S (refuted_of {D = D} (map fact fs))) ≡ q ∷ [] = ap (λ l. with_list S q (normal_form S l)) (refuted-map F D fs) in
        let witness : least_in (slice_cmp S) (shown_of {D = D} (map fact fs)) ≡ None = ap (least_in (slice_cmp S)) (shown-map F D fs) in
        let plain : IsTrueFor Quiet Whole Refutes Shows (record { facts = fs; cover = q ∷ []; witness = None }) = record {
          refuted = λ _ r h. elim (first_or_later q r [] h) [ inl e ↦ subst (λ x. Whole fs × Refutes fs x) e (whole, claim) | inr none ↦ absurd (let lt = none.1 in omega arith) ];
          shown = λ _ r e. absurd (cc);
        } in
        subst (IsTrueFor Quiet Whole Refutes Shows) (λ i. record { facts = sym facts i; cover = sym cover i; witness = sym witness i }) plain

    pub shown_true : (fs : List F) (q : List D) → IsStrictlySortedBy R fs → Whole fs → Shows fs q → IsTrueFor Quiet Whole Refutes Shows (norm R S (shown q ∷ map fact fs))
    shown_true fs q s whole claim =
        let facts : set_of R (facts_of {D = D} (map fact fs)) ≡ fs = ap (set_of R) (facts-map F D fs) ∙ set_alone fs s in
        let cover : normal_form S (refuted_of {D = D} (map fact fs)) ≡ [] = ap (normal_form S) (refuted-map F D fs) in
        let witness : least_of (slice_cmp S) (Some q) (least_in (slice_cmp S) (shown_of {D = D} (map fact fs))) ≡ Some q = ap (λ l. least_of (slice_cmp S) (Some q) (least_in (slice_cmp S) l)) (shown-map F D fs) in
        let plain : IsTrueFor Quiet Whole Refutes Shows (record { facts = fs; cover = []; witness = Some q }) = record {
          refuted = λ _ r h. absurd (let lt = h.1 in omega arith);
          shown = λ _ r e. subst (λ x. Whole fs × Shows fs x) (some_same q r e) (whole, claim);
        } in
        subst (IsTrueFor Quiet Whole Refutes Shows) (λ i. record { facts = sym facts i; cover = sym cover i; witness = sym witness i }) plain
      where
        some_same : (x y : List D) → Some x ≡ Some y → x ≡ y
        some_same x y e = cc

    -- with true atoms what is held stays true
    pub with_true : (n m : Norm F D) (Y : List (AtomOf F D)) → IsNormal R S n → IsTrueFor Quiet Whole Refutes Shows n → IsTrueFor Quiet Whole Refutes Shows (norm R S Y) →
        m ≡ merge R S n (norm R S Y) → IsNormal R S m × IsTrueFor Quiet Whole Refutes Shows m
    with_true n m Y a b t e = subst (λ k. IsNormal R S k × IsTrueFor Quiet Whole Refutes Shows k) (sym e) (
      merge_normal o ex p ey n (norm R S Y) (is_normal o ex p ey Y),
      merge_true o p ey Quiet Whole Refutes Shows parts stays n (norm R S Y) a (is_normal o ex p ey Y) b t,
    )
