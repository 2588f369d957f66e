-- What is joined of true parts is true.
use Rattle.std.specs.Prelude.{◌≡◌, true, ◌||◌, List, Option, Some, None, ◌⊎◌}
use Rattle.std.specs.List.{Contains}
use Rattle.std.proofs.Common.{sym, ap, subst, ◌∙◌, inl, inr}
use Rattle.std.specs.declared.cmp.Ordering.{Ordering}
use Rattle.std.specs.declared.cmp.Ordering.TheVariants.{Less, Equal, Greater}
use Rattle.std.specs.Cmp.{IsTotalOrder}
use Rattle.std.specs.Cmp.Lexicographic.{slice_cmp}
use Rattle.std.specs.List.Sorted.{IsStrictlySortedBy}
use Rattle.base_values.specs.Exact.{IsExact}
use Rattle.base_sorted.specs.Sets.{has, union, by_order}
use Rattle.base_sorted.specs.Sorted.{has-union, sorted_union}
use Rattle.aud_lattice.specs.Covers.{cover_union}
use Rattle.aud_lattice.proofs.Minimal.{kept}
use Rattle.aud_lattice.specs.Least.{least_of}
use Rattle.aud_know.specs.Norms.{Norm, merge, IsNormal}
use Rattle.base_values.proofs.Bools.{or_always}

-- each item of xs is in ys
abbrev pub IsWithin : {T : Type 0} → (T → T → Ordering) → List T → List T → Type 0
IsWithin {T} cmp xs ys = (q : T) → has cmp xs q ≡ true → has cmp ys q ≡ true

-- a part of facts that are quiet is quiet
abbrev pub QuietParts : {F : Type 0} → (F → F → Ordering) → (List F → Type 0) → Type 0
QuietParts {F} cmp Quiet = (xs ys : List F) → IsWithin cmp xs ys → Quiet ys → Quiet xs

-- whole facts among quiet ones are all of them
abbrev pub WholeStays : {F : Type 0} → (F → F → Ordering) → (List F → Type 0) → (List F → Type 0) → Type 0
WholeStays {F} cmp Quiet Whole =
    (xs ys : List F) → IsStrictlySortedBy cmp xs → IsStrictlySortedBy cmp ys → IsWithin cmp xs ys → Whole xs → Quiet ys → ys ≡ xs

-- quiet facts, beside a refuted prefix or a witness, are whole, and it is true of them
pub record IsTrueFor {F D : Type 0} (Quiet Whole : List F → Type 0) (Refutes Shows : List F → List D → Type 0) (n : Norm F D) : Type 0 where
  pub refuted : Quiet n.facts → (p : List D) → Contains n.cover p → Whole n.facts × Refutes n.facts p
  pub shown : Quiet n.facts → (p : List D) → n.witness ≡ Some p → Whole n.facts × Shows n.facts p

of_two : {T : Type 0} (r : Ordering) (x y z : T) → by_order r (Some x) (Some x) (Some y) ≡ Some z → (Some x ≡ Some z) ⊎ (Some y ≡ Some z)
of_two Less x y z e = inl e
of_two Equal x y z e = inl e
of_two Greater x y z e = inr e

-- the lesser is one of the two
pub least_is_either : {T : Type 0} (C : T → T → Ordering) (x y : Option T) (z : T) → least_of C x y ≡ Some z → (x ≡ Some z) ⊎ (y ≡ Some z)
least_is_either C None y z e = inr e
least_is_either C (Some x) None z e = inl e
least_is_either C (Some x) (Some y) z e = of_two (C x y) x y z e

module _ {F D : Type 0} {R : F → F → Ordering} {S : D → D → Ordering} (o : IsTotalOrder R) (p : IsTotalOrder S) (ey : IsExact S)
    (Quiet Whole : List F → Type 0) (Refutes Shows : List F → List D → Type 0) (parts : QuietParts R Quiet) (stays : WholeStays R Quiet Whole) where
  pub within_left : (xs ys : List F) → IsWithin R xs (union R xs ys)
  within_left xs ys q h = has-union o xs ys q ∙ ap (λ b. b || has R ys q) h

  pub within_right : (xs ys : List F) → IsWithin R ys (union R xs ys)
  within_right xs ys q h = has-union o xs ys q ∙ ap (λ b. has R xs q || b) h ∙ or_always (has R xs q)

  pub merge_true : (n m : Norm F D) → IsNormal R S n → IsNormal R S m →
      IsTrueFor Quiet Whole Refutes Shows n → IsTrueFor Quiet Whole Refutes Shows m → IsTrueFor Quiet Whole Refutes Shows (merge R S n m)
  merge_true n m a b t u = record { refuted = refuted; shown = shown }
    where
      all : List F
      all = union R n.facts m.facts

      sorted : IsStrictlySortedBy R (union R n.facts m.facts)
      sorted = sorted_union o n.facts m.facts b.facts

      -- facts that are whole are all the facts
      first : (P : List F → Type 0) → Quiet (union R n.facts m.facts) → (Quiet n.facts → Whole n.facts × P n.facts) → Whole (union R n.facts m.facts) × P (union R n.facts m.facts)
      first P quiet known =
          let found = known (parts n.facts (union R n.facts m.facts) (within_left n.facts m.facts) quiet) in
          let same = stays n.facts (union R n.facts m.facts) a.facts sorted (within_left n.facts m.facts) found.0 quiet in
          subst (λ l. Whole l × P l) (sym same) found

      second : (P : List F → Type 0) → Quiet (union R n.facts m.facts) → (Quiet m.facts → Whole m.facts × P m.facts) → Whole (union R n.facts m.facts) × P (union R n.facts m.facts)
      second P quiet known =
          let found = known (parts m.facts (union R n.facts m.facts) (within_right n.facts m.facts) quiet) in
          let same = stays m.facts (union R n.facts m.facts) b.facts sorted (within_right n.facts m.facts) found.0 quiet in
          subst (λ l. Whole l × P l) (sym same) found

      refuted : Quiet (union R n.facts m.facts) → (q : List D) → Contains (cover_union S n.cover m.cover) q → Whole (union R n.facts m.facts) × Refutes (union R n.facts m.facts) q
      refuted quiet q h = elim ((kept p ey n.cover m.cover b.cover q h).there) [
        | inl there ↦ first (λ l. Refutes l q) quiet (λ k. t.refuted k q there)
        | inr there ↦ second (λ l. Refutes l q) quiet (λ k. u.refuted k q there)
      ]

      shown : Quiet (union R n.facts m.facts) → (q : List D) → least_of (slice_cmp S) n.witness m.witness ≡ Some q → Whole (union R n.facts m.facts) × Shows (union R n.facts m.facts) q
      shown quiet q e = elim (least_is_either (slice_cmp S) n.witness m.witness q e) [
        | inl there ↦ first (λ l. Shows l q) quiet (λ k. t.shown k q there)
        | inr there ↦ second (λ l. Shows l q) quiet (λ k. u.shown k q there)
      ]
