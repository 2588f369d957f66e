-- The laws of the normal form hold.
use Rattle.std.proofs.Common.{◌≡◌, ℕ, ◌<◌, ◌||◌, List, [], ◌∷◌, ◌++◌, refl, sym, ap, ◌∙◌, arith, ◌⊎◌, inl, inr}
use Rattle.std.specs.declared.cmp.Ordering.{Ordering}
use Rattle.std.specs.Cmp.{IsTotalOrder}
use Rattle.std.specs.List.{Contains}
use Rattle.std.specs.List.Sorted.{IsStrictlySortedBy}
use Rattle.base_values.specs.Exact.{IsExact}
use Rattle.aud_lattice.specs.Covers.{begins, covers, IsCover, cover_union, normal_form}
use Rattle.aud_lattice.specs.Covering.{covers-cover_union, cover_cover_union, same_cover}
use Rattle.aud_lattice.proofs.Minimal.{kept, keeps}
use Rattle.aud_lattice.specs.Norms.{IsNormOfUnion, IsNormWithNorm, IsNormOfFirsts}
use Rattle.base_values.proofs.Bools.{or_nothing, or_assoc, or_comm}

module _ {D : Type 0} {R : D → D → Ordering} (o : IsTotalOrder R) (ex : IsExact R) where
  covers-append : (ps qs : List (List D)) (r : List D) → covers R (ps ++ qs) r ≡ (covers R ps r || covers R qs r)
  covers-append [] qs r = refl
  covers-append (p ∷ ps) qs r = ap (λ b. begins R p r || b) (covers-append ps qs r) ∙ sym (or_assoc (begins R p r) (covers R ps r) (covers R qs r))

  -- the cover of some lists covers what they cover
  covers-norm : (ps : List (List D)) (r : List D) → covers R (normal_form R ps) r ≡ covers R ps r
  covers-norm ps r = covers-cover_union o ps [] r ∙ or_nothing (covers R ps r)

  norm_cover : (ps : List (List D)) → IsCover R (normal_form R ps)
  unfolding IsStrictlySortedBy
  norm_cover ps = cover_cover_union o ps [] tt

  norm_of : (ps qs : List (List D)) → ((r : List D) → covers R ps r ≡ covers R qs r) → normal_form R ps ≡ normal_form R qs
  norm_of ps qs same =
      same_cover o ex _ _ (norm_cover ps) (norm_cover qs) (λ r. covers-norm ps r ∙ same r ∙ sym (covers-norm qs r))

  pub norm_of_union : IsNormOfUnion R
  norm_of_union ps qs = (
    norm_of (ps ++ qs) (normal_form R ps ++ normal_form R qs) (λ r.
        covers-append ps qs r ∙ (λ i. sym (covers-norm ps r) i || sym (covers-norm qs r) i) ∙ sym (covers-append (normal_form R ps) (normal_form R qs) r)),
    same_cover o ex _ _ (norm_cover (ps ++ qs)) (cover_cover_union o (normal_form R ps) (normal_form R qs) (norm_cover qs)) (λ r.
        covers-norm (ps ++ qs) r ∙ covers-append ps qs r ∙ (λ i. sym (covers-norm ps r) i || sym (covers-norm qs r) i)
        ∙ sym (covers-cover_union o (normal_form R ps) (normal_form R qs) r)),
  )

  pub norm_with_norm : IsNormWithNorm R
  norm_with_norm ps qs =
      norm_of (qs ++ normal_form R ps) (ps ++ qs) (λ r.
      covers-append qs (normal_form R ps) r ∙ ap (λ b. covers R qs r || b) (covers-norm ps r)
      ∙ or_comm (covers R qs r) (covers R ps r) ∙ sym (covers-append ps qs r))

  -- joining covers makes the cover of all their lists
  pub norm_of_join : (ps qs : List (List D)) → IsCover R qs → cover_union R ps qs ≡ normal_form R (ps ++ qs)
  norm_of_join ps qs t =
      same_cover o ex _ _ (cover_cover_union o ps qs t) (norm_cover (ps ++ qs)) (λ r.
      covers-cover_union o ps qs r ∙ sym (covers-append ps qs r) ∙ sym (covers-norm (ps ++ qs) r))

  pub norm_of_firsts : IsNormOfFirsts R
  unfolding IsStrictlySortedBy
  norm_of_firsts ps = (
    norm_cover ps,
    λ p. (
      λ h. let k = kept o ex ps [] tt p h in record {
        there = in_first p k.there;
        first = λ q m e. k.least q (inl m) e;
      },
      λ f. keeps o ex ps [] tt p (record {
        there = inl f.there;
        least = λ q m e. f.first q (in_first q m) e;
      }),
    ),
  )
    where
      in_first : (q : List D) → Contains ps q ⊎ Contains [] q → Contains ps q
      in_first q h = elim h [ inl a ↦ a | inr b ↦ absurd (none b.0 b.1) ]
        where
          none : (k : ℕ) → k < 0 → ⊥
          none k lt = omega (arith, lt)
