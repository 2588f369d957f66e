-- What the laws give of values merged from the front.
use Rattle.std.proofs.Common.{◌≡◌, List, [], ◌∷◌, ◌++◌, Some, refl, ap, ◌∙◌}
use Rattle.aud_lattice.specs.Laws.{SemilatticeLaws, merged_from, merged}

module _ {M : Type 0} {merge : M → M → M} (laws : SemilatticeLaws merge) where
  merged_from-merge : (a b : M) (ys : List M) → merged_from merge (merge a b) ys ≡ merge a (merged_from merge b ys)
  merged_from-merge a b [] = refl
  merged_from-merge a b (y ∷ ys) = ap (λ z. merged_from merge z ys) (laws.associative a b y) ∙ merged_from-merge a (merge b y) ys

  merged_from-append : (a : M) (xs : List M) (y : M) (ys : List M) → merged_from merge a (xs ++ y ∷ ys) ≡ merge (merged_from merge a xs) (merged_from merge y ys)
  merged_from-append a [] y ys = merged_from-merge a y ys
  merged_from-append a (x ∷ xs) y ys = merged_from-append (merge a x) xs y ys

  -- two parts, of which the second takes the first
  pub merged-append : (xs ys : List M) (a b : M) → merged merge xs ≡ Some a → merged merge ys ≡ Some b → merged merge (xs ++ ys) ≡ Some (merge b a)
  merged-append [] ys a b p q = cc
  merged-append (x ∷ xs) [] a b p q = cc
  merged-append (x ∷ xs) (y ∷ ys) a b p q =
      let front : merged_from merge x xs ≡ a = cc in
      let back : merged_from merge y ys ≡ b = cc in
      ap Some (merged_from-append x xs y ys ∙ laws.commutative _ _ ∙ (λ i. merge (back i) (front i)))
