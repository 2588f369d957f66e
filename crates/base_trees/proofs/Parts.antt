-- Parts of a list, and what stands at a place of them.
use Rattle.std.proofs.Common.{◌≡◌, ℕ, ◌+◌, ◌-◌, ◌<◌, ◌≤◌, List, ◌∷◌, ◌++◌, length, length-append, Option, refl, subst, arith}
use Rattle.base_trees.specs.Trees.{Found, IsPart}
use Rattle.base_trees.proofs.Splits.{found_left, found_right}

pub part_all : {T : Type 0} (xs : List T) → IsPart xs 0 xs
part_all xs = record {
  fits = omega arith;
  found = λ n m x e lt f. subst (λ i. Found xs i x) (omega (arith, e)) f;
}

pub part_left : {T : Type 0} (l : List T) (k : T) (r : List T) (skip : ℕ) (part : List T) → IsPart l skip part → IsPart (l ++ k ∷ r) skip part
part_left l k r skip part p = record {
  fits = omega (arith, p.fits, length-append l (k ∷ r));
  found = λ n m x e lt f. found_left l k r m x (omega (arith, p.fits, lt, e)) (p.found n m x e lt f);
}

pub part_right : {T : Type 0} (l : List T) (k : T) (r : List T) (skip : ℕ) (part : List T) (m : ℕ) → m ≡ skip + length l + 1 → IsPart r skip part → IsPart (l ++ k ∷ r) m part
part_right l k r skip part m e p = record {
  fits = omega (arith, e, p.fits, length-append l (k ∷ r));
  found = λ n i x h lt f. found_right l k r i (skip + n) x (omega (arith, e, h)) (p.found n (skip + n) x refl lt f);
}

-- what is found in a part stands in the whole
pub in_part : {T : Type 0} (all part : List T) (skip n : ℕ) (x : Option T) → IsPart all skip part → skip ≤ n → n < skip + length part → Found part (n - skip) x → Found all n x
in_part all part skip n x p le lt f = p.found (n - skip) n x (omega (arith, le)) (omega (arith, le, lt)) f
