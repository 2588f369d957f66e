-- Orders in which only equal values tie.
use Rattle.std.specs.Prelude.{◌≡◌, true, false, refl}
use Rattle.std.specs.declared.cmp.Ordering.{Ordering}
use Rattle.std.specs.declared.cmp.Ordering.TheVariants.{Less, Equal, Greater}
use Rattle.std.specs.Ordering.{nat_cmp, int_cmp, bool_cmp, ordering_then}
use Rattle.std.specs.FinSet.{nat_cmp-IsAntisymmetric, int_cmp-IsAntisymmetric}

abbrev pub IsExact : {K : Type 0} → (K → K → Ordering) → Type 0
IsExact {K} cmp = (x y : K) → cmp x y ≡ Equal → x ≡ y

pub nat_exact : IsExact nat_cmp
nat_exact = nat_cmp-IsAntisymmetric

pub int_exact : IsExact int_cmp
int_exact = int_cmp-IsAntisymmetric

pub bool_exact : IsExact bool_cmp
bool_exact true true e = refl
bool_exact false false e = refl
bool_exact _ _ e = cc

-- where one order and then another tie, both tie
pub both_tie : (a b : Ordering) → ordering_then a b ≡ Equal → (a ≡ Equal) × (b ≡ Equal)
both_tie Less b e = absurd (elsewhere e)
  where
    elsewhere : Less ≡ Equal → ⊥
    elsewhere e = cc
both_tie Equal b e = (refl, e)
both_tie Greater b e = absurd (elsewhere e)
  where
    elsewhere : Greater ≡ Equal → ⊥
    elsewhere e = cc
