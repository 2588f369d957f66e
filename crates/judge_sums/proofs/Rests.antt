-- Multiples, by their sizes.
use Prim.Native.Nat.{◌∣◌}
use Rattle.std.specs.Prelude.{◌≡◌, ℕ, ◌+◌, ◌-◌, ◌≤◌, ◌<◌, ◌%◌, int_rem, ℤ, pos, negsuc, ◌+ℤ◌, ◌-ℤ◌, zero, suc}
use Rattle.std.proofs.Common.{refl, sym, subst, ap, ◌∙◌, arith, w64}
use Rattle.std.proofs.Math.IntN.{nat_abs, neg_ℤ}
use Rattle.std.proofs.lemmas.Int.{ints, to_z-of_z}
use mir.Val.{SFits, to_z, of_z}
use Rattle.std.proofs.lemmas.Bool.{cases_lt}
use Rattle.std.proofs.Math.Logic.{⊎_elim}
use Rattle.std.proofs.lemmas.Nat.Gcd.{dvd-zero, dvd_of_mod-eq-zero, mod-eq-zero_of_dvd}
use native.Mathlib.Nat.{dvd-sub_iff_left}

dvd-plus : (d a b : ℕ) → d ∣ a → d ∣ b → d ∣ a + b
dvd-plus d a b p q = (dvd-sub_iff_left d (omega arith) q).0 (subst (λ n. d ∣ n) (omega arith) p)

dvd-minus : (d a b : ℕ) → b ≤ a → d ∣ a → d ∣ b → d ∣ a - b
dvd-minus d a b le p q = (dvd-sub_iff_left d le q).1 p

-- a difference, either way
dvd-gap : (d a b : ℕ) → d ∣ a → d ∣ suc b → d ∣ nat_abs (pos a +ℤ negsuc b)
dvd-gap d a b p q = ⊎_elim down up (cases_lt a (suc b))
  where
    up : suc b ≤ a → d ∣ nat_abs (pos a +ℤ negsuc b)
    up le =
        let same : pos a +ℤ negsuc b ≡ pos (a - suc b) = omega (arith, ints, le) in
        subst (λ n. d ∣ n) (ap nat_abs (sym same)) (dvd-minus d a (suc b) le p q)

    down : a < suc b → d ∣ nat_abs (pos a +ℤ negsuc b)
    down lt =
        let same : pos a +ℤ negsuc b ≡ negsuc (b - a) = omega (arith, ints, lt) in
        let size : suc b - a ≡ suc (b - a) = omega (arith, lt) in
        let le : a ≤ suc b = omega (arith, lt) in
        subst (λ n. d ∣ n) (size ∙ ap nat_abs (sym same)) (dvd-minus d (suc b) a le q p)

-- multiples add up to one
pub dvd-sum : (d : ℕ) (m n : ℤ) → d ∣ nat_abs m → d ∣ nat_abs n → d ∣ nat_abs (m +ℤ n)
dvd-sum d (pos a) (pos b) p q =
    let same : pos a +ℤ pos b ≡ pos (a + b) = omega (arith, ints) in
    subst (λ n. d ∣ n) (ap nat_abs (sym same)) (dvd-plus d a b p q)
dvd-sum d (pos a) (negsuc b) p q = dvd-gap d a b p q
dvd-sum d (negsuc a) (pos b) p q =
    let same : negsuc a +ℤ pos b ≡ pos b +ℤ negsuc a = omega (arith, ints) in
    subst (λ n. d ∣ nat_abs n) (sym same) (dvd-gap d b a q p)
dvd-sum d (negsuc a) (negsuc b) p q =
    let same : negsuc a +ℤ negsuc b ≡ negsuc (a + suc b) = omega (arith, ints) in
    let size : suc a + suc b ≡ suc (a + suc b) = omega arith in
    subst (λ n. d ∣ n) (size ∙ ap nat_abs (sym same)) (dvd-plus d (suc a) (suc b) p q)

-- what is said of two numbers says something of their sum
pub rests-add : (d : ℕ) (m n r s : ℤ) → d ∣ nat_abs (m -ℤ r) → d ∣ nat_abs (n -ℤ s) → d ∣ nat_abs ((m +ℤ n) -ℤ (r +ℤ s))
rests-add d m n r s p q =
    let same : (m +ℤ n) -ℤ (r +ℤ s) ≡ (m -ℤ r) +ℤ (n -ℤ s) = omega (arith, ints) in
    subst (λ k. d ∣ nat_abs k) (sym same) (dvd-sum d (m -ℤ r) (n -ℤ s) p q)

-- nothing more
pub rests-same : (d : ℕ) (r : ℤ) → d ∣ nat_abs (r -ℤ r)
rests-same d r =
    let none : r -ℤ r ≡ pos 0 = omega (arith, ints) in
    subst (λ k. d ∣ nat_abs k) (sym none) (dvd-zero d)

-- the size of a remainder
pub rest-size : (n m : ℤ) → nat_abs (int_rem n m) ≡ nat_abs n % nat_abs m
rest-size (pos n) m = refl
rest-size (negsuc n) m = neg-size (suc n % nat_abs m)
  where
    neg-size : (k : ℕ) → nat_abs (neg_ℤ (pos k)) ≡ k
    neg-size zero = refl
    neg-size (suc k) = refl

pub rest-multiple : (n m : ℤ) → int_rem n m ≡ pos 0 → nat_abs m ∣ nat_abs n
rest-multiple n m e = dvd_of_mod-eq-zero (nat_abs m) (sym (rest-size n m) ∙ ap nat_abs e)

pub multiple-rest : (n m : ℤ) → nat_abs m ∣ nat_abs n → nat_abs (int_rem n m) ≡ 0
multiple-rest n m d = rest-size n m ∙ mod-eq-zero_of_dvd (nat_abs m) d

pub size-zero : (z : ℤ) → nat_abs z ≡ 0 → z ≡ pos 0
size-zero (pos n) e = ap pos e
size-zero (negsuc n) e = cc

-- what divides a number divides the number that its bits stand for
pub to-bits : (d k : ℤ) → SFits w64 d → SFits w64 k → nat_abs d ∣ nat_abs k → nat_abs (to_z w64 (of_z w64 d)) ∣ nat_abs (to_z w64 (of_z w64 k))
to-bits d k fits_d fits_k h =
    let one : nat_abs (to_z w64 (of_z w64 d)) ∣ nat_abs k = subst (λ x. nat_abs x ∣ nat_abs k) (sym (to_z-of_z w64 d fits_d)) h in
    subst (λ y. nat_abs (to_z w64 (of_z w64 d)) ∣ nat_abs y) (sym (to_z-of_z w64 k fits_k)) one

pub from-bits : (d k : ℤ) → SFits w64 d → SFits w64 k → nat_abs (to_z w64 (of_z w64 d)) ∣ nat_abs (to_z w64 (of_z w64 k)) → nat_abs d ∣ nat_abs k
from-bits d k fits_d fits_k h =
    let one : nat_abs d ∣ nat_abs (to_z w64 (of_z w64 k)) = subst (λ x. nat_abs x ∣ nat_abs (to_z w64 (of_z w64 k))) (to_z-of_z w64 d fits_d) h in
    subst (λ y. nat_abs d ∣ nat_abs y) (to_z-of_z w64 k fits_k) one
