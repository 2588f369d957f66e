-- Tests on signed numbers.
use Rattle.std.proofs.Common.{◌≡◌, ℤ, true, false, int_lt, arith}
use Rattle.std.specs.Ordering.{int_eq}
use Rattle.std.proofs.lemmas.Grind.{common_steps}

pub lt-not_eq : (a b : ℤ) → int_lt a b ≡ true → int_eq a b ≡ false
lt-not_eq a b h = grind (arith, common_steps)

pub lt-not_eq_back : (a b : ℤ) → int_lt a b ≡ true → int_eq b a ≡ false
lt-not_eq_back a b h = grind (arith, common_steps)

pub lt-not_lt : (a b : ℤ) → int_lt a b ≡ true → int_lt b a ≡ false
lt-not_lt a b h = grind (arith, common_steps)

pub eq-is : (a b : ℤ) → int_eq a b ≡ true → a ≡ b
eq-is a b h = grind (arith, common_steps)

pub above : (a b : ℤ) → int_lt a b ≡ false → int_eq b a ≡ false → int_lt b a ≡ true
above a b h k = grind (arith, common_steps)

pub lt-trans : (a b c : ℤ) → int_lt a b ≡ true → int_lt b c ≡ true → int_lt a c ≡ true
lt-trans a b c h k = grind (arith, common_steps)

pub eq-itself : (a : ℤ) → int_eq a a ≡ true
eq-itself a = grind (arith, common_steps)

pub lt-itself : (a : ℤ) → int_lt a a ≡ false
lt-itself a = grind (arith, common_steps)
