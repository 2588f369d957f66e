-- A value that is cut off at 4,096 on the way.
use Rattle.std.proofs.Common.{◌≡◌, ◌<◌, ◌≤◌, ◌+◌, ◌*◌, ◌-◌, ℕ, zero, suc, List, [], ◌∷◌, Bool, true, false, ◌&&◌, length, drop, get_or, min, nat_le, refl, arith, add-one, drop-cons}
use Rattle.std.specs.Str.Parse.{digits_value_after}
use Rattle.std.specs.Char.{digit_value}
use Rattle.aud_text.specs.Orders.{all_digits}
use Rattle.std.proofs.lemmas.Str.{digit_value_digit}
use Rattle.base_values.proofs.Bools.{and_true}
use Rattle.aud_event.specs.Limits.{most_transactions}

pub after_grows : (x : ℕ) (cs : List ℕ) → x ≤ digits_value_after 10 x cs
after_grows x [] = omega arith
after_grows x (c ∷ cs) = omega (arith, after_grows (x * 10 + digit_value c) cs)

cut_step : (x y z : ℕ) → x ≤ y → most_transactions ≤ z → most_transactions ≤ x → min z most_transactions ≡ min y most_transactions
cut_step x y z h g k = omega arith

pub cut_early : (x : ℕ) (cs : List ℕ) → min (digits_value_after 10 (min x most_transactions) cs) most_transactions ≡ min (digits_value_after 10 x cs) most_transactions
cut_early x cs = by_test (nat_le most_transactions x) refl
  where
    by_test : (b : Bool) → nat_le most_transactions x ≡ b → min (digits_value_after 10 (min x most_transactions) cs) most_transactions ≡ min (digits_value_after 10 x cs) most_transactions
    by_test true e =
        let k : most_transactions ≤ x = grind arith in
        let m : min x most_transactions ≡ most_transactions = omega arith in
        rw m (cut_step x (digits_value_after 10 x cs) (digits_value_after 10 most_transactions cs) (after_grows x cs) (after_grows most_transactions cs) k)
    by_test false e =
        let k : x < most_transactions = grind arith in
        let m : min x most_transactions ≡ x = omega arith in rw m refl

pub one_digit : (c : ℕ) → (nat_le 48 c && nat_le c 57) ≡ true → digit_value c + 48 ≡ c
one_digit c h =
    let t = and_true (nat_le 48 c) (nat_le c 57) h in
    let low : 48 ≤ c = grind (arith, t.0) in
    let high : c ≤ 57 = grind (arith, t.1) in
    digit_value_digit c (low, high)

pub digit_at : (s : List ℕ) (i : ℕ) → i < length s → all_digits s ≡ true → digit_value (get_or s i 0) + 48 ≡ get_or s i 0
digit_at [] i h a = absurd (omega arith)
digit_at (c ∷ cs) zero h a = one_digit c (and_true (nat_le 48 c && nat_le c 57) (all_digits cs) a).0
digit_at (c ∷ cs) (suc i) h a = digit_at cs i (omega arith) (and_true (nat_le 48 c && nat_le c 57) (all_digits cs) a).1

-- one more digit
pub one_more : (s : List ℕ) (i v w : ℕ) → i < length s → all_digits s ≡ true → w ≡ min (v * 10 + (get_or s i 0 - 48)) most_transactions
    → min (digits_value_after 10 w (drop (i + 1) s)) most_transactions ≡ min (digits_value_after 10 v (drop i s)) most_transactions
one_more s i v w h a e =
    let d : v * 10 + (get_or s i 0 - 48) ≡ v * 10 + digit_value (get_or s i 0) = omega (arith, digit_at s i h a) in
    let left : drop i s ≡ get_or s i 0 ∷ drop (i + 1) s = rw (add-one, drop-cons s i 0) refl in
    rw (left, e, d) (cut_early (v * 10 + digit_value (get_or s i 0)) (drop (i + 1) s))
