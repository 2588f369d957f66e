use Prim.Native.Nat.{◌∣◌}
use Rattle.std.specs.Prelude.{◌≡◌, ℤ, pos, Some, true, false, nat_eq, int_rem}
use Rattle.std.proofs.Common.{sym, ◌∙◌, ap, subst, rules, arith, w64}
use Rattle.std.proofs.lemmas.Int.{to_z-of_z}
use Rattle.std.proofs.lemmas.Grind.{common_steps}
use Rattle.std.proofs.Math.IntN.{nat_abs}
use mir.Val.{SFits, to_z, of_z}
use Rattle.judge_sums.proofs.Rests.{rest-multiple, multiple-rest, size-zero}
use Rattle.judge_sums.proofs.remainder.is_multiple.Goals as goal

zero-bits : (z : ℤ) → SFits w64 z → nat_eq (of_z w64 z) 0 ≡ true → z ≡ pos 0
zero-bits z fits e =
    let bits : of_z w64 z ≡ 0 = grind (arith, common_steps, e) in
    sym (to_z-of_z w64 z fits) ∙ ap (to_z w64) bits

-- the remainder of the numbers that the bits stand for
same-rest : (r n m : ℤ) → SFits w64 n → SFits w64 m → r ≡ int_rem (to_z w64 (of_z w64 n)) (to_z w64 (of_z w64 m)) → r ≡ int_rem n m
same-rest r n m fits_n fits_m e = e ∙ ap (λ x. int_rem x (to_z w64 (of_z w64 m))) (to_z-of_z w64 n fits_n) ∙ ap (int_rem n) (to_z-of_z w64 m fits_m)

pub returns-clause-yes : goal.returns-clause-yes
returns-clause-yes c = λ valued.
    let fits : SFits w64 c.in_ok-rest.rest = search rules in
    let is : c.in_ok-rest.rest ≡ int_rem c.args.number c.args.modulus = same-rest c.in_ok-rest.rest c.args.number c.args.modulus c.ranges.number c.ranges.modulus c.in_ok-rest.ensures.1 in
    rest-multiple c.args.number c.args.modulus (sym is ∙ zero-bits c.in_ok-rest.rest fits (cc))

pub returns-clause-no : goal.returns-clause-no
returns-clause-no c = λ valued divides.
    let is : c.in_ok-rest.rest ≡ int_rem c.args.number c.args.modulus = same-rest c.in_ok-rest.rest c.args.number c.args.modulus c.ranges.number c.ranges.modulus c.in_ok-rest.ensures.1 in
    let rest : c.in_ok-rest.rest ≡ pos 0 = is ∙ size-zero (int_rem c.args.number c.args.modulus) (multiple-rest c.args.number c.args.modulus divides) in
    let bits : nat_eq (of_z w64 c.in_ok-rest.rest) 0 ≡ true = ap (λ z. nat_eq (of_z w64 z) 0) rest in
    cc
