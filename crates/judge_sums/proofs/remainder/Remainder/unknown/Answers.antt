use Prim.Native.Nat.{◌∣◌}
use Rattle.std.specs.Prelude.{◌≡◌, ℤ, pos, ◌-ℤ◌, Some}
use Rattle.std.proofs.Common.{subst, sym, ap, rules, arith, w64}
use Rattle.std.proofs.lemmas.Int.{ints}
use mir.Val.{SFits}
use Rattle.std.proofs.Math.IntN.{nat_abs}
use Rattle.judge_sums.specs.Rests.{HasRest}
use Rattle.judge_sums.specs.declared.remainder.Remainder.{Remainder}
use Rattle.judge_sums.proofs.Rests.{rests-same, from-bits}
use Rattle.judge_sums.proofs.remainder.Remainder.unknown.Goals as goal

whole : (d w : ℤ) → nat_abs d ∣ nat_abs w → nat_abs d ∣ nat_abs (w -ℤ pos 0)
whole d w h =
    let same : w -ℤ pos 0 ≡ w = omega (arith, ints) in
    subst (λ k. nat_abs d ∣ nat_abs k) (sym same) h

pub returns-then-is_multiple : goal.returns-then-is_multiple
returns-then-is_multiple c =
    let modulus : SFits w64 c.args.self.modulus = search rules in
    let divides : nat_abs c.args.self.modulus ∣ nat_abs c.args.weight = from-bits c.args.self.modulus c.args.weight modulus c.ranges.weight (c.in-Some.ensures.yes (ap Some c.if-is_multiple.true)) in
    subst (λ (e : Remainder). HasRest e c.args.weight × HasRest e (pos 0)) (sym c.of.ensures) (whole c.args.self.modulus c.args.weight divides, rests-same (nat_abs c.args.self.modulus) (pos 0))
