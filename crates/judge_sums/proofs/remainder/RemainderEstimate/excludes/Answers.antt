use Prim.Native.Nat.{◌∣◌}
use Rattle.std.specs.Prelude.{◌≡◌, ℤ, ◌-ℤ◌, Some}
use Rattle.std.proofs.Common.{subst, sym, ◌∙◌, ap, rules, arith, w64}
use Rattle.std.proofs.lemmas.Grind.{common_steps}
use Rattle.std.proofs.lemmas.Int.{to_z-of_z}
use Rattle.std.proofs.Math.IntN.{nat_abs}
use mir.Val.{SFits, to_z, of_z}
use Rattle.judge_sums.proofs.Rests.{to-bits}
use Rattle.judge_sums.proofs.remainder.RemainderEstimate.excludes.Goals as goal

pub returns-in-Some-is_multiple : goal.returns-in-Some-is_multiple
returns-in-Some-is_multiple c = λ valued has.
    let mine : SFits w64 c.args.self.rest = search rules in
    let modulus : SFits w64 c.args.self.modulus = search rules in
    let fits : SFits w64 c.in-Some.more = search rules in
    let more : c.in-Some.more ≡ c.args.number -ℤ c.args.self.rest =
    c.in-Some.ensures.1 ∙ ap (λ x. x -ℤ to_z w64 (of_z w64 c.args.self.rest)) (to_z-of_z w64 c.args.number c.ranges.number) ∙ ap (λ y. c.args.number -ℤ y) (to_z-of_z w64 c.args.self.rest mine) in
    c.in-Some-is_multiple.ensures.no (ap Some (grind (arith, common_steps, valued))) (to-bits c.args.self.modulus c.in-Some.more modulus fits (subst (λ k. nat_abs c.args.self.modulus ∣ nat_abs k) (sym more) has))
