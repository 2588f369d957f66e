use Prim.Native.Nat.{◌∣◌}
use Rattle.std.specs.Prelude.{◌≡◌, ℤ, ◌+ℤ◌, ◌-ℤ◌}
use Rattle.std.proofs.Common.{subst, sym, ◌∙◌, ap, rules, w64}
use Rattle.std.proofs.lemmas.Int.{to_z-of_z}
use Rattle.std.proofs.Math.IntN.{nat_abs}
use mir.Val.{SFits, to_z, of_z}
use Rattle.judge_sums.specs.Rests.{HasRest}
use Rattle.judge_sums.specs.declared.remainder.Remainder.{Remainder}
use Rattle.judge_sums.proofs.Rests.{rests-add}
use Rattle.judge_sums.proofs.remainder.RemainderEstimate.plus.Goals as goal

sum-rest : (a b : Remainder) (m n r : ℤ) → b.modulus ≡ a.modulus → r ≡ a.rest +ℤ b.rest → HasRest a m → HasRest b n → nat_abs a.modulus ∣ nat_abs (m +ℤ n -ℤ r)
sum-rest a b m n r moduli rest p q =
    let theirs : nat_abs a.modulus ∣ nat_abs (n -ℤ b.rest) = subst (λ d. nat_abs d ∣ nat_abs (n -ℤ b.rest)) moduli q in
    let both : nat_abs a.modulus ∣ nat_abs (m +ℤ n -ℤ (a.rest +ℤ b.rest)) = rests-add (nat_abs a.modulus) m n a.rest b.rest p theirs in
    subst (λ s. nat_abs a.modulus ∣ nat_abs (m +ℤ n -ℤ s)) (sym rest) both

pub returns : goal.returns
returns c = λ m n p q.
    let mine : SFits w64 c.args.self.rest = search rules in
    let its : SFits w64 c.args.other.rest = search rules in
    let moduli : c.args.other.modulus ≡ c.args.self.modulus = search rules in
    let rest : c.in_ok-rest.rest ≡ c.args.self.rest +ℤ c.args.other.rest =
    c.in_ok-rest.ensures.1 ∙ ap (λ x. x +ℤ to_z w64 (of_z w64 c.args.other.rest)) (to_z-of_z w64 c.args.self.rest mine) ∙ ap (λ y. c.args.self.rest +ℤ y) (to_z-of_z w64 c.args.other.rest its) in
    let sum : SFits w64 c.in_ok-rest.rest = search rules in
    let done : nat_abs c.args.self.modulus ∣ nat_abs (m +ℤ n -ℤ to_z w64 (of_z w64 c.in_ok-rest.rest)) = sum-rest c.args.self c.args.other m n (to_z w64 (of_z w64 c.in_ok-rest.rest)) moduli (to_z-of_z w64 c.in_ok-rest.rest sum ∙ rest) p q in
    subst (λ (e : Remainder). nat_abs e.modulus ∣ nat_abs (m +ℤ n -ℤ e.rest)) (sym c.of.ensures) done
