-- What is left of a number beside a multiple of another one.
use Rattle.std.specs.Prelude.{ℤ, ◌-ℤ◌}
use Rattle.std.proofs.Math.IntN.{nat_abs}
use Prim.Native.Nat.{◌∣◌}
use Rattle.judge_sums.specs.declared.remainder.Remainder.{Remainder}

-- the number is the rest and a multiple of the modulus
abbrev pub HasRest : Remainder → ℤ → Type 0
HasRest r n = nat_abs r.modulus ∣ nat_abs (n -ℤ r.rest)
