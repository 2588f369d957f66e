-- Tests joined: what either passes.
use Rattle.std.specs.Prelude.{Bool, ◌||◌}
use Rattle.base_values.proofs.Bools.{or_comm, or_assoc, or_same}
use Rattle.aud_lattice.specs.Laws.{SemilatticeLaws}

-- what either test passes
abbrev pub either : {T : Type 0} → (T → Bool) → (T → Bool) → T → Bool
either p q x = p x || q x

pub either_laws : {T : Type 0} → SemilatticeLaws (either {T = T})
either_laws = record {
  commutative = λ p q i x. or_comm (p x) (q x) i;
  associative = λ p q r i x. or_assoc (p x) (q x) (r x) i;
  idempotent = λ p i x. or_same (p x) i;
}
