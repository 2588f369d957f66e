-- Two values merged side by side.
use Rattle.aud_lattice.specs.Laws.{SemilatticeLaws}

abbrev pub both : {A B : Type 0} → (A → A → A) → (B → B → B) → A × B → A × B → A × B
both f g x y = (f x.0 y.0, g x.1 y.1)

pub both_laws : {A B : Type 0} {f : A → A → A} {g : B → B → B} → SemilatticeLaws f → SemilatticeLaws g → SemilatticeLaws (both f g)
both_laws a b = record {
  commutative = λ x y i. (a.commutative x.0 y.0 i, b.commutative x.1 y.1 i);
  associative = λ x y z i. (a.associative x.0 y.0 z.0 i, b.associative x.1 y.1 z.1 i);
  idempotent = λ x i. (a.idempotent x.0 i, b.idempotent x.1 i);
}
