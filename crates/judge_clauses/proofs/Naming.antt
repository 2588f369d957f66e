-- Lists that name each transaction once.
use Rattle.std.specs.Prelude.{◌≡◌, ℕ, true, false, not, ◌&&◌, nat_eq, List, [], ◌∷◌}
use Rattle.std.proofs.Common.{inl, inr}
use Rattle.base_values.proofs.Bools.{or_true, and_true, not_true, true_or, or_right, is_false}
use Rattle.aud_witness.specs.declared.decision.Decision.{Decision}
use Rattle.aud_witness.specs.Orders.{is_named, are_named_once, is_kept, stands_before}
use Rattle.aud_witness.proofs.Beginnings.{second_is_named}
use Rattle.judge_clauses.specs.Clauses.{is_kept_in}

-- a kept one is named
pub kept-named : (p : List Decision) (u : ℕ) → is_kept_in p u ≡ true → is_named p u ≡ true
kept-named [] u kept = absurd (cc)
kept-named (d ∷ p) u kept =
    elim (or_true (nat_eq d.tx u && is_kept d) (is_kept_in p u) kept) [
      | inl here ↦ true_or (nat_eq d.tx u) (is_named p u) (and_true (nat_eq d.tx u) (is_kept d) here).0
      | inr later ↦ or_right (nat_eq d.tx u) (is_named p u) (kept-named p u later)
    ]

pub fresh : (d : Decision) (p : List Decision) → are_named_once (d ∷ p) ≡ true → is_named p d.tx ≡ false
fresh d p once = not_true (is_named p d.tx) (and_true (not (is_named p d.tx)) (are_named_once p) once).0

pub rest-once : (d : Decision) (p : List Decision) → are_named_once (d ∷ p) ≡ true → are_named_once p ≡ true
rest-once d p once = (and_true (not (is_named p d.tx)) (are_named_once p) once).1

-- nothing stands before the first of the order
pub nothing-before : (d : Decision) (p : List Decision) (r t : ℕ) → is_named p r ≡ false → stands_before (d ∷ p) t r ≡ false
nothing-before d p r t gone =
    is_false (stands_before (d ∷ p) t r) (λ before.
    elim (or_true (nat_eq d.tx t && is_named p r) (stands_before p t r) before) [
      | inl here ↦ let there : is_named p r ≡ true = (and_true (nat_eq d.tx t) (is_named p r) here).1 in cc
      | inr later ↦ let there : is_named p r ≡ true = second_is_named p t r later in cc
    ])
