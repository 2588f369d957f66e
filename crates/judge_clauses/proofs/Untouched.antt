-- Executions that are on other objects.
use Rattle.std.specs.Prelude.{◌≡◌, ℕ, ℤ, false, nat_eq, List, [], ◌∷◌, Option, None, refl}
use Rattle.std.proofs.Common.{◌∙◌, ap, cond}
use Rattle.base_values.proofs.Bools.{or_false}
use Rattle.aud_object.specs.declared.execution.Execution.{Execution}
use Rattle.search_model.specs.declared.cell.Cell.{Cell}
use Rattle.search_model.specs.Cells.{asks, puts, asks_by, puts_by, newest, leaves, first_of, needs, moves}
use Rattle.judge_clauses.specs.Touching.{mentions}

module _ (c : Cell) (x : ℕ) where
  asks-other : (e : Execution) → nat_eq e.object x ≡ false → asks_by c x e ≡ None
  asks-other e other = ap (λ b. cond b (asks c e.op e.answer) None) other

  puts-other : (e : Execution) → nat_eq e.object x ≡ false → puts_by c x e ≡ None
  puts-other e other = ap (λ b. cond b (puts c e.op e.answer) None) other

  -- they leave nothing in the cell, and need nothing of it
  pub leaves-untouched : (es : List Execution) (last : Option (Option ℤ)) → mentions x es ≡ false → leaves c x last es ≡ last
  leaves-untouched [] last none = refl
  leaves-untouched (e ∷ es) last none =
      let (other, rest) = or_false (nat_eq e.object x) (mentions x es) none in
      ap (λ o. leaves c x (newest o last) es) (puts-other e other) ∙ leaves-untouched es last rest

  pub needs-untouched : (es : List Execution) → mentions x es ≡ false → needs c x es ≡ None
  needs-untouched [] none = refl
  needs-untouched (e ∷ es) none =
      let (other, rest) = or_false (nat_eq e.object x) (mentions x es) none in
      ap (λ a. first_of a (puts_by c x e) (needs c x es)) (asks-other e other) ∙ ap (λ o. first_of None o (needs c x es)) (puts-other e other) ∙ needs-untouched es rest

  -- they do not change it
  pub still-untouched : (es : List Execution) → mentions x es ≡ false → moves (needs c x es) (leaves c x None es) ≡ false
  still-untouched es none = ap (λ n. moves n (leaves c x None es)) (needs-untouched es none) ∙ ap (moves None) (leaves-untouched es None none)
