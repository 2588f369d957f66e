-- Propagation of units.
use Rattle.std.specs.Prelude.{◌≡◌, ℕ, ◌<◌, Bool, true, false, List, [], length, refl}
use Rattle.std.proofs.Common.{sym, ◌∙◌, ap, inl, inr, get_or}
use Rattle.std.proofs.lemmas.Option.{slice_get_read, get_or_from_slice_get}
use Rattle.base_values.proofs.Bools.{split}
use Rattle.judge_clauses.specs.declared.clause.Literal.{Literal}
use Rattle.judge_clauses.specs.Clauses.{are_true, holds, clause_at}

-- an earlier clause holds
pub used-clause : (v : ℕ → Bool) (clauses : List (List Literal)) (count k : ℕ) (read c : List Literal) → ((k : ℕ) → k < count → holds v (clause_at clauses k) ≡ true) → k < count → k < length clauses →
    read ≡ get_or clauses k read → c ≡ read → holds v c ≡ true
used-clause v clauses count k read c earlier low within is same =
    let own : clause_at clauses k ≡ read = get_or_from_slice_get clauses k read [] (slice_get_read clauses (length clauses) k read refl within is) in
    ap (holds v) (same ∙ sym own) ∙ earlier k low

-- what cannot be false is true
pub all-false : (v : ℕ → Bool) (c trail : List Literal) → (holds v c ≡ false → are_true v trail ≡ true) → (are_true v trail ≡ true → ⊥) → holds v c ≡ true
all-false v c trail assumes never =
    elim (split (holds v c)) [
      | inl is_so ↦ is_so
      | inr not_so ↦ absurd (never (assumes not_so))
    ]
