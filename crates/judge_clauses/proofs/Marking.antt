-- Marks of the objects that rows have executions on.
use Rattle.std.specs.Prelude.{◌≡◌, ℕ, Bool, true, List, [], ◌∷◌, ◌++◌, length, Some, slice_get}
use Rattle.std.proofs.Common.{sym, subst, inl, inr}
use Rattle.aud_history.specs.Table.{RowOf}
use Rattle.judge_clauses.specs.Touching.{mentions, IsMarked, AreMarked}
use Rattle.judge_clauses.proofs.Valued.{push-get}

-- one more row
pub marked-push : (rows : List RowOf) (touched : List (List Bool)) (row : RowOf) (marks : List Bool) → slice_get rows (length touched) ≡ Some row → ((x : ℕ) → mentions x row.block.executions ≡ true → IsMarked marks x) →
    AreMarked rows touched → AreMarked rows (touched ++ marks ∷ [])
marked-push rows touched row marks at own are k other found at_k there =
    elim (push-get touched k marks found there) [
      | inl here ↦
          let same : row ≡ other = let e : slice_get rows (length touched) ≡ Some other = subst (λ n. slice_get rows n ≡ Some other) here.0 at_k in cc in
          λ x on. subst (λ m. IsMarked m x) here.1 (own x (subst (λ (r : RowOf). mentions x r.block.executions ≡ true) (sym same) on))
      | inr before ↦ are k other found at_k before
    ]
