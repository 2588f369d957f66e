use Rattle.std.specs.Prelude.{◌≡◌, ℕ, ◌<◌, Bool, true, Some, slice_get}
use Rattle.judge_clauses.specs.declared.clause.Literal.{Literal}
use Rattle.judge_clauses.specs.Clauses.{is_true, are_true}
use Rattle.judge_clauses.specs.Units.{may_hold}
use Rattle.judge_clauses.proofs.units.left_of.Given as goal

abbrev pub invariant-loop-literal : goal.invariant-loop-literal
invariant-loop-literal g l = (v : ℕ → Bool) → are_true v l.trail ≡ true → (k : ℕ) (x : Literal) → k < l.literal-index → slice_get l.clause k ≡ Some x → is_true v x ≡ true → may_hold v l.left ≡ true
