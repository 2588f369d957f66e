use Rattle.std.specs.Prelude.{◌≡◌, ℕ, true}
use Rattle.std.proofs.Common.{take}
use Rattle.judge_clauses.specs.Touching.{mentions, IsMarked}
use Rattle.judge_clauses.proofs.touched.marks_of.Given as goal

abbrev pub invariant-loop-execution : goal.invariant-loop-execution
invariant-loop-execution g l = (x : ℕ) → mentions x (take l.execution-index l.executions) ≡ true → IsMarked l.marks x
