use Rattle.std.specs.Prelude.{◌≡◌, None}
use Rattle.std.proofs.Common.{drop}
use Rattle.judge_cells.specs.Clashes.{clashes}
use Rattle.judge_cells.proofs.clash.clashes.Given as goal

abbrev pub invariant-loop-execution : goal.invariant-loop-execution
invariant-loop-execution l = clashes l.cell l.object None l.executions ≡ clashes l.cell l.object l.known (drop l.execution-index l.executions)
