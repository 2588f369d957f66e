use Rattle.std.specs.Prelude.{◌≡◌, None}
use Rattle.std.proofs.Common.{drop}
use Rattle.search_model.specs.Cells.{leaves}
use Rattle.search_model.proofs.cells.leaves.Given as goal

abbrev pub invariant-loop-execution : goal.invariant-loop-execution
invariant-loop-execution l = leaves l.cell l.object None l.executions ≡ leaves l.cell l.object l.last (drop l.execution-index l.executions)
