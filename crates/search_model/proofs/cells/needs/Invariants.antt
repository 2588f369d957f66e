use Rattle.std.specs.Prelude.{◌≡◌}
use Rattle.std.proofs.Common.{drop}
use Rattle.search_model.specs.Cells.{needs}
use Rattle.search_model.proofs.cells.needs.Given as goal

abbrev pub invariant-loop-execution : goal.invariant-loop-execution
invariant-loop-execution l = needs l.cell l.object l.executions ≡ needs l.cell l.object (drop l.execution-index l.executions)
