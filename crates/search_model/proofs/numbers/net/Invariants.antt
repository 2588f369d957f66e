use Rattle.std.proofs.Common.{◌≡◌, take}
use Rattle.search_model.specs.Quantities.{net}
use Rattle.search_model.proofs.numbers.net.Given as goal

abbrev pub invariant-loop-execution : goal.invariant-loop-execution
invariant-loop-execution l = l.total ≡ net l.quantity (take l.execution-index l.executions)
