use Rattle.std.proofs.Common.{◌≡◌, ℤ, ◌-ℤ◌, drop, Some}
use Rattle.search_model.specs.Quantities.{asked}
use Rattle.search_model.proofs.numbers.asked.Given as goal

abbrev pub invariant-loop-execution : goal.invariant-loop-execution
invariant-loop-execution l = (m : ℤ) → asked l.quantity (drop l.execution-index l.executions) ≡ Some m → asked l.quantity l.executions ≡ Some (m -ℤ l.before)
