use Rattle.std.proofs.Common.{◌≡◌, ℤ, take}
use Rattle.std.specs.Prelude.{IfSome}
use Rattle.search_model.specs.Quantities.{net, Tell}
use Rattle.search_model.proofs.numbers.contradict.Given as goal

abbrev pub invariant-loop-execution : goal.invariant-loop-execution
invariant-loop-execution l = (l.before ≡ net l.quantity (take l.execution-index l.executions)) × (IfSome l.first (λ m. (n : ℤ) → Tell l.quantity n l.executions → n ≡ m))
