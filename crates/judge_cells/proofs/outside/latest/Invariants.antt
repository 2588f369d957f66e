use Rattle.std.specs.Prelude.{IfSome}
use Rattle.judge_cells.specs.Sources.{IsHiding}
use Rattle.judge_cells.proofs.outside.latest.Given as goal

abbrev pub invariant-loop-place : goal.invariant-loop-place
invariant-loop-place g l = IfSome l.latest (IsHiding l.facts l.read)
