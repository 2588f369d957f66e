use Rattle.std.specs.Prelude.{◌<◌, ℕ}
use Rattle.judge_cells.specs.Sources.{IsOutAt}
use Rattle.judge_cells.proofs.sources.are_out.Given as goal

abbrev pub invariant-loop-place : goal.invariant-loop-place
invariant-loop-place g l = (k : ℕ) → k < l.place → IsOutAt l.facts l.clause l.read k
