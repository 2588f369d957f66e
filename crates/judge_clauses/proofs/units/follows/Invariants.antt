use Rattle.judge_clauses.specs.Units.{Assumes}
use Rattle.judge_clauses.proofs.units.follows.Given as goal

abbrev pub invariant-loop-place : goal.invariant-loop-place
invariant-loop-place g l = Assumes l.steps l.count l.clause l.trail
