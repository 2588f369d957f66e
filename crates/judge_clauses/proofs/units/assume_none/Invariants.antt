use Rattle.judge_clauses.specs.Units.{AssumesUnless}
use Rattle.judge_clauses.proofs.units.assume_none.Given as goal

abbrev pub invariant-loop-literal : goal.invariant-loop-literal
invariant-loop-literal g l = AssumesUnless l.clause l.trail
