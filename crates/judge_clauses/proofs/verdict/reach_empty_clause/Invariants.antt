use Rattle.judge_clauses.specs.Clauses.{AreValid}
use Rattle.judge_clauses.proofs.verdict.reach_empty_clause.Given as goal

abbrev pub invariant-loop-i : goal.invariant-loop-i
invariant-loop-i g l = AreValid l.facts l.steps l.i
