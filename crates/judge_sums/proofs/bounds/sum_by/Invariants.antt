use Rattle.judge_sums.proofs.Bounding.{Bounded}
use Rattle.judge_sums.proofs.bounds.sum_by.Given as goal

abbrev pub invariant-loop-place : goal.invariant-loop-place
invariant-loop-place g l = Bounded l.facts l.clause g.E.Estimate.says l.quantity l.reader l.sum l.place
