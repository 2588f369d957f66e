use Rattle.std.specs.Prelude.{◌≡◌}
use Rattle.aud_search.proofs.deciding.decide_by_stages.Given as goal

abbrev pub invariant-loop-stage : goal.invariant-loop-stage
invariant-loop-stage l = l.memo.shape ≡ l.fn.memo.shape
