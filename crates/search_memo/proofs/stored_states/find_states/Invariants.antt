use Rattle.std.specs.Prelude.{◌≡◌}
use Rattle.search_memo.proofs.stored_states.find_states.Given as goal

abbrev pub invariant-loop-step : goal.invariant-loop-step
invariant-loop-step g l = l.kept.items ≡ l.fn.kept.items
