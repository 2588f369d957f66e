use Rattle.std.proofs.Common.{◌≡◌, ℕ, ◌<◌, Some}
use Rattle.std.specs.Prelude.{slice_get}
use Rattle.aud_history.specs.Table.{RowOf, table_of}
use Rattle.judge_queues.specs.Laws.{IsNoAdder}
use Rattle.judge_queues.proofs.items.are_no_adders.Given as goal

abbrev pub invariant-loop-place : goal.invariant-loop-place
invariant-loop-place g l = (k : ℕ) (row : RowOf) → k < l.place → slice_get (table_of l.facts.history) k ≡ Some row → IsNoAdder l.facts l.clause l.take l.value row
