use Rattle.std.proofs.Common.{◌≡◌, ℕ, ◌<◌, Some}
use Rattle.std.specs.Prelude.{slice_get}
use Rattle.aud_history.specs.Table.{RowOf, table_of}
use Rattle.judge_queues.specs.Laws.{IsNoTaker}
use Rattle.judge_queues.proofs.gone.are_no_takers.Given as goal

abbrev pub invariant-loop-place : goal.invariant-loop-place
invariant-loop-place g l = (k : ℕ) (row : RowOf) → k < l.place → slice_get (table_of l.facts.history) k ≡ Some row → IsNoTaker l.facts l.clause l.goods.queue l.goods.value l.taker row
