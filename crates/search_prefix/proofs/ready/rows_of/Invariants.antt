use Rattle.std.specs.Prelude.{◌≡◌, length}
use Rattle.aud_history.specs.Table.{table_of}
use Rattle.aud_order.specs.Shapes.{history_of}
use Rattle.search_prefix.specs.Readiness.{HasRows}
use Rattle.search_prefix.proofs.ready.rows_of.Given as goal

abbrev pub invariant-loop-place : goal.invariant-loop-place
invariant-loop-place g l = record {
  has : HasRows l.choices l.place l.rows.items;
  long : length l.rows.items ≡ length (table_of (history_of l.fn.shape));
}
