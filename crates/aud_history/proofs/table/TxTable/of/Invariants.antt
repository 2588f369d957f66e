use Rattle.std.proofs.Common.{◌≡◌, take, map}
use Rattle.aud_history.specs.Table.{table_of}
use Rattle.aud_history.proofs.table.TxTable.of.Given as goal

abbrev pub invariant-loop-stamp : goal.invariant-loop-stamp
invariant-loop-stamp g l = (l.numbers.keys ≡ map (λ r. r.tx) l.rows.items) × (l.rows.items ≡ table_of (take l.stamp l.fn.history.events))
