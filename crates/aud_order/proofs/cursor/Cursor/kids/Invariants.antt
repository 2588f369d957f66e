use Rattle.std.specs.Prelude.{◌≡◌, ◌-◌, length, take}
use Rattle.aud_history.specs.Table.{transactions}
use Rattle.aud_order.specs.Shapes.{objects_of, history_of}
use Rattle.aud_order.specs.Kids.{goods}
use Rattle.aud_order.proofs.cursor.Cursor.kids.Given as goal

abbrev pub invariant-rows : goal.invariant-rows
invariant-rows g l = record {
  same : l.self ≡ l.fn.self;
  gathered : l.kids.items ≡ goods (objects_of l.fn.self.shape) (history_of l.fn.self.shape) l.fn.self.path (take l.place (transactions (history_of l.fn.self.shape)));
}

abbrev pub decreases-rows : goal.decreases-rows
decreases-rows g l = length l.rows - l.place
