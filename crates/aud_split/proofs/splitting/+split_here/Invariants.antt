use Rattle.std.specs.Prelude.{◌≡◌, ◌-◌}
use Rattle.aud_order.specs.Shapes.{objects_of, history_of}
use Rattle.aud_split.proofs.Tasks.{AreGathered}
use Rattle.aud_split.proofs.splitting.+split_here.Given as goal

abbrev pub decreases-split_here : goal.decreases-split_here
decreases-split_here g l = l.depth

abbrev pub invariant-loop-kid : goal.invariant-loop-kid
invariant-loop-kid g l = record {
  same : l.cursor ≡ l.fn.cursor;
  gathered : AreGathered (objects_of l.fn.cursor.shape) (history_of l.fn.cursor.shape) l.fn.cursor.path l.kid-items (l.depth - 1) l.kid-index l.fn.list.items l.list.items;
}
