use Rattle.std.specs.Prelude.{◌≡◌, take}
use Rattle.aud_order.proofs.Placed.{cursor_of}
use Rattle.aud_order.proofs.cursor.Cursor.after.Given as goal

abbrev pub invariant-loop-decision : goal.invariant-loop-decision
invariant-loop-decision g l = l.cursor ≡ cursor_of l.shape (take l.decision-index l.decisions)
