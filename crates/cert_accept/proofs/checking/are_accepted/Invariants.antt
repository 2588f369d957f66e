use Rattle.std.specs.Prelude.{◌≡◌}
use Rattle.aud_order.specs.Shapes.{objects_of, history_of}
use Rattle.cert_accept.proofs.Lines.{Passed}
use Rattle.cert_accept.proofs.checking.are_accepted.Given as goal

abbrev pub invariant-loop-line : goal.invariant-loop-line
invariant-loop-line g l = record {
  cursor : l.cursor.shape ≡ l.shape;
  other : l.other.shape ≡ l.shape;
  kept : l.earlier.shape ≡ l.shape;
  passed : Passed (objects_of l.shape) (history_of l.shape) l.lines l.line-index l.earlier.prefixes;
}
