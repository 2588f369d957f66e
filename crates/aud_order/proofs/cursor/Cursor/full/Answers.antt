use Rattle.std.specs.Prelude.{◌↔◌, nat_eq, length, IsTrue}
use Rattle.std.proofs.Common.{sym, ◌∙◌, subst}
use Rattle.aud_witness.specs.Orders.{IsFull}
use Rattle.aud_order.specs.Shapes.{objects_of, history_of}
use Rattle.aud_order.specs.Cursors.{CursorOf}
use Rattle.aud_order.proofs.Lengths.{full-by_length}
use Rattle.aud_order.proofs.Standing.{good-at}
use Rattle.aud_order.proofs.cursor.Cursor.full.Goals as goal

pub returns : goal.returns
returns g c =
    let i = c.self.inside in
    let test = full-by_length (objects_of i.shape.now) (history_of i.shape.now) i.placing.path c.rows.result.now (good-at i.shape.now i.placing i.first_open c.self.invariant) (c.rows.ensures ∙ c.table.ensures) in
    subst (λ l. IsTrue (nat_eq (length l) (length c.rows.result.now)) ↔ IsFull (history_of c.args.self.now.shape) c.args.self.now.path) (sym c.path.ensures)
    (subst (λ (w : CursorOf). IsTrue (nat_eq (length i.placing.path) (length c.rows.result.now)) ↔ IsFull (history_of w.shape) w.path) c.self.view_is test)
