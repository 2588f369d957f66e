use Rattle.std.specs.Prelude.{map}
use Rattle.std.proofs.Common.{◌∙◌, ap}
use Rattle.aud_history.specs.Table.{transactions}
use Rattle.aud_witness.specs.Orders.{is_named}
use Rattle.aud_order.specs.Shapes.{history_of}
use Rattle.aud_order.specs.Cursors.{CursorOf}
use Rattle.aud_order.proofs.Standing.{stands-at}
use Rattle.aud_order.proofs.cursor.Cursor.placed.Goals as goal

pub returns : goal.returns
returns g c =
    let i = c.self.inside in
    let stands = stands-at i.shape.now i.placing i.first_open c.self.invariant in
    c.placed.ensures ∙ stands.placed ∙ ap (λ (w : CursorOf). map (is_named w.path) (transactions (history_of w.shape))) c.self.view_is
