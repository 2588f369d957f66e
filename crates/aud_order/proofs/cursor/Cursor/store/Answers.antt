use Rattle.std.specs.Prelude.{map}
use Rattle.std.proofs.Common.{◌∙◌, ap}
use Rattle.aud_kinds.specs.Objects.{opening_of}
use Rattle.aud_object.specs.Executions.{states_after}
use Rattle.aud_witness.specs.Orders.{kept}
use Rattle.aud_order.specs.Shapes.{objects_of, history_of}
use Rattle.aud_order.specs.Cursors.{CursorOf}
use Rattle.aud_order.proofs.Standing.{stands-at}
use Rattle.aud_order.proofs.cursor.Cursor.store.Goals as goal

pub returns : goal.returns
returns g c =
    let i = c.self.inside in
    let stands = stands-at i.shape.now i.placing i.first_open c.self.invariant in
    c.store.ensures ∙ stands.states ∙ ap (λ (w : CursorOf). states_after (map opening_of (objects_of w.shape)) (kept (history_of w.shape) w.path)) c.self.view_is
