use Rattle.std.specs.Prelude.{◌≡◌, [], take}
use Rattle.std.proofs.Common.{subst}
use Rattle.aud_history.specs.Table.{transactions}
use Rattle.aud_order.specs.Shapes.{objects_of, history_of}
use Rattle.aud_order.specs.Cursors.{CursorOf}
use Rattle.aud_order.specs.Kids.{goods}
use Rattle.aud_order.proofs.Gathering.{gathered-none}
use Rattle.aud_order.proofs.cursor.Cursor.first_open.Goals as goal

pub returns : goal.returns
returns g c =
    let i = c.self.inside in
    subst (λ (w : CursorOf). goods (objects_of w.shape) (history_of w.shape) w.path (take i.first_open (transactions (history_of w.shape))) ≡ []) c.self.view_is
    (gathered-none i.shape.now i.placing i.first_open c.self.invariant)
