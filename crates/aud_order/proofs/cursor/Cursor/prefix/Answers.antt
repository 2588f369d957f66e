use Rattle.std.proofs.Common.{subst}
use Rattle.aud_witness.specs.Orders.{IsGood}
use Rattle.aud_order.specs.Shapes.{objects_of, history_of}
use Rattle.aud_order.specs.Cursors.{CursorOf}
use Rattle.aud_order.proofs.Standing.{good-at}
use Rattle.aud_order.proofs.cursor.Cursor.prefix.Goals as goal

pub returns-clause-good : goal.returns-clause-good
returns-clause-good g c =
    let i = c.self.inside in
    subst (λ (w : CursorOf). IsGood (objects_of w.shape) (history_of w.shape) w.path) c.self.view_is (good-at i.shape.now i.placing i.first_open c.self.invariant)
