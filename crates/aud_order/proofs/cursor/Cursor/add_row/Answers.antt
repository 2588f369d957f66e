use Rattle.std.specs.Prelude.{◌≡◌, ◌<◌, ◌++◌, [], ◌∷◌, length, slice_index_or}
use Rattle.std.proofs.Common.{sym, ◌∙◌, subst}
use Rattle.aud_history.specs.Table.{transactions, table_of}
use Rattle.aud_order.specs.Shapes.{objects_of, history_of}
use Rattle.aud_order.specs.Cursors.{CursorOf}
use Rattle.aud_order.specs.Kids.{goods}
use Rattle.aud_order.proofs.Gathering.{gathered-placed}
use Rattle.aud_order.proofs.cursor.Cursor.add_row.Goals as goal

pub returns-then-has_row-clause-added : goal.returns-then-has_row-clause-added
returns-then-has_row-clause-added g c =
    let i = c.self.inside in
    let inside = subst (λ (w : CursorOf). c.args.place < length (table_of (history_of w.shape))) (sym c.self.view_is) c.requires.inside in
    let row = subst (λ (w : CursorOf). c.args.tx ≡ slice_index_or (transactions (history_of w.shape)) c.args.place 0) (sym c.self.view_is) c.requires.row in
    subst (λ (w : CursorOf). c.args.kids.now.items ≡ c.args.kids.now.items ++ goods (objects_of w.shape) (history_of w.shape) w.path (c.args.tx ∷ [])) c.self.view_is
    (gathered-placed i.shape.now i.placing i.first_open c.args.place c.args.tx c.args.kids.now.items c.self.invariant inside row (sym c.if-has_row.true ∙ c.has_row.ensures))
