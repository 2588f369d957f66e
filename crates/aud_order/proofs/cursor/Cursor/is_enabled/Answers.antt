use Rattle.std.specs.Prelude.{◌≡◌, ◌<◌, length, slice_index_or}
use Rattle.std.proofs.Common.{sym, ◌∙◌, ap, subst}
use Rattle.aud_history.specs.Table.{transactions, table_of}
use Rattle.aud_witness.specs.OrderFaults.{is_enabled}
use Rattle.aud_order.specs.Shapes.{history_of}
use Rattle.aud_order.specs.Cursors.{CursorOf}
use Rattle.aud_order.proofs.Standing.{enabled-by}
use Rattle.aud_order.proofs.cursor.Cursor.is_enabled.Goals as goal

pub returns : goal.returns
returns g c =
    let i = c.self.inside in
    let inside = subst (λ (w : CursorOf). c.args.place < length (table_of (history_of w.shape))) (sym c.self.view_is) c.requires in
    let row = c.index-rows-place.result in
    let is : row ≡ slice_index_or (table_of (history_of i.shape.now)) c.args.place row = c.index-rows-place.is ∙ ap (λ l. slice_index_or l c.args.place row) (c.rows.ensures ∙ c.table.ensures) in
    subst (λ (w : CursorOf). c.are_earlier_placed.result ≡ is_enabled (history_of w.shape) w.path (slice_index_or (transactions (history_of w.shape)) c.args.place 0)) c.self.view_is
    (enabled-by i.shape.now i.placing i.first_open c.args.place c.first.result c.are_earlier_placed.result row c.self.invariant inside is c.first.ensures c.are_earlier_placed.ensures)
