use Rattle.std.specs.Prelude.{◌≡◌, nat_eq, map, Some, None}
use Rattle.std.specs.List.{position}
use Rattle.std.proofs.Common.{sym, ◌∙◌, ap}
use Rattle.aud_history.specs.Table.{RowOf, table_of}
use Rattle.aud_witness.specs.Orders.{is_named}
use Rattle.aud_order.specs.Shapes.{history_of}
use Rattle.aud_order.specs.Cursors.{CursorOf}
use Rattle.aud_order.proofs.Standing.{has-row, has-none}
use Rattle.aud_order.proofs.cursor.Cursor.has.Goals as goal

pub returns-in-Some : goal.returns-in-Some
returns-in-Some g c =
    let i = c.self.inside in
    let found : position (nat_eq c.args.tx) (map (λ (r : RowOf). r.tx) (table_of (history_of i.shape.now))) ≡ Some c.in-Some.place =
    ap (λ l. position (nat_eq c.args.tx) (map (λ (r : RowOf). r.tx) l)) (sym c.table.ensures) ∙ sym c.place.ensures ∙ c.in-Some.is in
    c.has_row.ensures ∙ has-row i.shape.now i.placing i.first_open c.in-Some.place c.args.tx c.self.invariant found ∙ ap (λ (w : CursorOf). is_named w.path c.args.tx) c.self.view_is

pub returns-in-None : goal.returns-in-None
returns-in-None g c =
    let i = c.self.inside in
    let none : position (nat_eq c.args.tx) (map (λ (r : RowOf). r.tx) (table_of (history_of i.shape.now))) ≡ None =
    ap (λ l. position (nat_eq c.args.tx) (map (λ (r : RowOf). r.tx) l)) (sym c.table.ensures) ∙ sym c.place.ensures ∙ c.in-None.is in
    sym (has-none i.shape.now i.placing i.first_open c.args.tx c.self.invariant none) ∙ ap (λ (w : CursorOf). is_named w.path c.args.tx) c.self.view_is
