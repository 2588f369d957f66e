use Rattle.std.specs.Prelude.{◌≡◌, nat_eq, map, Some, None, slice_index_or}
use Rattle.std.specs.List.{position}
use Rattle.std.proofs.Common.{sym, ◌∙◌, ap}
use Rattle.aud_history.specs.Table.{RowOf, table_of}
use Rattle.aud_order.specs.Shapes.{history_of}
use Rattle.aud_order.proofs.SilentRows.{silent-found, silent-none}
use Rattle.aud_order.proofs.shape.Shape.silent.Goals as goal

pub returns-in-Some : goal.returns-in-Some
returns-in-Some g c =
    let h = history_of c.args.self.now in
    let found : position (nat_eq c.args.tx) (map (λ (r : RowOf). r.tx) (table_of h)) ≡ Some c.in-Some.place =
    ap (λ l. position (nat_eq c.args.tx) (map (λ (r : RowOf). r.tx) l)) (sym c.table-table.ensures) ∙ sym c.place.ensures ∙ c.in-Some.is in
    let row = c.index-rows-place.is ∙ ap (λ l. slice_index_or l c.in-Some.place c.index-rows-place.result) (c.rows.ensures ∙ c.table-table.ensures) in
    c.silent_of.ensures ∙ silent-found h c.args.tx c.in-Some.place c.index-rows-place.result c.index-rows-place.result c.history-sound.ensures.sound found row

pub returns-in-None : goal.returns-in-None
returns-in-None g c =
    let h = history_of c.args.self.now in
    let none : position (nat_eq c.args.tx) (map (λ (r : RowOf). r.tx) (table_of h)) ≡ None =
    ap (λ l. position (nat_eq c.args.tx) (map (λ (r : RowOf). r.tx) l)) (sym c.table-table.ensures) ∙ sym c.place.ensures ∙ c.in-None.is in
    silent-none h c.args.tx none
