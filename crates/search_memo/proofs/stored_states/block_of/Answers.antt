use Rattle.std.specs.Prelude.{◌≡◌, nat_eq, map, Some, slice_index_or}
use Rattle.std.specs.List.{position}
use Rattle.std.proofs.Common.{sym, ◌∙◌, ap}
use Rattle.std.proofs.lemmas.Option.{get_or_from_slice_get}
use Rattle.aud_history.specs.Table.{RowOf, table_of, row_of}
use Rattle.aud_order.specs.Shapes.{history_of}
use Rattle.aud_order.proofs.SilentRows.{row-found}
use Rattle.search_memo.proofs.stored_states.block_of.Goals as goal

pub returns-in-Some : goal.returns-in-Some
returns-in-Some g c =
    let h = history_of c.args.shape.now in
    let found : position (nat_eq c.args.tx) (map (λ (r : RowOf). r.tx) (table_of h)) ≡ Some c.in-Some.place =
    ap (λ l. position (nat_eq c.args.tx) (map (λ (r : RowOf). r.tx) l)) (sym c.table-table.ensures) ∙ sym c.place.ensures ∙ c.in-Some.is in
    let row = c.index-rows-place.is ∙ ap (λ l. slice_index_or l c.in-Some.place c.index-rows-place.result) (c.rows.ensures ∙ c.table-table.ensures) in
    let own = get_or_from_slice_get (table_of h) c.in-Some.place (row_of h c.args.tx) c.index-rows-place.result (row-found h c.args.tx c.in-Some.place found).0 in
    c.block.ensures ∙ ap (λ (r : RowOf). r.block) (row ∙ own)
