use Rattle.std.specs.Prelude.{◌≡◌, nat_eq, map, Some, slice_index_or}
use Rattle.std.specs.List.{position}
use Rattle.std.proofs.Common.{sym, ◌∙◌, ap, subst}
use Rattle.aud_history.specs.Table.{RowOf, table_of}
use Rattle.judge_clauses.specs.Clauses.{KnownFactsOf}
use Rattle.judge_clauses.proofs.Rows.{row-found}
use Rattle.judge_clauses.proofs.facts.KnownFacts.row.Goals as goal

pub returns : goal.returns
returns g c =
    let h = c.args.self.now.history in
    let own : c.self.inside.agenda.rows ≡ table_of h = subst (λ (f : KnownFactsOf). c.self.inside.agenda.rows ≡ table_of f.history) c.self.view_is c.self.invariant.0 in
    let table : c.table-table.result.now ≡ table_of h = c.table-table.ensures ∙ own in
    let found : position (nat_eq c.args.tx) (map (λ (r : RowOf). r.tx) (table_of h)) ≡ Some c.in-Some.place =
    ap (λ l. position (nat_eq c.args.tx) (map (λ (r : RowOf). r.tx) l)) (sym table) ∙ sym c.place.ensures ∙ c.in-Some.is in
    row-found h c.args.tx c.in-Some.place c.index-rows-place.result found
    (c.index-rows-place.is ∙ ap (λ l. slice_index_or l c.in-Some.place c.index-rows-place.result) (c.rows-rows.ensures ∙ table))
