use Rattle.std.specs.Prelude.{◌≡◌, nat_eq, map}
use Rattle.std.specs.List.{position}
use Rattle.std.proofs.Common.{sym, ◌∙◌, ap, subst}
use Rattle.aud_history.specs.Table.{RowOf, table_of}
use Rattle.judge_clauses.specs.Clauses.{KnownFactsOf}
use Rattle.judge_clauses.proofs.Rows.{row-at_place}
use Rattle.judge_clauses.proofs.facts.KnownFacts.place.Goals as goal

pub returns : goal.returns
returns g c =
    let h = c.args.self.now.history in
    let own : c.self.inside.agenda.rows ≡ table_of h = subst (λ (f : KnownFactsOf). c.self.inside.agenda.rows ≡ table_of f.history) c.self.view_is c.self.invariant.0 in
    let table : c.table.result.now ≡ table_of h = c.table.ensures ∙ own in
    row-at_place h c.args.tx c.place.result (ap (λ l. position (nat_eq c.args.tx) (map (λ (r : RowOf). r.tx) l)) (sym table) ∙ sym c.place.ensures)
