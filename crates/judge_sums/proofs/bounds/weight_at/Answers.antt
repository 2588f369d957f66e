use Rattle.std.proofs.Common.{sym, ◌∙◌, ap}
use Rattle.std.proofs.lemmas.Option.{IfSome_then}
use Rattle.aud_object.specs.Blocks.{BlockOf}
use Rattle.aud_history.specs.Table.{RowOf, table_of}
use Rattle.judge_clauses.specs.Touching.{mentions}
use Rattle.search_model.specs.Quantities.{net}
use Rattle.judge_sums.proofs.Adding.{net-untouched}
use Rattle.judge_sums.proofs.Bounding.{found-row}
use Rattle.judge_sums.proofs.bounds.weight_at.Goals as goal

pub returns-then-not-touches : goal.returns-then-not-touches
returns-then-not-touches g c = λ row at.
    sym (net-untouched c.args.quantity row.block.executions (ap (λ x. mentions x row.block.executions) (sym c.object_of.ensures) ∙ c.touches.ensures c.if-not-touches.true row at))

pub returns : goal.returns
returns g c =
    let found = c.in_ok-row.row.now in
    let lookup = c.in_ok-row.ensures.lookup in
    let whole = c.executions.ensures ∙ ap (λ (b : BlockOf). b.executions) c.block.ensures in
    IfSome_then c.net.result c.net.ensures
    (λ n is row at.
    is ∙ ap (net c.args.quantity) whole ∙ ap (λ (r : RowOf). net c.args.quantity r.block.executions)
    (found-row (table_of c.args.facts.now.history) c.rows.result.now c.args.place found row c.rows.ensures (lookup.3).0 lookup.1 at))
