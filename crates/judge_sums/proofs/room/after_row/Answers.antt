use Rattle.std.specs.Prelude.{pos}
use Rattle.std.proofs.Common.{◌∙◌, ap, subst, arith}
use Rattle.std.proofs.lemmas.Int.{ints}
use Rattle.std.proofs.lemmas.Option.{IfSome_then}
use Rattle.aud_object.specs.Blocks.{BlockOf}
use Rattle.aud_history.specs.Table.{RowOf, table_of}
use Rattle.search_model.specs.declared.quantity.Quantity.TheVariants.{Count}
use Rattle.search_model.specs.Quantities.{reaches}
use Rattle.judge_sums.specs.Room.{IsWiderBy}
use Rattle.judge_sums.proofs.Adding.{reaches-untouched}
use Rattle.judge_sums.proofs.Bounding.{found-row}
use Rattle.judge_sums.proofs.room.after_row.Goals as goal

pub returns-then-not-touches : goal.returns-then-not-touches
returns-then-not-touches g c = λ row at.
    let none = reaches-untouched (Count c.args.counter) row.block.executions (c.touches.ensures c.if-not-touches.true row at) in
    (omega (arith, ints, none), omega (arith, ints, none))

pub returns : goal.returns
returns g c =
    let found = c.in_ok-row.row.now in
    let lookup = c.in_ok-row.ensures.lookup in
    let whole = c.executions.ensures ∙ ap (λ (b : BlockOf). b.executions) c.block.ensures in
    IfSome_then c.after_some.result c.after_some.ensures
    (λ wide is row at.
    let same = whole ∙ ap (λ (r : RowOf). r.block.executions) (found-row (table_of c.args.facts.now.history) c.rows.result.now c.args.place found row c.rows.ensures (lookup.3).0 lookup.1 at) in
    subst (λ es. IsWiderBy wide c.args.room (pos (reaches (Count c.args.counter) es))) same is)
