use Rattle.std.proofs.Common.{subst}
use Rattle.aud_history.specs.Table.{RowOf, table_of}
use Rattle.judge_sums.proofs.Bounding.{found-row}
use Rattle.judge_queues.specs.Laws.{IsNoTaker}
use Rattle.judge_queues.proofs.Listing.{no_taker-untouched}
use Rattle.judge_queues.proofs.gone.is_no_taker_at.Goals as goal

pub returns-then-not-touches : goal.returns-then-not-touches
returns-then-not-touches g c = λ so row at.
    no_taker-untouched c.args.facts.now c.args.clause.now c.args.goods.queue c.args.goods.value c.args.taker row (c.touches.ensures c.if-not-touches.true row at)

pub returns-in-Some : goal.returns-in-Some
returns-in-Some g c = λ so row at.
    let f = c.args.facts.now in
    let found = c.in-Some.row.now in
    let lookup = c.in-Some.ensures.lookup in
    subst (λ (r : RowOf). IsNoTaker f c.args.clause.now c.args.goods.queue c.args.goods.value c.args.taker r)
    (found-row (table_of f.history) c.rows.result.now c.args.place found row c.rows.ensures (lookup.3).0 lookup.1 at) (c.is_no_taker.ensures so)
