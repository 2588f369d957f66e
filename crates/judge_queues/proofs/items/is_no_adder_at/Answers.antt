use Rattle.std.proofs.Common.{subst, w64}
use Rattle.std.proofs.lemmas.Int.{to_z-of_z}
use Rattle.aud_history.specs.Table.{RowOf, table_of}
use Rattle.judge_sums.proofs.Bounding.{found-row}
use Rattle.judge_queues.specs.Laws.{IsNoAdder}
use Rattle.judge_queues.proofs.Listing.{listed-untouched}
use Rattle.judge_queues.proofs.items.is_no_adder_at.Goals as goal

pub returns-then-not-touches : goal.returns-then-not-touches
returns-then-not-touches g c = λ so row at.
    listed-untouched c.args.facts.now c.args.clause.now c.args.take c.args.value row (c.touches.ensures c.if-not-touches.true row at)

pub returns-in-Some : goal.returns-in-Some
returns-in-Some g c = λ so row at.
    let f = c.args.facts.now in
    let found = c.in-Some.row.now in
    let lookup = c.in-Some.ensures.lookup in
    let listed : IsNoAdder f c.args.clause.now c.args.take c.args.value found =
    subst (λ v. IsNoAdder f c.args.clause.now c.args.take v found) (to_z-of_z w64 c.args.value c.ranges.value) (c.is_no_adder.ensures so) in
    subst (λ (r : RowOf). IsNoAdder f c.args.clause.now c.args.take c.args.value r)
    (found-row (table_of f.history) c.rows.result.now c.args.place found row c.rows.ensures (lookup.3).0 lookup.1 at) listed
