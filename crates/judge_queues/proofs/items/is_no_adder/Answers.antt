use Rattle.std.specs.Prelude.{◌≡◌, length}
use Rattle.std.proofs.Common.{ap, ◌∙◌, subst, w64}
use Rattle.std.proofs.lemmas.Int.{to_z-of_z}
use Rattle.aud_object.specs.Blocks.{BlockOf}
use Rattle.judge_queues.specs.Laws.{NoItem}
use Rattle.judge_queues.proofs.Listing.{listed-from}
use Rattle.judge_queues.proofs.items.is_no_adder.Goals as goal

pub returns : goal.returns
returns g c = λ so.
    let f = c.args.facts.now in
    let row = c.args.row.now in
    let es = c.executions-executions.result.now in
    let whole : es ≡ row.block.executions = c.executions-executions.ensures ∙ ap (λ (b : BlockOf). b.executions) c.block.ensures in
    let none : NoItem f c.args.clause.now c.args.take c.tx-adder.result c.args.value (length es) es =
    subst (λ v. NoItem f c.args.clause.now c.args.take c.tx-adder.result v (length es) es) (to_z-of_z w64 c.args.value c.ranges.value) (c.is_none_item.ensures so) in
    let own : NoItem f c.args.clause.now c.args.take row.tx c.args.value (length es) es = subst (λ t. NoItem f c.args.clause.now c.args.take t c.args.value (length es) es) c.tx-adder.ensures none in
    listed-from f c.args.clause.now c.args.take c.args.value row (length es) (ap length whole) (subst (λ l. NoItem f c.args.clause.now c.args.take row.tx c.args.value (length es) l) whole own)
