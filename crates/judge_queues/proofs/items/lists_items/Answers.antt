use Rattle.std.specs.Prelude.{◌≡◌}
use Rattle.std.proofs.Common.{ap, ◌∙◌, subst, rules, w64}
use Rattle.std.proofs.lemmas.Int.{to_z-of_z}
use mir.Val.{SFits}
use Rattle.aud_object.specs.Blocks.{BlockOf}
use Rattle.aud_history.specs.Table.{RowOf, row_of}
use Rattle.judge_queues.specs.Laws.{NoItem, AreNoAdders}
use Rattle.judge_queues.proofs.Lawful.{valid-items}
use Rattle.judge_queues.proofs.items.lists_items.Goals as goal

pub returns : goal.returns
returns g c = λ so.
    let f = c.args.facts.now in
    let clause = c.args.clause.now in
    let take = c.args.take in
    let v = c.in-Some.item.value in
    let e = c.in-Some.item.additions in
    let whole : c.executions.result.now ≡ (row_of f.history take.taker).block.executions =
    c.executions.ensures ∙ ap (λ (b : BlockOf). b.executions) c.block.ensures ∙ ap (λ (r : RowOf). r.block.executions) c.in-Some-row.ensures.0 in
    let fits_v : SFits w64 v = search rules in
    let none : NoItem f clause take take.taker v e c.executions.result.now =
    subst (λ u. NoItem f clause take take.taker u e c.executions.result.now) (to_z-of_z w64 v fits_v) (c.is_none_item.ensures c.if-not-is_none_item.false) in
    let own : NoItem f clause take take.taker v e (row_of f.history take.taker).block.executions = subst (NoItem f clause take take.taker v e) whole none in
    let listed : AreNoAdders f clause take v = subst (AreNoAdders f clause take) (to_z-of_z w64 v fits_v) (c.are_no_adders.ensures so) in
    valid-items f clause c.history-history.ensures.sound c.history-history.ensures.within take v e (c.is_queue.ensures c.if-not-is_queue.false) c.in-Some.ensures own listed
