use Rattle.std.proofs.Common.{w64}
use mir.Val.{to_z, of_z}
use Rattle.judge_queues.proofs.Lawful.{valid-gone}
use Rattle.judge_queues.proofs.gone.has_item_in_front.Goals as goal

pub returns : goal.returns
returns g c = λ so.
    let f = c.args.facts.now in
    let take = c.args.take in
    let there = c.has_take.ensures c.if-not-has_take.false in
    valid-gone f c.args.clause.now c.history-history.ensures.sound c.history-history.ensures.within take c.args.item.0 c.args.item.1 c.args.front.adder (to_z w64 (of_z w64 c.args.front.value))
    (c.is_queue.ensures c.if-not-is_queue.false) there.0 there.1 (c.is_so.ensures c.if-not-is_so.false) (c.is_stuck.ensures so)
