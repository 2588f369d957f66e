use Rattle.std.proofs.Common.{subst, w64}
use mir.Val.{to_z, of_z}
use Rattle.aud_event.specs.declared.object.Answer.{Answer}
use Rattle.aud_event.specs.declared.object.Answer.TheVariants.{Empty}
use Rattle.judge_queues.specs.Laws.{AsksIn}
use Rattle.judge_queues.proofs.Lawful.{valid-left}
use Rattle.judge_queues.proofs.gone.is_left.Goals as goal

pub returns : goal.returns
returns g c = λ so.
    let f = c.args.facts.now in
    let takes = c.in-Some.asked.takes in
    let additions = c.in-Some.asked.additions in
    let asks : AsksIn f c.args.taker c.args.queue takes additions Empty =
    subst (λ (a : Answer). AsksIn f c.args.taker c.args.queue takes additions a) c.in-Empty.is c.in-Some.ensures in
    valid-left f c.args.clause.now c.history-history.ensures.sound c.history-history.ensures.within c.args.taker c.args.queue takes additions c.args.front.adder (to_z w64 (of_z w64 c.args.front.value))
    (c.is_queue.ensures c.if-not-is_queue.false) asks (c.is_stuck.ensures so)
