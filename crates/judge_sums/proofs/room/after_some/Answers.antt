use Rattle.std.proofs.Common.{arith}
use Rattle.std.proofs.lemmas.Int.{ints}
use Rattle.search_model.specs.declared.quantity.Quantity.TheVariants.{Count}
use Rattle.search_model.proofs.Adding.{idle}
use Rattle.judge_sums.proofs.Adding.{reaches-more}
use Rattle.judge_sums.proofs.room.after_some.Goals as goal

pub loop-execution-preserved : goal.loop-execution-preserved
loop-execution-preserved c =
    let more = reaches-more (Count c.args.counter) c.args.executions.now c.loop-execution.execution-index idle (omega arith) in
    let next = c.in_ok-wide.ensures in
    let before = c.loop-execution.invariant in
    (omega (arith, ints, more, next.0, before.0), omega (arith, ints, more, next.1, before.1))
