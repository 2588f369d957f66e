use Rattle.std.proofs.Common.{arith}
use Rattle.std.proofs.lemmas.Int.{ints}
use Rattle.search_model.proofs.Adding.{idle, net-more}
use Rattle.search_model.proofs.numbers.net.Goals as goal

pub loop-execution-preserved : goal.loop-execution-preserved
loop-execution-preserved c =
    let more = net-more c.args.quantity c.args.executions.now c.loop-execution.execution-index idle (omega arith) in
    let sum = c.in_ok-total.ensures.1 in
    let own = c.change_by.ensures in
    let before = c.loop-execution.invariant in
    omega (arith, ints, more, sum, own, before)
