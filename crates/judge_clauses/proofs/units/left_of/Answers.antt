use Rattle.std.specs.Prelude.{◌<◌}
use Rattle.std.proofs.Common.{arith}
use Rattle.judge_clauses.proofs.Holding.{holds-at}
use Rattle.judge_clauses.proofs.units.left_of.Goals as goal

pub returns : goal.returns
returns g c = λ v so whole.
    let (k, (x, (low, (at, is)))) = holds-at v c.args.clause.now whole in
    let within : k < c.loop-literal.literal-index = omega arith in
    c.loop-literal.invariant v so k x within at is
