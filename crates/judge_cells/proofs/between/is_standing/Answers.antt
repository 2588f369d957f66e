use Rattle.judge_cells.proofs.Standing.{valid-before, valid-kept}
use Rattle.judge_cells.proofs.between.is_standing.Goals as goal

pub returns-then-is_not_so : goal.returns-then-is_not_so
returns-then-is_not_so g c = λ so.
    valid-before c.args.facts.now c.args.read (c.is_there.ensures c.if-not-is_there.false) c.args.clause.now c.args.source (c.is_so.ensures c.if-not-is_so.false) (c.is_not_so.ensures c.if-is_not_so.true)

pub returns : goal.returns
returns g c = λ so.
    valid-kept c.args.facts.now c.args.read (c.is_there.ensures c.if-not-is_there.false) c.args.clause.now c.args.source (c.is_so.ensures c.if-not-is_so.false) (c.is_not_so-2.ensures so)
