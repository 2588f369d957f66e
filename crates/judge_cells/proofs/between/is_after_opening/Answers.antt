use Rattle.std.proofs.lemmas.Bool.{ne_eqb}
use Rattle.judge_cells.proofs.Standing.{valid-after_opening}
use Rattle.judge_cells.proofs.between.is_after_opening.Goals as goal

pub returns : goal.returns
returns g c = λ so.
    let moved = c.is_change.ensures c.if-not-is_change.false in
    valid-after_opening c.args.facts.now c.args.read (c.is_there.ensures c.if-not-is_there.false) c.args.clause.now c.args.other (ne_eqb c.args.other c.args.read.reader c.if-other-read.false) moved.0 moved.1
    (c.is_so.ensures c.if-not-is_so.false) (c.is_so-2.ensures c.if-not-is_so-2.false) (c.is_not_so.ensures so)
