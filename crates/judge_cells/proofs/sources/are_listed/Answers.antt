use Rattle.judge_cells.proofs.Standing.{valid-sources}
use Rattle.judge_cells.proofs.sources.are_listed.Goals as goal

pub returns : goal.returns
returns g c = λ so.
    valid-sources c.args.facts.now c.args.read c.in-Some.ensures.there c.args.clause.now (c.are_out.ensures so) (c.is_opening_out.ensures c.if-not-is_opening_out.false)
