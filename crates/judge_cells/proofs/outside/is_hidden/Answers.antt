use Rattle.std.specs.Prelude.{IfSome}
use Rattle.std.proofs.Common.{subst}
use Rattle.std.proofs.lemmas.Bool.{ltb-true}
use Rattle.judge_cells.specs.Sources.{IsHiding}
use Rattle.judge_cells.proofs.Ruling.{out-hidden}
use Rattle.judge_cells.proofs.outside.is_hidden.Goals as goal

pub returns-in-Some-ended : goal.returns-in-Some-ended
returns-in-Some-ended g c = λ so.
    let f = c.args.facts.now in
    let hiding : IsHiding f c.args.read c.in-Some.stamp = subst (λ o. IfSome o (IsHiding f c.args.read)) c.in-Some.is c.requires in
    out-hidden f c.args.read c.in-Some.stamp hiding c.args.tx c.in-Some-ended.end c.in-Some-ended.ensures (ltb-true c.in-Some-ended.end c.in-Some.stamp so)
