use Rattle.std.specs.Prelude.{ℤ}
use Rattle.std.proofs.Common.{subst, w64}
use Rattle.std.proofs.lemmas.Int.{to_z-of_z}
use Rattle.std.proofs.lemmas.Option.{IfSome_then}
use mir.Val.{to_z, of_z}
use Rattle.search_model.specs.declared.quantity.Quantity.TheVariants.{Element}
use Rattle.judge_sums.specs.Laws.{ComesTo}
use Rattle.judge_sums.proofs.Lawful.{element-comes}
use Rattle.judge_sums.proofs.law.found.Goals as goal

pub returns : goal.returns
returns g c =
    let f = c.args.facts.now in
    let bits : ℤ = to_z w64 (of_z w64 c.args.element) in
    IfSome_then c.asked_by.result c.asked_by.ensures
    (λ n asks.
    subst (λ v. ComesTo f (Element c.args.set v) c.args.reader n) (to_z-of_z w64 c.args.element c.ranges.element)
    (element-comes f c.history-history.ensures.sound c.history-history.ensures.within c.args.reader c.args.set bits n (c.is_set.ensures c.if-not-is_set.false) asks))
