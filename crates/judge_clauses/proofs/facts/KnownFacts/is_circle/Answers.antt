use Rattle.judge_clauses.proofs.Validity.{unless-next, valid-circle}
use Rattle.judge_clauses.proofs.facts.KnownFacts.is_circle.Goals as goal

pub loop-i-preserved : goal.loop-i-preserved
loop-i-preserved g c = unless-next c.args.self.now c.args.clause.now _ _ _ c.loop-i.invariant (c.is_so.ensures c.if-not-is_so.false)

pub returns : goal.returns
returns g c = λ so.
    valid-circle c.args.self.now c.args.clause.now _ _ c.loop-i.invariant (c.is_so-2.ensures so)
