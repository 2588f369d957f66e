use Rattle.std.specs.Prelude.{IfOk, IsTrue, List}
use Rattle.std.proofs.Common.{subst}
use Rattle.std.proofs.lemmas.Result.{IfOk-weaker}
use Rattle.judge_clauses.specs.Clauses.{IsValid, Follows}
use Rattle.judge_clauses.specs.declared.clause.Literal.{Literal}
use Rattle.judge_clauses.proofs.Validity.{valid-follows}
use Rattle.judge_clauses.proofs.verdict.is_right.Goals as goal

pub returns-in-Units : goal.returns-in-Units
returns-in-Units g c =
    let f = c.args.facts.now in
    let own = c.clause-clause.result.now in
    subst (λ (l : List Literal). IfOk c.follows.result (λ yes. IsTrue yes → IsValid f l)) c.clause-clause.ensures
    (IfOk-weaker c.follows.result (λ yes. IsTrue yes → Follows c.args.steps.now c.args.count own) (λ yes. IsTrue yes → IsValid f own)
    (λ yes follows is. valid-follows f c.args.steps.now c.args.count own c.requires (follows is)) c.follows.ensures)

pub returns-in-Law : goal.returns-in-Law
returns-in-Law g c =
    subst (λ (l : List Literal). IfOk c.is_right.result (λ yes. IsTrue yes → IsValid c.args.facts.now l)) c.clause-clause.ensures c.is_right.ensures
