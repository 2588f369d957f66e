use Rattle.std.specs.Prelude.{◌≡◌, true}
use Rattle.std.proofs.Common.{sym, ◌∙◌, ap, subst, arith}
use Rattle.judge_clauses.specs.Clauses.{holds, is_true, are_true}
use Rattle.judge_clauses.specs.Units.{may_hold}
use Rattle.judge_clauses.proofs.Holding.{are_true-push}
use Rattle.judge_clauses.proofs.UnitLemmas.{used-clause, all-false}
use Rattle.judge_clauses.proofs.units.follows.Goals as goal

pub returns-in-Nothing : goal.returns-in-Nothing
returns-in-Nothing g c = λ yes v earlier.
    let used : holds v c.clause.result.now ≡ true = used-clause v c.args.steps.now c.args.count _ c.index-steps-place.result c.clause.result.now earlier (omega arith) (omega arith) c.index-steps-place.is c.clause.ensures in
    all-false v c.args.clause.now c.loop-place.trail (c.loop-place.invariant v earlier) (λ so. let left : may_hold v c.left_of.result ≡ true = c.left_of.ensures v so used in let none = ap (may_hold v) c.in-Nothing.is in cc)

pub loop-place-preserved : goal.loop-place-preserved
loop-place-preserved g c = λ v earlier open_.
    let so : are_true v c.loop-place.trail ≡ true = c.loop-place.invariant v earlier open_ in
    let used : holds v c.clause.result.now ≡ true = used-clause v c.args.steps.now c.args.count _ c.index-steps-place.result c.clause.result.now earlier (omega arith) (omega arith) c.index-steps-place.is c.clause.ensures in
    let one : is_true v c.in-One.literal ≡ true = sym (ap (may_hold v) c.in-One.is) ∙ c.left_of.ensures v so used in
    subst (λ l. are_true v l ≡ true) (sym c.in_ok-put-in-One.ensures) (are_true-push v c.loop-place.trail c.in-One.literal so one)
