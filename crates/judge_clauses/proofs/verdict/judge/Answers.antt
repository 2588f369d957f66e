use Rattle.std.specs.Prelude.{◌≡◌, IfOk, []}
use Rattle.std.proofs.Common.{subst}
use Rattle.std.proofs.lemmas.Result.{IfOk-weaker}
use Rattle.aud_witness.specs.Orders.{Refuted}
use Rattle.judge_clauses.specs.Clauses.{KnownFactsOf, IsValid}
use Rattle.judge_clauses.specs.declared.verdict.Judgement.TheVariants.{Refutes}
use Rattle.judge_clauses.proofs.Validity.{valid-nothing}
use Rattle.judge_clauses.proofs.verdict.judge.Goals as goal

pub returns : goal.returns
returns g c =
    let f = c.in_ok-facts.facts in
    subst (λ (f : KnownFactsOf). IfOk c.reach_empty_clause.result (λ j. j ≡ Refutes → Refuted f.plan.objects f.history [])) c.in_ok-facts.ensures
    (IfOk-weaker c.reach_empty_clause.result (λ j. j ≡ Refutes → IsValid f []) (λ j. j ≡ Refutes → Refuted f.plan.objects f.history []) (λ j valid so rest. valid-nothing f (valid so) rest) c.reach_empty_clause.ensures)
