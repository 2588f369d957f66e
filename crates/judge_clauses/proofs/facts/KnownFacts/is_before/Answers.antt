use Rattle.std.specs.Prelude.{◌≡◌, true, nat_lt}
use Rattle.std.proofs.Common.{sym, ◌∙◌, ap}
use Rattle.aud_witness.specs.Configurations.{is_ended}
use Rattle.judge_clauses.proofs.Rows.{before-rows}
use Rattle.judge_clauses.proofs.facts.KnownFacts.is_before.Goals as goal

pub returns-then-has_ended : goal.returns-then-has_ended
returns-then-has_ended g c = λ yes.
    let h = c.args.self.now.history in
    let first = c.in-Some.row.now in
    let second = c.in-Some-row.other.now in
    let ended : is_ended first.status ≡ true = ap is_ended (sym c.status.ensures) ∙ sym c.has_ended.ensures ∙ c.if-has_ended.true in
    let less : nat_lt first.last second.first ≡ true = cc in
    before-rows h c.args.first c.args.second first second c.in-Some.ensures.0 c.in-Some-row.ensures.0 c.in-Some.ensures.1 c.in-Some-row.ensures.1 ended less
