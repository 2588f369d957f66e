use Rattle.std.specs.Prelude.{◌≡◌, ◌<◌, true, refl}
use Rattle.std.proofs.Common.{sym, ◌∙◌, ap, subst}
use Rattle.std.proofs.lemmas.Bool.{lt-ltb}
use Rattle.aud_history.specs.Table.{row_of}
use Rattle.aud_witness.specs.Configurations.{is_ended}
use Rattle.judge_clauses.proofs.Rows.{before-rows}
use Rattle.judge_clauses.proofs.facts.KnownFacts.ended.Goals as goal

pub returns-then-has_ended : goal.returns-then-has_ended
returns-then-has_ended g c = λ u there low.
    let h = c.args.self.now.history in
    let row = c.in_ok-row.row.now in
    let ended : is_ended row.status ≡ true = ap is_ended (sym c.status.ensures) ∙ sym c.has_ended.ensures ∙ c.if-has_ended.true in
    before-rows h c.args.tx u row (row_of h u) c.in_ok-row.ensures.0 refl c.in_ok-row.ensures.1 there ended (lt-ltb row.last (row_of h u).first (subst (λ n. n < (row_of h u).first) c.last.ensures low))
