use Rattle.std.specs.Prelude.{◌≡◌, List}
use Rattle.std.proofs.Common.{◌∙◌, subst}
use Rattle.aud_history.specs.Table.{RowOf, table_of}
use Rattle.judge_clauses.specs.Touching.{AreMarked}
use Rattle.judge_clauses.proofs.facts.KnownFacts.of.Goals as goal

pub invariant_of-result : goal.invariant_of-result
invariant_of-result g c =
    let rows : c.rows.result.now ≡ table_of c.args.history.now.events = c.rows.ensures ∙ c.table.ensures ∙ c.in_ok-agenda.ensures in
    (c.in_ok-agenda.ensures, (c.requires, subst (λ (l : List RowOf). AreMarked l c.in_ok-touched.touched.items) rows c.in_ok-touched.ensures))
