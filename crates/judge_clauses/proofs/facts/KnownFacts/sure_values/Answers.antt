use Rattle.std.specs.Prelude.{◌≡◌, ◌<◌, Some, length, slice_get, refl}
use Rattle.std.proofs.Common.{arith, sym, ◌∙◌, ap, subst}
use Rattle.std.proofs.lemmas.Option.{slice_get_read}
use Rattle.aud_history.specs.Table.{table_of}
use Rattle.judge_clauses.specs.Values.{atom_of, AreValues}
use Rattle.judge_clauses.proofs.Valued.{valued-push, sure-as, length-push}
use Rattle.judge_clauses.proofs.facts.KnownFacts.sure_values.Goals as goal

pub loop-row-preserved : goal.loop-row-preserved
loop-row-preserved g c =
    let f = c.args.self.now in
    let row = c.row-item.result in
    let rows : c.rows-row-items.result.now ≡ table_of f.history = c.rows-row-items.ensures in
    let low : c.loop-row.row-index < length c.rows-row-items.result.now = omega arith in
    let place : length c.loop-row.values.items ≡ c.loop-row.row-index = c.loop-row.invariant.0 in
    let at : slice_get (table_of f.history) (length c.loop-row.values.items) ≡ Some row =
    ap (slice_get (table_of f.history)) place ∙ ap (λ l. slice_get l c.loop-row.row-index) (sym rows) ∙ slice_get_read c.rows-row-items.result.now (length c.rows-row-items.result.now) c.loop-row.row-index row refl low c.row-item.is in (
      ap length c.in_ok-push.ensures.items ∙ length-push c.loop-row.values.items c.sure.result c.loop-row.row-index place,
      subst (AreValues f c.args.clause.now (atom_of c.args.question)) (sym c.in_ok-push.ensures.items)
          (valued-push f c.args.clause.now (atom_of c.args.question) c.loop-row.values.items row c.sure.result at (sure-as f c.sure.result c.of.result (atom_of c.args.question row.tx) c.sure.ensures (c.of.ensures ∙ ap (atom_of c.args.question) c.tx.ensures)) c.loop-row.invariant.1),
    )
