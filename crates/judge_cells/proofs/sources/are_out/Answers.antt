use Rattle.std.specs.Prelude.{◌≡◌, ◌<◌, ℕ, false, length, List}
use Rattle.std.proofs.Common.{arith, ap, ◌∙◌, below_more, subst, get_or}
use Rattle.std.proofs.lemmas.Option.{get_or_from_slice_get, slice_get_within}
use Rattle.aud_history.specs.Table.{RowOf, table_of}
use Rattle.judge_clauses.specs.declared.clause.Atom.TheVariants.{Source}
use Rattle.judge_clauses.specs.Clauses.{says}
use Rattle.judge_cells.specs.Sources.{IsOutAt}
use Rattle.judge_cells.proofs.Ruling.{out-untouched}
use Rattle.judge_cells.proofs.sources.are_out.Goals as goal

pub loop-place-preserved-then-not-touches : goal.loop-place-preserved-then-not-touches
loop-place-preserved-then-not-touches g c =
    let f = c.args.facts.now in
    below_more (IsOutAt f c.args.clause.now c.args.read) c.loop-place.place c.loop-place.invariant
    (λ row at p shown broken. out-untouched f c.args.read c.requires.read.there c.loop-place.place row at (c.touches.ensures c.if-not-touches.true row at) p shown)

pub loop-place-preserved : goal.loop-place-preserved
loop-place-preserved g c =
    let f = c.args.facts.now in
    below_more (IsOutAt f c.args.clause.now c.args.read) c.loop-place.place c.loop-place.invariant
    (λ row at p shown broken.
    let own : c.index-rows-place.result ≡ row =
    c.index-rows-place.is ∙ ap (λ (l : List RowOf). get_or l c.loop-place.place c.index-rows-place.result) c.rows-rows.ensures
    ∙ get_or_from_slice_get (table_of f.history) c.loop-place.place row c.index-rows-place.result at in
    let tx : c.tx.result ≡ row.tx = c.tx.ensures ∙ ap (λ (r : RowOf). r.tx) own in
    subst (λ (n : ℕ). says f.history p (Source c.args.read n) ≡ false) tx (c.is_outside.ensures c.if-not-is_outside.false p shown))

pub returns : goal.returns
returns g c = λ so k row at.
    let size : length c.rows-rows.result.now ≡ length (table_of c.args.facts.now.history) = ap length c.rows-rows.ensures in
    let within : k < length (table_of c.args.facts.now.history) = slice_get_within (table_of c.args.facts.now.history) k row at in
    c.loop-place.invariant k (omega (arith, size, within)) row at
