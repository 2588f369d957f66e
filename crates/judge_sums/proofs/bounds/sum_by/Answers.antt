use Rattle.std.specs.Prelude.{◌≡◌, ◌<◌, ◌≤◌, Some, length, slice_get}
use Rattle.std.proofs.Common.{◌∙◌, subst, get_or, arith, rules, w64}
use Rattle.std.proofs.lemmas.Int.{to_z-of_z}
use mir.Val.{SFits, to_z, of_z}
use Rattle.aud_history.specs.Table.{transactions, row_of, table_of}
use Rattle.search_model.specs.Quantities.{net}
use Rattle.judge_sums.proofs.Bounding.{row-there, bounded-more, bounded-all}
use Rattle.judge_sums.proofs.bounds.sum_by.Goals as goal

pub loop-place-preserved : goal.loop-place-preserved
loop-place-preserved g c =
    let f = c.args.facts.now in
    let k = c.loop-place.place in
    let row = row_of f.history (get_or (transactions f.history) k 0) in
    let rows : c.rows-place-end.result.now ≡ table_of f.history = c.rows-place-end.ensures in
    let here : k < length c.rows-place-end.result.now = omega arith in
    let low : k < length (table_of f.history) = subst (λ l. k < length l) rows here in
    let at : slice_get (table_of f.history) k ≡ Some row = row-there f.history k low in
    let in_range : SFits w64 c.in_ok-weight.weight = search rules in
    let weight : to_z w64 (of_z w64 c.in_ok-weight.weight) ≡ net c.args.quantity row.block.executions =
    to_z-of_z w64 c.in_ok-weight.weight in_range ∙ c.in_ok-weight.ensures row at in
    bounded-more f c.args.clause.now g.E.Estimate.says c.args.quantity c.args.reader k c.loop-place.sum c.in_ok-own.own c.in_ok-sum.sum (to_z w64 (of_z w64 c.in_ok-weight.weight)) row c.value_at.result c.value_at-in-loop-place.result c.args.kept.now c.args.before.now low at
    weight c.requires.fates c.requires.places c.value_at.ensures c.value_at-in-loop-place.ensures c.in_ok-own.ensures c.in_ok-sum.ensures c.loop-place.invariant

pub returns : goal.returns
returns g c =
    let f = c.args.facts.now in
    let rows : c.rows-place-end.result.now ≡ table_of f.history = c.rows-place-end.ensures in
    let here : length c.rows-place-end.result.now ≤ c.loop-place.place = omega arith in
    let all : length (table_of f.history) ≤ c.loop-place.place = subst (λ l. length l ≤ c.loop-place.place) rows here in
    bounded-all f c.args.clause.now g.E.Estimate.says c.args.quantity c.args.reader c.loop-place.sum c.loop-place.place all c.loop-place.invariant
