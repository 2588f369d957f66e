use Rattle.std.specs.Prelude.{◌<◌, length, slice_index_or}
use Rattle.std.proofs.Common.{arith, length-set, ◌∙◌}
use Rattle.std.proofs.lemmas.Option.{slice_get_within}
use Rattle.aud_history.specs.Table.{table_of}
use Rattle.aud_order.specs.Shapes.{history_of}
use Rattle.search_prefix.proofs.Steps.{choice-at, no_choice}
use Rattle.search_prefix.proofs.Readiness.{rows-more}
use Rattle.search_prefix.proofs.ready.rows_of.Goals as goal

pub loop-place-preserved : goal.loop-place-preserved
loop-place-preserved g c =
    let h = history_of c.args.shape.now in
    let cs = c.args.choices.now in
    let n = c.loop-place.place in
    let choice = slice_index_or cs n no_choice in
    let there = choice-at cs n c.loop-place-test.true in
    let (r, (row, tx)) = c.requires.rows n choice there in
    let inside : choice.place < length c.loop-place.rows.items = omega (arith, slice_get_within (table_of h) choice.place r row, c.loop-place.invariant.long) in record {
      has = rows-more h cs n choice c.loop-place.rows.items c.index.result.now c.with.result c.requires c.loop-place.invariant.has there inside c.index.ensures c.with.ensures.own c.with.ensures.other;
      long = length-set c.loop-place.rows.items choice.place c.with.result ∙ c.loop-place.invariant.long;
    }
