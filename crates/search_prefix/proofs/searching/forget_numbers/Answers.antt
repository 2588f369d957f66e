use Rattle.std.specs.Prelude.{◌<◌, None, length, slice_set, slice_index_or}
use Rattle.std.proofs.Common.{◌∙◌, ap, arith}
use Rattle.std.proofs.lemmas.List.Edits.{map_over_more}
use Rattle.search_prefix.specs.declared.searching.Frame.{Frame}
use Rattle.search_prefix.specs.Frames.{unnumbered}
use Rattle.search_prefix.proofs.Anew.{get-any}
use Rattle.search_prefix.proofs.searching.forget_numbers.Goals as goal

pub loop-place-preserved : goal.loop-place-preserved
loop-place-preserved c =
    let none : Frame = record { next = 0; states = None; silent = None } in
    let frames = c.loop-place.frames in
    let frame : Frame = slice_index_or frames c.loop-place.place none in
    let inside : c.loop-place.place < length frames = omega (arith, c.loop-place-test.true, c.loop-place.auto.frames) in
    ap (slice_set frames c.loop-place.place) c.unnumbered.ensures
    ∙ map_over_more unnumbered c.args.frames.now frames c.loop-place.place frame c.loop-place-test.true c.loop-place.invariant (get-any frames c.loop-place.place none frame inside)
