use Rattle.std.specs.Prelude.{◌<◌, ◌∷◌, [], ◌++◌, length, slice_index_or}
use Rattle.std.proofs.Common.{sym, ◌∙◌, subst}
use Rattle.aud_witness.specs.Orders.{Refuted}
use Rattle.aud_order.specs.Shapes.{objects_of, history_of}
use Rattle.aud_order.specs.Cursors.{CursorOf, IsGoodAt}
use Rattle.search_memo.specs.Memos.{states_reached, Names, IsNext}
use Rattle.search_memo.specs.Recorders.{HasNote}
use Rattle.search_prefix.proofs.Passing.{next-at, passed-more}
use Rattle.search_prefix.proofs.Recording.{kept-passed, note-on, reported-on}
use Rattle.search_prefix.proofs.Steps.{no_choice}
use Rattle.search_prefix.proofs.searching.pass_known.Goals as goal

pub knows_after-requires : goal.knows_after-requires
knows_after-requires g c =
    let cs = c.args.choices.now in
    let at = c.loop-place in
    let start = c.args.cursor.now in
    let n = c.args.here.states in
    let k = c.in-Some.place in
    let inside : k < length cs = subst (λ l. k < length l) c.requires.same c.in-Some.ensures.inside in
    subst (λ (v : CursorOf). IsNext at.memo n (slice_index_or cs k no_choice) v) (sym at.invariant.stays)
    (next-at at.memo n start cs k c.requires.choices inside (at.invariant.reported.shape ∙ c.requires.shape)
    (subst (λ l. Names l n (states_reached start.shape start.path)) (sym at.invariant.reported.states) c.requires.named))

pub loop-place-preserved : goal.loop-place-preserved
loop-place-preserved g c =
    let cs = c.args.choices.now in
    let at = c.loop-place in
    let start = c.args.cursor.now in
    let k = c.in-Some.place in
    let d = (slice_index_or cs k no_choice).decision in
    let (further, within, marked, none) = c.in-Some.ensures.next in
    let inside : k < length cs = subst (λ l. k < length l) c.requires.same c.in-Some.ensures.inside in
    let reported = c.in_ok-pass.ensures.reported in
    record {
      passed = passed-more c.args.ready.now start cs c.args.here.next at.from k c.requires.choices c.requires.same c.requires.ready none further inside
          (subst (λ (v : CursorOf). Refuted (objects_of v.shape) (history_of v.shape) (v.path ++ d ∷ [])) at.invariant.stays c.in-Some-knows_after.ensures.refuted) at.invariant.passed;
      kept = kept-passed (HasNote (g.R.Recorder.noted at.memo.recorder)) (HasNote (g.R.Recorder.noted c.pass.new.memo.recorder)) c.args.ready.now start cs c.args.here.next at.from k c.requires.choices c.requires.same c.requires.ready none further inside
          (note-on g.R.Recorder.noted g.R.Recorder.grows g.met.R.Recorder.noted_stays g.met.R.Recorder.grows_onward at.memo.recorder c.pass.new.memo.recorder reported.recorder) at.invariant.kept
          (subst (λ (v : CursorOf). IsGoodAt v d → HasNote (g.R.Recorder.noted c.pass.new.memo.recorder) (v.path ++ d ∷ [])) at.invariant.stays c.in_ok-pass.ensures.noted);
      stays = c.in_ok-pass.ensures.stays ∙ at.invariant.stays;
      reported = reported-on g.R.Recorder.noted g.R.Recorder.grows g.met.R.Recorder.noted_stays g.met.R.Recorder.grows_onward c.args.memo.now at.memo c.pass.new.memo at.invariant.reported reported;
    }
