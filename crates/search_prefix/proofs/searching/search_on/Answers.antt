use Rattle.std.specs.Prelude.{◌+◌, ◌-◌, ◌<◌, ◌∷◌, List, map, length, take, Some, refl, reverse, slice_index_or}
use Rattle.std.proofs.Common.{sym, ◌∙◌, ap, subst}
use Rattle.std.proofs.lemmas.Bool.{false≢true}
use Rattle.std.proofs.lemmas.Result.{IfOk-weaker}
use Rattle.aud_witness.specs.Orders.{IsFull, Refuted}
use Rattle.aud_order.specs.Shapes.{ShapeOf, objects_of, history_of}
use Rattle.aud_order.specs.Cursors.{CursorOf}
use Rattle.search_memo.specs.Choices.{AreChoices}
use Rattle.search_prefix.specs.Levels.{IsSearching}
use Rattle.search_prefix.proofs.Levels.{search-start}
use Rattle.search_prefix.specs.declared.searching.Frame.{Frame}
use Rattle.search_memo.specs.Memos.{states_reached, Names, NameWay}
use Rattle.search_prefix.specs.Readiness.{IsReady, IsReadyAfter}
use Rattle.search_memo.specs.Recorders.{HasNote}
use Rattle.search_prefix.specs.Tried.{FindsFirstGood, IsWitnessOf, ReportsAt}
use Rattle.search_memo.proofs.MemoLemmas.{way-further, way-deeper, way-back}
use Rattle.search_prefix.proofs.Readiness.{ready-on, ready-still}
use Rattle.search_prefix.proofs.Anew.{room-next, room-nexts, room-silent, room-way, room-opens}
use Rattle.search_prefix.proofs.Recording.{IsHeard, AreOpen, kept-none, note-on, round, round-follows, round-reason, round-over, round-back, round-known, round-deeper}
use Rattle.search_prefix.proofs.Steps.{no_choice, weight, next_of, states_of, more-frames, Grounds, went-back, loop-known, loop-known-lighter, loop-refuted, step-at, spends-start, spends-more, spent-from, loop-witness, reports-witness, loop-spent, loop-deeper, loop-deeper-lighter, loop-over, loop-back, loop-back-lighter}
use Rattle.search_prefix.proofs.searching.search_on.Goals as goal

pub search-init : goal.search-init
search-init g c =
    let start = c.args.cursor.now in
    let cs = c.args.choices.now in
    let P = HasNote (g.R.Recorder.noted c.args.memo.now.recorder) in record {
      same = refl;
      used = 1;
      spends = spends-start c.args.budget;
      memo = c.requires.memo;
      way = subst (λ (t : Frame). NameWay start.shape c.args.memo.now.states (t.states ∷ reverse (map states_of c.args.frames.now.items)) start.path) (sym c.new-here.ensures)
          (tt, subst (λ l. NameWay start.shape c.args.memo.now.states (reverse (map states_of l)) (take (length start.path - 1) start.path)) (sym c.requires.first) tt);
      searching = subst (λ (t : Frame). IsSearching (objects_of start.shape) (history_of start.shape) start.path cs 1 start.path t.next (reverse (map next_of c.args.frames.now.items))) (sym c.new-here.ensures)
          (subst (λ l. IsSearching (objects_of start.shape) (history_of start.shape) start.path cs 1 start.path 0 (reverse (map next_of l))) (sym c.requires.first)
          (search-start (objects_of start.shape) (history_of start.shape) start.path cs c.prefix-good.ensures.good c.requires.unfull));
      heard = subst (λ (t : Frame). IsHeard P start.shape cs start.path t.next t.silent) (sym c.new-here.ensures) (kept-none P start.shape cs start.path 0);
      opens = subst (λ (l : List Frame). AreOpen P start.shape cs (reverse l) start.path) (sym c.requires.first) tt;
      choices = c.requires.same;
      ready = c.requires.ready;
    }

pub seek-requires-clause-choices : goal.seek-requires-clause-choices
seek-requires-clause-choices g c = subst (λ (s : ShapeOf). AreChoices (history_of s) c.args.choices.now) (sym c.search.invariant.same) c.requires.choices

pub seek-requires-clause-same : goal.seek-requires-clause-same
seek-requires-clause-same g c = c.search.invariant.choices

pub seek-requires-clause-ready : goal.seek-requires-clause-ready
seek-requires-clause-ready g c = c.search.invariant.ready

pub seek-requires-clause-shape : goal.seek-requires-clause-shape
seek-requires-clause-shape g c = c.search.invariant.memo ∙ sym c.search.invariant.same

pub seek-requires-clause-named : goal.seek-requires-clause-named
seek-requires-clause-named g c =
    let at = c.search in
    subst (λ (s : ShapeOf). Names at.memo.states at.here.states (states_reached s at.cursor.path)) (sym at.invariant.same) at.invariant.way.0

pub close-requires-clause-shape : goal.close-requires-clause-shape
close-requires-clause-shape g c =
    let at = c.search in
    let start = c.args.cursor.now in
    let cs = c.args.choices.now in
    let new = c.seek.new.cursor in
    let (from, (passed, kept, found)) = rw c.in_default.is at c.in_ok-place.ensures.sought in
    let r = round g.R.Recorder.noted g.R.Recorder.grows g.met.R.Recorder.noted_stays start at.cursor at.cursor at.memo c.seek.new.memo cs at.invariant.used from at.here at.frames.items refl c.in_ok-place.ensures.reported at.invariant.same at.invariant.memo at.invariant.way at.invariant.searching at.invariant.heard at.invariant.opens passed kept in
    r.memo_same ∙ sym (ap (λ (v : CursorOf). v.shape) found.0 ∙ r.same)

pub close-requires-clause-reason : goal.close-requires-clause-reason
close-requires-clause-reason g c =
    let at = c.search in
    let start = c.args.cursor.now in
    let cs = c.args.choices.now in
    let new = c.seek.new.cursor in
    let (from, (passed, kept, found)) = rw c.in_default.is at c.in_ok-place.ensures.sought in
    let r = round g.R.Recorder.noted g.R.Recorder.grows g.met.R.Recorder.noted_stays start at.cursor at.cursor at.memo c.seek.new.memo cs at.invariant.used from at.here at.frames.items refl c.in_ok-place.ensures.reported at.invariant.same at.invariant.memo at.invariant.way at.invariant.searching at.invariant.heard at.invariant.opens passed kept in
    round-reason r new _ c.requires.choices found refl

pub close-requires-clause-named : goal.close-requires-clause-named
close-requires-clause-named g c =
    let at = c.search in
    let start = c.args.cursor.now in
    let cs = c.args.choices.now in
    let new = c.seek.new.cursor in
    let (from, (passed, kept, found)) = rw c.in_default.is at c.in_ok-place.ensures.sought in
    let r = round g.R.Recorder.noted g.R.Recorder.grows g.met.R.Recorder.noted_stays start at.cursor at.cursor at.memo c.seek.new.memo cs at.invariant.used from at.here at.frames.items refl c.in_ok-place.ensures.reported at.invariant.same at.invariant.memo at.invariant.way at.invariant.searching at.invariant.heard at.invariant.opens passed kept in
    subst (λ (v : CursorOf). Names c.seek.new.memo.states at.here.states (states_reached v.shape v.path)) (sym found.0)
    (subst (λ (s : ShapeOf). Names c.seek.new.memo.states at.here.states (states_reached s at.cursor.path)) (sym r.same) r.way.0)

pub close-requires-clause-refuted : goal.close-requires-clause-refuted
close-requires-clause-refuted g c =
    let at = c.search in
    let start = c.args.cursor.now in
    let cs = c.args.choices.now in
    let new = c.seek.new.cursor in
    let (from, (passed, kept, found)) = rw c.in_default.is at c.in_ok-place.ensures.sought in
    let r = round g.R.Recorder.noted g.R.Recorder.grows g.met.R.Recorder.noted_stays start at.cursor at.cursor at.memo c.seek.new.memo cs at.invariant.used from at.here at.frames.items refl c.in_ok-place.ensures.reported at.invariant.same at.invariant.memo at.invariant.way at.invariant.searching at.invariant.heard at.invariant.opens passed kept in
    let refuted = loop-refuted start at.cursor new cs at.invariant.used from (reverse (map next_of at.frames.items)) r.same c.requires.choices r.searching found in
    subst (λ (v : CursorOf). Refuted (objects_of v.shape) (history_of v.shape) v.path) (sym found.0)
    (subst (λ (s : ShapeOf). Refuted (objects_of s) (history_of s) at.cursor.path) (sym r.same) refuted)

pub close-requires-clause-ready : goal.close-requires-clause-ready
close-requires-clause-ready g c =
    let at = c.search in
    let start = c.args.cursor.now in
    let cs = c.args.choices.now in
    let new = c.seek.new.cursor in
    let (from, (passed, kept, found)) = rw c.in_default.is at c.in_ok-place.ensures.sought in
    let r = round g.R.Recorder.noted g.R.Recorder.grows g.met.R.Recorder.noted_stays start at.cursor at.cursor at.memo c.seek.new.memo cs at.invariant.used from at.here at.frames.items refl c.in_ok-place.ensures.reported at.invariant.same at.invariant.memo at.invariant.way at.invariant.searching at.invariant.heard at.invariant.opens passed kept in
    subst (λ (v : CursorOf). IsReady at.ready v) (sym found.0) at.invariant.ready

pub returns-in-Some-2-clause-reported : goal.returns-in-Some-2-clause-reported
returns-in-Some-2-clause-reported g c =
    let at = c.search in
    let start = c.args.cursor.now in
    let cs = c.args.choices.now in
    let new = c.seek.new.cursor in
    let (from, (passed, kept, found)) = rw c.in_default.is at c.in_ok-place.ensures.sought in
    let r = round g.R.Recorder.noted g.R.Recorder.grows g.met.R.Recorder.noted_stays start at.cursor at.cursor at.memo c.seek.new.memo cs at.invariant.used from at.here at.frames.items refl c.in_ok-place.ensures.reported at.invariant.same at.invariant.memo at.invariant.way at.invariant.searching at.invariant.heard at.invariant.opens passed kept in
    let (none, noted, stays) = rw c.in-Some-2.is at c.in_ok-note.ensures.closed in (
      loop-over start at.cursor new cs at.invariant.used from (map next_of at.frames.items) r.same c.requires.choices r.searching found (ap (map next_of) none),
      round-over r new c.close.new.memo.recorder c.in-Some-2.note found none noted,
    )

pub search-smaller-in-None : goal.search-smaller-in-None
search-smaller-in-None g c =
    let at = c.search in
    let start = c.args.cursor.now in
    let cs = c.args.choices.now in
    let new = c.seek.new.cursor in
    let (from, (passed, kept, found)) = rw c.in_default.is at c.in_ok-place.ensures.sought in
    let r = round g.R.Recorder.noted g.R.Recorder.grows g.met.R.Recorder.noted_stays start at.cursor at.cursor at.memo c.seek.new.memo cs at.invariant.used from at.here at.frames.items refl c.in_ok-place.ensures.reported at.invariant.same at.invariant.memo at.invariant.way at.invariant.searching at.invariant.heard at.invariant.opens passed kept in
    let (shorter, noted, back) = rw c.in-None.is at c.in_ok-note.ensures.closed in
    loop-back-lighter start.shape at.cursor new c.close.new.cursor cs at.here.next c.close.new.here.next (map next_of at.frames.items) (map next_of c.close.new.frames.items) found.0
    (more-frames next_of c.close.new.frames.items at.frames.items c.close.new.here shorter) back

pub search-preserved-in-None : goal.search-preserved-in-None
search-preserved-in-None g c =
    let at = c.search in
    let start = c.args.cursor.now in
    let cs = c.args.choices.now in
    let new = c.seek.new.cursor in
    let (from, (passed, kept, found)) = rw c.in_default.is at c.in_ok-place.ensures.sought in
    let r = round g.R.Recorder.noted g.R.Recorder.grows g.met.R.Recorder.noted_stays start at.cursor at.cursor at.memo c.seek.new.memo cs at.invariant.used from at.here at.frames.items refl c.in_ok-place.ensures.reported at.invariant.same at.invariant.memo at.invariant.way at.invariant.searching at.invariant.heard at.invariant.opens passed kept in
    let (shorter, noted, back) = rw c.in-None.is at c.in_ok-note.ensures.closed in
    let frame = c.close.new.here in
    let less = c.close.new.frames.items in
    let now = c.close.new.memo in
    let further = c.in_ok-note.ensures.further in
    let went = loop-back start at.cursor new c.close.new.cursor cs at.invariant.used from frame.next (map next_of at.frames.items) (map next_of less) r.same
    c.requires.choices r.searching found (more-frames next_of less at.frames.items frame shorter) back in
    let heard = round-back r now.recorder (note-on g.R.Recorder.noted g.R.Recorder.grows g.met.R.Recorder.noted_stays g.met.R.Recorder.grows_onward c.seek.new.memo.recorder now.recorder further.recorder)
    new c.close.new.cursor.path less frame noted.0 found shorter noted.1 went.2 in
    record {
      same = went.0;
      used = at.invariant.used;
      spends = at.invariant.spends;
      memo = further.shape ∙ r.memo_same;
      way = subst (λ l. NameWay start.shape now.states (frame.states ∷ reverse (map states_of less)) l) (sym went.2)
          (way-back start.shape now.states at.here.states frame.states (map states_of at.frames.items) (map states_of less) at.cursor.path
          (way-further g.R.Recorder.grows start.shape c.seek.new.memo now (at.here.states ∷ reverse (map states_of at.frames.items)) at.cursor.path further r.way)
          (more-frames states_of less at.frames.items frame shorter));
      searching = went.1;
      heard = heard.0;
      opens = heard.1;
      choices = c.close.ensures.choices ∙ at.invariant.choices;
      ready = c.in_ok-note.ensures.ready;
    }

pub returns-then-full-clause-reported : goal.returns-then-full-clause-reported
returns-then-full-clause-reported g c =
    let at = c.search in
    let start = c.args.cursor.now in
    let cs = c.args.choices.now in
    let new = c.seek.new.cursor in
    let (from, (passed, kept, found)) = rw c.in-Some.is at c.in_ok-place.ensures.sought in
    let r = round g.R.Recorder.noted g.R.Recorder.grows g.met.R.Recorder.noted_stays start at.cursor at.cursor at.memo c.seek.new.memo cs at.invariant.used from at.here at.frames.items refl c.in_ok-place.ensures.reported at.invariant.same at.invariant.memo at.invariant.way at.invariant.searching at.invariant.heard at.invariant.opens passed kept in
    let f = round-follows r new c.in-Some.place found in
    IfOk-weaker c.witness_at.result (IsWitnessOf new.path) (ReportsAt start (g.R.Recorder.noted c.seek.new.memo.recorder) c.args.budget)
    (λ e is. reports-witness g.row.N.Denot g.row.A.Denot (g.R.Recorder.noted c.seek.new.memo.recorder) (objects_of start.shape) (history_of start.shape) start.path new.path c.args.budget e is
    (loop-witness start at.cursor new cs at.invariant.used at.here.next c.in-Some.place (reverse (map next_of at.frames.items)) new.path r.before f (c.full.ensures.0 c.if-full.true) refl)) c.witness_at.ensures

pub arrive-requires : goal.arrive-requires
arrive-requires g c =
    let at = c.search in
    let start = c.args.cursor.now in
    let cs = c.args.choices.now in
    let new = c.seek.new.cursor in
    let (from, (passed, kept, found)) = rw c.in-Some.is at c.in_ok-place.ensures.sought in
    let r = round g.R.Recorder.noted g.R.Recorder.grows g.met.R.Recorder.noted_stays start at.cursor at.cursor at.memo c.seek.new.memo cs at.invariant.used from at.here at.frames.items refl c.in_ok-place.ensures.reported at.invariant.same at.invariant.memo at.invariant.way at.invariant.searching at.invariant.heard at.invariant.opens passed kept in
    let f = round-follows r new c.in-Some.place found in
    let on : Grounds start.shape cs = record { fine = c.requires.fine; within = c.requires.within; choices = c.requires.choices } in
    step-at start at.cursor new cs at.here.next c.in-Some.place c.seek.new.memo at.here.states (reverse (map states_of at.frames.items)) on f r.memo_same r.way

pub search-smaller-in_default-2 : goal.search-smaller-in_default-2
search-smaller-in_default-2 g c =
    let at = c.search in
    let start = c.args.cursor.now in
    let cs = c.args.choices.now in
    let new = c.seek.new.cursor in
    let (from, (passed, kept, found)) = rw c.in-Some.is at c.in_ok-place.ensures.sought in
    let r = round g.R.Recorder.noted g.R.Recorder.grows g.met.R.Recorder.noted_stays start at.cursor at.cursor at.memo c.seek.new.memo cs at.invariant.used from at.here at.frames.items refl c.in_ok-place.ensures.reported at.invariant.same at.invariant.memo at.invariant.way at.invariant.searching at.invariant.heard at.invariant.opens passed kept in
    let f = round-follows r new c.in-Some.place found in
    let (noted, refuted, back) = rw c.in_default-2.is at c.in_ok-states.ensures.arrived in
    loop-known-lighter start at.cursor new c.arrive.new.cursor cs at.here.next c.in-Some.place c.next_place.result (map next_of at.frames.items) f c.next_place.ensures.past back

pub search-preserved-in_default-2 : goal.search-preserved-in_default-2
search-preserved-in_default-2 g c =
    let at = c.search in
    let start = c.args.cursor.now in
    let cs = c.args.choices.now in
    let new = c.seek.new.cursor in
    let (from, (passed, kept, found)) = rw c.in-Some.is at c.in_ok-place.ensures.sought in
    let r = round g.R.Recorder.noted g.R.Recorder.grows g.met.R.Recorder.noted_stays start at.cursor at.cursor at.memo c.seek.new.memo cs at.invariant.used from at.here at.frames.items refl c.in_ok-place.ensures.reported at.invariant.same at.invariant.memo at.invariant.way at.invariant.searching at.invariant.heard at.invariant.opens passed kept in
    let f = round-follows r new c.in-Some.place found in
    let (noted, refuted, back) = rw c.in_default-2.is at c.in_ok-states.ensures.arrived in
    let on : Grounds start.shape cs = record { fine = c.requires.fine; within = c.requires.within; choices = c.requires.choices } in
    let went = went-back start at.cursor new c.arrive.new.cursor cs at.here.next c.in-Some.place f back in
    let now = c.arrive.new.memo in
    let further = c.in_ok-states.ensures.further in
    let heard = round-known r now.recorder (note-on g.R.Recorder.noted g.R.Recorder.grows g.met.R.Recorder.noted_stays g.met.R.Recorder.grows_onward c.seek.new.memo.recorder now.recorder further.recorder)
    new c.arrive.new.cursor.path c.in-Some.place c.next_place.result c.silent_at-here.result noted.0 c.requires.choices found c.next_place.ensures c.silent_at-here.ensures noted.1 went.1 in
    record {
      same = went.0;
      used = at.invariant.used;
      spends = at.invariant.spends;
      memo = further.shape ∙ r.memo_same;
      way = subst (λ l. NameWay start.shape now.states (at.here.states ∷ reverse (map states_of at.frames.items)) l) (sym went.1)
          (way-further g.R.Recorder.grows start.shape c.seek.new.memo now (at.here.states ∷ reverse (map states_of at.frames.items)) at.cursor.path further r.way);
      searching = loop-known start at.cursor new c.arrive.new.cursor cs at.invariant.used at.here.next c.in-Some.place c.next_place.result (map next_of at.frames.items) on r.before f c.next_place.ensures refuted back;
      heard = heard.0;
      opens = heard.1;
      choices = at.invariant.choices;
      ready = ready-still start at.cursor new c.arrive.new.cursor cs at.here.next c.in-Some.place at.ready f r.same back at.invariant.ready;
    }

pub returns-in_default-spend-clause-reported : goal.returns-in_default-spend-clause-reported
returns-in_default-spend-clause-reported g c =
    let at = c.search in
    let start = c.args.cursor.now in
    let cs = c.args.choices.now in
    let new = c.seek.new.cursor in
    let (from, (passed, kept, found)) = rw c.in-Some.is at c.in_ok-place.ensures.sought in
    let r = round g.R.Recorder.noted g.R.Recorder.grows g.met.R.Recorder.noted_stays start at.cursor at.cursor at.memo c.seek.new.memo cs at.invariant.used from at.here at.frames.items refl c.in_ok-place.ensures.reported at.invariant.same at.invariant.memo at.invariant.way at.invariant.searching at.invariant.heard at.invariant.opens passed kept in
    let f = round-follows r new c.in-Some.place found in
    let unfull : IsFull (history_of new.shape) new.path → ⊥ = λ full. false≢true (sym c.if-full.false ∙ c.full.ensures.1 full) in
    spent-from g.row.N.Denot g.row.A.Denot (g.R.Recorder.noted c.arrive.new.memo.recorder) (objects_of start.shape) (history_of start.shape) start.path c.args.budget at.left at.invariant.used at.invariant.spends (rw c.in_default-spend.is at c.spend.ensures)
    (loop-spent start at.cursor new cs at.invariant.used at.here.next c.in-Some.place (reverse (map next_of at.frames.items)) r.before f unfull)

pub go_on-requires : goal.go_on-requires
go_on-requires g c =
    let at = c.search in
    let start = c.args.cursor.now in
    let cs = c.args.choices.now in
    let new = c.seek.new.cursor in
    let (from, (passed, kept, found)) = rw c.in-Some.is at c.in_ok-place.ensures.sought in
    let r = round g.R.Recorder.noted g.R.Recorder.grows g.met.R.Recorder.noted_stays start at.cursor at.cursor at.memo c.seek.new.memo cs at.invariant.used from at.here at.frames.items refl c.in_ok-place.ensures.reported at.invariant.same at.invariant.memo at.invariant.way at.invariant.searching at.invariant.heard at.invariant.opens passed kept in
    let f = round-follows r new c.in-Some.place found in
    let (named, stays) = rw c.in-Fresh.is at c.in_ok-states.ensures.arrived in
    subst (λ (v : CursorOf). IsReadyAfter at.ready v (slice_index_or cs c.in-Some.place no_choice).decision) (sym stays) (ready-on start at.cursor new cs at.here.next c.in-Some.place at.ready f r.same at.invariant.ready)

pub search-smaller : goal.search-smaller
search-smaller g c =
    let at = c.search in
    let start = c.args.cursor.now in
    let cs = c.args.choices.now in
    let new = c.seek.new.cursor in
    let (from, (passed, kept, found)) = rw c.in-Some.is at c.in_ok-place.ensures.sought in
    let r = round g.R.Recorder.noted g.R.Recorder.grows g.met.R.Recorder.noted_stays start at.cursor at.cursor at.memo c.seek.new.memo cs at.invariant.used from at.here at.frames.items refl c.in_ok-place.ensures.reported at.invariant.same at.invariant.memo at.invariant.way at.invariant.searching at.invariant.heard at.invariant.opens passed kept in
    let f = round-follows r new c.in-Some.place found in
    let (named, stays) = rw c.in-Fresh.is at c.in_ok-states.ensures.arrived in
    let frame : Frame = record { next = c.next_place.result; states = at.here.states; silent = c.silent_at-here.result } in
    let here = c.new-here-in-search.result in
    let frames = c.push.new.self.items in
    let made = c.make_room.ensures in
    let before = weight start.shape cs at.cursor.path at.here.next (map next_of at.frames.items) in
    subst (λ n. weight start.shape cs c.arrive.new.cursor.path n (map next_of c.make_room.new.frames.items) < before) (sym (room-next _ _ _ _ _ _ made))
    (subst (λ ns. weight start.shape cs c.arrive.new.cursor.path here.next ns < before) (sym (room-nexts _ _ _ _ _ _ made))
    (subst (λ (v : CursorOf). weight start.shape cs v.path here.next (map next_of frames) < before) (sym stays)
    (subst (λ (t : Frame). weight start.shape cs new.path t.next (map next_of frames) < before) (sym c.new-here-in-search.ensures)
    (loop-deeper-lighter start at.cursor new cs at.here.next c.in-Some.place c.next_place.result (map next_of at.frames.items) (map next_of frames) f c.next_place.ensures.past (more-frames next_of at.frames.items frames frame c.in_ok-push.ensures.items)))))

pub search-preserved : goal.search-preserved
search-preserved g c =
    let at = c.search in
    let start = c.args.cursor.now in
    let cs = c.args.choices.now in
    let new = c.arrive.new.cursor in
    let (from, (passed, kept, found)) = rw c.in-Some.is at c.in_ok-place.ensures.sought in
    let r = round g.R.Recorder.noted g.R.Recorder.grows g.met.R.Recorder.noted_stays start at.cursor at.cursor at.memo c.seek.new.memo cs at.invariant.used from at.here at.frames.items refl c.in_ok-place.ensures.reported at.invariant.same at.invariant.memo at.invariant.way at.invariant.searching at.invariant.heard at.invariant.opens passed kept in
    let (named, stays) = rw c.in-Fresh.is at c.in_ok-states.ensures.arrived in
    let was = c.seek.new.cursor in
    let unfull : IsFull (history_of was.shape) was.path → ⊥ = λ full. false≢true (sym c.if-full.false ∙ c.full.ensures.1 full) in
    let on : Grounds start.shape cs = record { fine = c.requires.fine; within = c.requires.within; choices = c.requires.choices } in
    let frame : Frame = record { next = c.next_place.result; states = at.here.states; silent = c.silent_at-here.result } in
    let now = c.arrive.new.memo in
    let here = c.new-here-in-search.result in
    let own = c.make_room.new.here in
    let later = c.make_room.new.frames.items in
    let made = c.make_room.ensures in
    let P = HasNote (g.R.Recorder.noted c.make_room.new.memo.recorder) in
    let further = c.in_ok-states.ensures.further in
    let there = subst (λ (v : CursorOf). FindsFirstGood at.cursor v cs from (Some c.in-Some.place)) (sym stays) found in
    let f = round-follows r new c.in-Some.place there in
    record {
      same = f.shape;
      used = at.invariant.used + 1;
      spends = spends-more c.args.budget at.left c.in-Some-spend.rest at.invariant.used at.invariant.spends (rw c.in-Some-spend.is at c.spend.ensures);
      memo = made.shape ∙ further.shape ∙ r.memo_same;
      way = room-way _ _ _ _ _ _ made start.shape new.path (subst (λ (t : Frame). NameWay start.shape now.states (t.states ∷ reverse (map states_of c.push.new.self.items)) new.path) (sym c.new-here-in-search.ensures)
          (way-deeper start.shape now.states at.here.states c.in-Fresh.states (map states_of at.frames.items) (map states_of c.push.new.self.items) at.cursor.path new.path f.choice.decision
          (way-further g.R.Recorder.grows start.shape c.seek.new.memo now (at.here.states ∷ reverse (map states_of at.frames.items)) at.cursor.path further r.way) f.path
          (subst (λ (s : ShapeOf). Names now.states c.in-Fresh.states (states_reached s new.path)) f.shape
          (subst (λ (v : CursorOf). Names now.states c.in-Fresh.states (states_reached v.shape v.path)) (sym stays) named))
          (more-frames states_of at.frames.items c.push.new.self.items frame c.in_ok-push.ensures.items)));
      searching = subst (λ n. IsSearching (objects_of start.shape) (history_of start.shape) start.path cs (at.invariant.used + 1) new.path n (reverse (map next_of later))) (sym (room-next _ _ _ _ _ _ made))
          (subst (λ ns. IsSearching (objects_of start.shape) (history_of start.shape) start.path cs (at.invariant.used + 1) new.path here.next (reverse ns)) (sym (room-nexts _ _ _ _ _ _ made))
          (subst (λ (t : Frame). IsSearching (objects_of start.shape) (history_of start.shape) start.path cs (at.invariant.used + 1) new.path t.next (reverse (map next_of c.push.new.self.items))) (sym c.new-here-in-search.ensures)
          (loop-deeper start at.cursor new cs at.invariant.used at.here.next c.in-Some.place c.next_place.result (map next_of at.frames.items) (map next_of c.push.new.self.items) on r.before f
          (subst (λ (v : CursorOf). IsFull (history_of v.shape) v.path → ⊥) (sym stays) unfull) c.next_place.ensures
          (more-frames next_of at.frames.items c.push.new.self.items frame c.in_ok-push.ensures.items))));
      heard = subst (λ n. IsHeard P start.shape cs new.path n own.silent) (sym (room-next _ _ _ _ _ _ made)) (subst (λ s. IsHeard P start.shape cs new.path here.next s) (sym (room-silent _ _ _ _ _ _ made))
          (subst (λ (t : Frame). IsHeard P start.shape cs new.path t.next t.silent) (sym c.new-here-in-search.ensures) (kept-none P start.shape cs new.path 0)));
      opens = room-opens _ _ _ _ _ _ made P start.shape cs new.path (subst (λ v. AreOpen (HasNote (g.R.Recorder.noted v)) start.shape cs (reverse c.push.new.self.items) new.path) (sym made.recorder)
          (round-deeper r now.recorder (note-on g.R.Recorder.noted g.R.Recorder.grows g.met.R.Recorder.noted_stays g.met.R.Recorder.grows_onward c.seek.new.memo.recorder now.recorder further.recorder) new c.in-Some.place c.next_place.result c.silent_at-here.result frame c.push.new.self.items c.requires.choices there
          c.next_place.ensures c.silent_at-here.ensures refl refl c.in_ok-push.ensures.items));
      choices = c.go_on.ensures.choices ∙ at.invariant.choices;
      ready = c.go_on.ensures.ready;
    }
