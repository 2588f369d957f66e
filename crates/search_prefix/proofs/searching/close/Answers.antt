use Rattle.std.specs.Prelude.{◌≡◌, [], refl}
use Rattle.std.proofs.Common.{sym, ◌∙◌, ap, subst, arith}
use Rattle.std.proofs.lemmas.List.{nil_from_length}
use Rattle.search_memo.specs.declared.recorder.RefutedBy.{RefutedBy}
use Rattle.search_memo.specs.Memos.{MemoOf, states_reached, Names, IsFurther}
use Rattle.search_memo.specs.Recorders.{IsReason}
use Rattle.search_prefix.proofs.Recording.{reported-alone, reported-further}
use Rattle.search_prefix.proofs.searching.close.Goals as goal

pub note-requires-clause-reason : goal.note-requires-clause-reason
note-requires-clause-reason g c =
    let at = c.args.cursor.now in
    subst (λ (r : RefutedBy _). IsReason (g.R.Recorder.noted c.args.memo.now.recorder) at.shape at.path r) (sym c.reason_of.ensures) c.requires.reason

pub returns-in_default-clause-closed : goal.returns-in_default-clause-closed
returns-in_default-clause-closed g c =
    let frames = c.args.frames.now in
    let empty = rw c.in_default.is at c.pop.ensures.cases in
    let none : frames.items ≡ [] = nil_from_length frames.items (omega (arith, empty.0, frames.ok.0)) in
    (none, c.in_ok-note.ensures.noted, refl)

pub returns-in_default-clause-further : goal.returns-in_default-clause-further
returns-in_default-clause-further g c = reported-alone g.R.Recorder.grows c.args.memo.now c.note.new.self c.in_ok-note.ensures.reported

pub learn-requires-clause-shape : goal.learn-requires-clause-shape
learn-requires-clause-shape g c = c.in_ok-note.ensures.reported.shape ∙ c.requires.shape

pub learn-requires-clause-named : goal.learn-requires-clause-named
learn-requires-clause-named g c =
    let at = c.args.cursor.now in
    subst (λ l. Names l c.args.here.now.states (states_reached at.shape at.path)) (sym c.in_ok-note.ensures.reported.states) c.requires.named

pub returns-clause-closed : goal.returns-clause-closed
returns-clause-closed g c =
    let path = c.args.cursor.now.path in
    let note = c.in_ok-note.note in
    let stays = ap (λ (m : MemoOf _). m.recorder) c.backtrack.ensures.memo ∙ c.learn.ensures.recorder in
    let noted = subst (λ r. g.R.Recorder.noted r note path) (sym stays) c.in_ok-note.ensures.noted in
    (rw c.in-Some.is at c.pop.ensures.items, (note, noted), c.backtrack.ensures.back)

pub returns-clause-further : goal.returns-clause-further
returns-clause-further g c =
    subst (λ (m : MemoOf _). IsFurther g.R.Recorder.grows c.args.memo.now m) (sym c.backtrack.ensures.memo)
    (reported-further g.R.Recorder.grows c.args.memo.now c.note.new.self c.learn.new.self c.in_ok-note.ensures.reported c.learn.ensures)
