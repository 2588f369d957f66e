use Rattle.std.proofs.Common.{sym, ◌∙◌, ap, subst}
use Rattle.search_memo.specs.Memos.{MemoOf, IsGrown, IsFurther, IsStep}
use Rattle.search_prefix.proofs.Recording.{further-grown, further-reported}
use Rattle.search_prefix.proofs.searching.arrive.Goals as goal

pub follow-states-requires : goal.follow-states-requires
follow-states-requires g c = subst (λ (m : MemoOf _). IsStep m c.args.from c.args.choice.now c.args.cursor.now) (sym c.touch.ensures) c.requires

pub knows-requires-clause-shape : goal.knows-requires-clause-shape
knows-requires-clause-shape g c = c.follow-states.ensures.grown.shape ∙ ap (λ (m : MemoOf _). m.shape) c.touch.ensures ∙ c.requires.shape

pub returns-in_default-clause-further : goal.returns-in_default-clause-further
returns-in_default-clause-further g c =
    subst (λ (m : MemoOf _). IsFurther g.R.Recorder.grows m c.follow-states.new.self) c.touch.ensures
    (further-grown g.R.Recorder.grows g.met.R.Recorder.grows_from_itself c.touch.new.self c.follow-states.new.self c.follow-states.ensures.grown)

pub returns-clause-arrived : goal.returns-clause-arrived
returns-clause-arrived g c =
    let path = c.args.cursor.now.path in
    let noted = subst (λ (m : MemoOf _). g.R.Recorder.noted m.recorder c.in_ok-note.field-0 path) (sym c.take_back.ensures.memo) c.in_ok-note.ensures.noted in
    ((c.in_ok-note.field-0, noted), c.in-Some.ensures.refuted, c.take_back.ensures.back)

pub returns-clause-further : goal.returns-clause-further
returns-clause-further g c =
    subst (λ (m : MemoOf _). IsFurther g.R.Recorder.grows c.args.memo.now m) (sym c.take_back.ensures.memo)
    (further-reported g.R.Recorder.grows c.args.memo.now c.follow-states.new.self c.note.new.self (subst (λ (m : MemoOf _). IsGrown m c.follow-states.new.self) c.touch.ensures c.follow-states.ensures.grown) c.in_ok-note.ensures.reported)
