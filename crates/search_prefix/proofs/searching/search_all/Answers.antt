use Rattle.std.proofs.Common.{sym, ◌∙◌, ap, subst}
use Rattle.aud_history.specs.WellFormed.{IsWellFormed}
use Rattle.aud_history.specs.FirstFault.{IsWithinLimits}
use Rattle.aud_witness.specs.Orders.{Refuted}
use Rattle.aud_order.specs.Shapes.{ShapeOf, objects_of, plan_of, history_of}
use Rattle.aud_order.specs.Cursors.{CursorOf}
use Rattle.search_memo.specs.Memos.{MemoOf}
use Rattle.search_prefix.proofs.searching.search_all.Goals as goal

pub search_from-requires-clause-fine : goal.search_from-requires-clause-fine
search_from-requires-clause-fine g c = subst (λ (v : CursorOf). IsWellFormed (history_of v.shape)) (sym c.requires.root) c.history-sound.ensures.sound

pub search_from-requires-clause-within : goal.search_from-requires-clause-within
search_from-requires-clause-within g c = subst (λ (v : CursorOf). IsWithinLimits (plan_of v.shape) (history_of v.shape)) (sym c.requires.root) c.plan-within.ensures.sound

pub returns-in-Refuted : goal.returns-in-Refuted
returns-in-Refuted g c =
    let reported = rw c.in-Refuted.is at c.in_ok-ended.ensures.reported in
    let refuted = subst (λ (v : CursorOf). Refuted (objects_of v.shape) (history_of v.shape) v.path) c.requires.root reported.0 in
    let recorder = c.into_recorder-recorder.result in
    let noted = subst (λ (v : CursorOf). g.R.Recorder.noted recorder c.in-Refuted.note v.path) c.requires.root (subst (λ r. g.R.Recorder.noted r c.in-Refuted.note c.args.cursor.now.path) (sym c.into_recorder-recorder.ensures.recorder) reported.1) in
    let memo = c.in_ok-ended.ensures.shape ∙ ap (λ (m : MemoOf _). m.shape) c.new-memo.ensures in
    ((λ (q, shows). refuted q shows), (subst (λ (s : ShapeOf). g.R.Recorder.is_for recorder s) memo c.into_recorder-recorder.ensures.own, noted))
