use Rattle.std.specs.Prelude.{◌≡◌, List}
use Rattle.std.proofs.Common.{sym, ◌∙◌, ap, subst}
use Rattle.aud_witness.specs.declared.decision.Decision.{Decision}
use Rattle.aud_witness.specs.Orders.{IsGood}
use Rattle.aud_order.specs.Shapes.{ShapeOf, objects_of, history_of}
use Rattle.search_memo.specs.Memos.{MemoOf}
use Rattle.search_memo.specs.Recorders.{IsReason}
use Rattle.search_memo.proofs.MemoLemmas.{true-noted}
use Rattle.search_memo.proofs.memo.Memo.note.Goals as goal

pub note-requires : goal.note-requires
note-requires g c =
    let at = c.args.cursor.now in
    let i = c.self.inside in
    let same : i.shape.now ≡ at.shape = ap (λ (m : MemoOf _). m.shape) c.self.view_is ∙ c.requires.shape in
    let path = c.prefix.ensures.prefix in
    record {
      shape = at.shape;
      own = subst (λ (s : ShapeOf). g.R.Recorder.is_for i.recorder s) same c.self.invariant.1;
      good = subst (λ (l : List Decision). IsGood (objects_of at.shape) (history_of at.shape) l) (sym path) c.prefix.ensures.good;
      refuted = subst (λ (m : MemoOf _). IsReason (g.R.Recorder.noted m.recorder) at.shape c.prefix.result.now c.args.reason) (sym c.self.view_is)
          (subst (λ (l : List Decision). IsReason (g.R.Recorder.noted c.args.self.now.recorder) at.shape l c.args.reason) (sym path) c.requires.reason);
    }

pub invariant_of-self : goal.invariant_of-self
invariant_of-self g c =
    let grows = c.note.ensures.grows in
    (true-noted _ _ _ _ _ _ _ (λ note p was. g.met.R.Recorder.noted_stays _ _ note p grows was) c.self.invariant.0, g.met.R.Recorder.still_for _ _ _ grows c.self.invariant.1, c.self.invariant.2)
