use Rattle.std.specs.Prelude.{Some, slice_get}
use Rattle.std.proofs.Common.{sym, ◌∙◌, ap, subst}
use Rattle.search_memo.specs.Memos.{MemoOf, states_reached, Names}
use Rattle.search_memo.proofs.MemoLemmas.{known-here}
use Rattle.search_memo.proofs.memo.Memo.share_refuted.Goals as goal

pub keep-requires : goal.keep-requires
keep-requires g c =
    let at = c.args.cursor.now in
    let i = c.self.inside in
    let same = ap (λ (m : MemoOf _). m.shape) c.self.view_is ∙ c.requires.shape in
    let noted = subst (λ (m : MemoOf _). g.R.Recorder.noted m.recorder c.args.note at.path) (sym c.self.view_is) c.requires.noted in
    let named = subst (λ (m : MemoOf _). Names m.states (Some c.args.states) (states_reached at.shape at.path)) (sym c.self.view_is) c.requires.named in
    known-here (g.R.Recorder.is_for i.recorder) (g.R.Recorder.noted i.recorder c.args.note) i.shape.now _ i.seen.items c.args.states c.in-Some.seen.now at c.placed-placed.result.now same c.self.invariant.1 c.self.invariant.2 (ap (λ l. slice_get l c.args.states) (sym c.deref.ensures.value) ∙ c.in-Some.ensures) c.prefix-good.ensures.good c.requires.refuted c.placed-placed.ensures named noted
