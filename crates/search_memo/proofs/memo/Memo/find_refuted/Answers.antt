use Rattle.std.specs.Prelude.{◌≡◌, length, map, Some, slice_get}
use Rattle.std.proofs.Common.{sym, ◌∙◌, ap, subst}
use Rattle.aud_history.specs.Table.{transactions}
use Rattle.aud_order.specs.Shapes.{history_of}
use Rattle.search_visited.specs.Visited.{entry, with_place, entry_of}
use Rattle.search_memo.specs.Memos.{MemoOf, IsRefutedEntry}
use Rattle.search_memo.proofs.MemoLemmas.{note-of}
use Rattle.search_memo.proofs.memo.Memo.find_refuted.Goals as goal

pub returns : goal.returns
returns g c =
    let i = c.self.inside in
    let marks = with_place c.args.placed.now c.args.further in
    let rows = c.requires.rows ∙ ap (λ (m : MemoOf _). length (transactions (history_of m.shape))) (sym c.self.view_is) in
    let there = subst (λ m. slice_get (map (entry_of m) i.visited) c.in_ok-place.place ≡ Some (entry marks c.args.number)) rows c.in_ok-place.ensures in
    note-of _ _ _ _ _ _ c.in_ok-place.place (entry marks c.args.number) _ (λ note. IsRefutedEntry c.args.self.now.shape c.args.self.now.states (g.R.Recorder.noted c.args.self.now.recorder note) (entry marks c.args.number)) c.self.invariant.0 there
    (c.note_at.ensures ∙ ap (λ l. slice_get l c.in_ok-place.place) c.deref.ensures.value)
    (λ note dead. subst (λ (m : MemoOf _). IsRefutedEntry m.shape m.states (g.R.Recorder.noted m.recorder note) (entry marks c.args.number)) c.self.view_is dead)
