use Rattle.std.specs.Prelude.{slice_get}
use Rattle.std.proofs.Common.{sym, ◌∙◌, ap, subst}
use Rattle.std.proofs.lemmas.Option.{IfSome_then}
use Rattle.search_visited.specs.Visited.{entry, with_place}
use Rattle.search_memo.specs.Known.{IsKnown}
use Rattle.search_memo.specs.Memos.{MemoOf, IsRefutedEntry}
use Rattle.search_memo.proofs.MemoLemmas.{known-dead}
use Rattle.search_memo.proofs.memo.Memo.find_shared.Goals as goal

pub returns : goal.returns
returns g c =
    let i = c.self.inside in
    let seen = c.in_ok-seen.seen.now in
    let marks = with_place c.args.placed.now c.args.further in
    let there = ap (λ l. slice_get l c.args.number) (sym c.deref.ensures.value) ∙ c.in_ok-seen.ensures in
    IfSome_then c.find.result c.find.ensures
    (λ note known. subst (λ (m : MemoOf _). IsRefutedEntry m.shape m.states (g.R.Recorder.noted m.recorder note) (entry marks c.args.number)) c.self.view_is
    (known-dead (g.R.Recorder.noted i.recorder note) i.shape.now _ i.seen.items c.args.number seen marks c.self.invariant.2 there
    (subst (λ s. IsKnown i.shape.now (g.R.Recorder.noted i.recorder note) s.now marks) c.deref-2.ensures (known i.shape.now c.self.invariant.1))))
