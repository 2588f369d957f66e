use Rattle.std.specs.Prelude.{length}
use Rattle.std.proofs.Common.{sym, ◌∙◌, ap}
use Rattle.std.proofs.lemmas.List.{drop-map}
use Rattle.aud_history.specs.Table.{transactions}
use Rattle.aud_order.specs.Shapes.{history_of}
use Rattle.search_visited.specs.Visited.{entry_of}
use Rattle.search_memo.specs.Memos.{entries_of}
use Rattle.search_memo.proofs.MemoLemmas.{true-fewer}
use Rattle.search_memo.proofs.memo.Memo.forget_older.Goals as goal

pub invariant_of-self : goal.invariant_of-self
invariant_of-self g c =
    let i = c.self.inside in
    let h = history_of i.shape.now in
    let f = entry_of (length (transactions h)) in
    let gone = c.forget_older-gone.result in (
      true-fewer _ _ _ (entries_of h i.visited) _ _ _ _ gone (ap (entries_of h) c.forget_older-gone.ensures.rest ∙ sym (drop-map f gone i.visited)) c.forget_first.ensures c.self.invariant.0,
      c.self.invariant.1,
      c.self.invariant.2,
    )
