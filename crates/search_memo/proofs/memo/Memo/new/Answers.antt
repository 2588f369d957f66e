use Rattle.std.specs.Prelude.{Some, slice_get}
use Rattle.std.proofs.Common.{sym, ◌∙◌, ap}
use Rattle.aud_order.specs.Shapes.{history_of}
use Rattle.search_memo.specs.Memos.{entries_of}
use Rattle.search_memo.proofs.MemoLemmas.{true-none, no-first}
use Rattle.search_memo.proofs.memo.Memo.new.Goals as goal

pub invariant_of-result : goal.invariant_of-result
invariant_of-result g c = (true-none _ _ _ _ _ _ (ap (entries_of (history_of c.args.shape.now)) c.new-5.ensures) c.new-6.ensures.items c.new-3.ensures.items, c.requires, λ n s at. absurd (no-first n (Some s) (ap (λ l. slice_get l n) (sym c.new-7.ensures.items) ∙ at)))
