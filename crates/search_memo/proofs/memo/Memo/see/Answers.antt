use Rattle.std.specs.Prelude.{Some, is_ok, length}
use Rattle.std.proofs.Common.{sym, ◌∙◌, ap, subst}
use Rattle.aud_order.specs.Shapes.{history_of}
use Rattle.search_memo.specs.StoredStates.{states_of}
use Rattle.search_memo.specs.Memos.{MemoOf, Names, AreSeen}
use Rattle.search_memo.proofs.MemoLemmas.{seen-push}
use Rattle.search_memo.proofs.memo.Memo.see.Goals as goal

pub invariant_of-self : goal.invariant_of-self
invariant_of-self g c =
    let i = c.self.inside in
    (c.self.invariant.0, c.self.invariant.1, subst (λ l. AreSeen (states_of (history_of i.shape.now) i.kept.items) l) (sym c.reserve.ensures.items) c.self.invariant.2)

pub invariant_of-self-then-is_short : goal.invariant_of-self-then-is_short
invariant_of-self-then-is_short g c =
    let i = c.self.inside in
    let items = c.reserve.ensures.items in
    let named = subst (λ (m : MemoOf _). Names m.states (Some c.args.number) c.args.store.now.now) (sym c.self.view_is) c.requires in (
      c.self.invariant.0,
      c.self.invariant.1,
      seen-push _ c.reserve.new.list.items c.push.new.self.items c.seen_of-seen.result c.args.number c.args.store.now.now (is_ok c.push.result) c.push.ensures.items (c.if-number-len.false ∙ c.len.ensures ∙ i.seen.ok.0 ∙ ap length (sym items)) named
          c.seen_of-seen.ensures (subst (λ l. AreSeen (states_of (history_of i.shape.now) i.kept.items) l) (sym items) c.self.invariant.2),
    )

pub invariant_of-self-else-is_short : goal.invariant_of-self-else-is_short
invariant_of-self-else-is_short g c =
    let i = c.self.inside in
    let items = c.reserve.ensures.items in
    let named = subst (λ (m : MemoOf _). Names m.states (Some c.args.number) c.args.store.now.now) (sym c.self.view_is) c.requires in (
      c.self.invariant.0,
      c.self.invariant.1,
      seen-push _ c.reserve.new.list.items c.push.new.self.items c.seen_of-seen.result c.args.number c.args.store.now.now (is_ok c.push.result) c.push.ensures.items (c.if-number-len.false ∙ c.len.ensures ∙ i.seen.ok.0 ∙ ap length (sym items)) named
          c.seen_of-seen.ensures (subst (λ l. AreSeen (states_of (history_of i.shape.now) i.kept.items) l) (sym items) c.self.invariant.2),
    )
