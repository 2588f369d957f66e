use Rattle.std.specs.Prelude.{List, Some}
use Rattle.std.proofs.Common.{sym, ◌∙◌, subst}
use Rattle.aud_kinds.specs.Objects.{ObjState}
use Rattle.aud_order.specs.Shapes.{history_of}
use Rattle.search_memo.specs.StoredStates.{LeadsTo, states_of}
use Rattle.search_memo.specs.Memos.{MemoOf, Names}
use Rattle.search_memo.proofs.MemoLemmas.{true-states, seen-states}
use Rattle.search_memo.proofs.memo.Memo.number.Goals as goal

pub keep_states-number-requires : goal.keep_states-number-requires
keep_states-number-requires g c =
    subst (λ (m : MemoOf _). LeadsTo (history_of m.shape) m.states c.args.step c.store.result.now.now) (sym c.self.view_is)
    (subst (λ (s : List ObjState). LeadsTo (history_of c.args.self.now.shape) c.args.self.now.states c.args.step s) (sym c.store.ensures) c.requires)

pub invariant_of-self : goal.invariant_of-self
invariant_of-self g c = (true-states _ _ _ _ _ _ _ c.keep_states-number.ensures.grown c.self.invariant.0, c.self.invariant.1, seen-states _ _ _ c.keep_states-number.ensures.grown c.self.invariant.2)

pub see-requires : goal.see-requires
see-requires g c =
    subst (λ (s : List ObjState). Names (states_of (history_of c.self.inside.shape.now) c.keep_states-number.new.kept.items) (Some c.in-Some.number) s) (c.store.ensures ∙ sym c.store-in-Some.ensures) (rw c.in-Some.is at c.keep_states-number.ensures.there)

pub invariant_of-self-in-None : goal.invariant_of-self-in-None
invariant_of-self-in-None g c = (true-states _ _ _ _ _ _ _ c.keep_states-number.ensures.grown c.self.invariant.0, c.self.invariant.1, seen-states _ _ _ c.keep_states-number.ensures.grown c.self.invariant.2)
