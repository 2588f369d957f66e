use Rattle.std.proofs.Common.{sym, subst}
use Rattle.search_memo.specs.Memos.{MemoOf, IsTransition}
use Rattle.search_memo.proofs.MemoLemmas.{true-transition}
use Rattle.search_memo.proofs.memo.Memo.remember_transition.Goals as goal

pub invariant_of-self : goal.invariant_of-self
invariant_of-self g c = (
  true-transition _ _ _ _ _ c.self.inside.transitions.items c.keep_transition.new.transitions.items c.args.transition c.keep_transition.ensures
      (subst (λ (m : MemoOf _). IsTransition m.shape m.states c.args.transition) (sym c.self.view_is) c.requires) c.self.invariant.0,
  c.self.invariant.1,
  c.self.invariant.2,
)
