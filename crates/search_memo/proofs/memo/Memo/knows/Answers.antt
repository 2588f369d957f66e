use Rattle.std.specs.Prelude.{◌≡◌}
use Rattle.std.proofs.Common.{◌∙◌, ap, subst}
use Rattle.std.proofs.lemmas.Option.{IfSome_then}
use Rattle.aud_history.specs.WellFormed.{IsWellFormed}
use Rattle.aud_history.specs.FirstFault.{IsWithinLimits}
use Rattle.aud_order.specs.Shapes.{ShapeOf, plan_of, history_of}
use Rattle.search_memo.specs.Memos.{MemoOf}
use Rattle.search_memo.proofs.MemoLemmas.{dead-refuted, dead-alike}
use Rattle.search_memo.proofs.memo.Memo.knows.Goals as goal

pub returns-clause-refuted : goal.returns-clause-refuted
returns-clause-refuted g c =
    let at = c.args.cursor.now in
    let own : c.self.inside.shape.now ≡ at.shape = ap (λ (m : MemoOf _). m.shape) c.self.view_is ∙ c.requires.shape in
    IfSome_then c.find_refuted.result c.find_refuted.ensures
    (λ note dead. dead-refuted c.args.self.now.shape _ _ c.placed.result.now c.in-Some.number at c.requires.shape (subst (λ (s : ShapeOf). IsWellFormed (history_of s)) own c.history-sound.ensures.sound)
    (subst (λ (s : ShapeOf). IsWithinLimits (plan_of s) (history_of s)) own c.plan-within.ensures.sound) c.prefix-good.ensures.good c.placed.ensures (rw c.in-Some.is at c.requires.named) dead)

pub returns-clause-alike : goal.returns-clause-alike
returns-clause-alike g c =
    IfSome_then c.find_refuted.result c.find_refuted.ensures
    (λ note dead. dead-alike c.args.self.now.shape _ _ c.placed.result.now c.in-Some.number c.args.cursor.now c.requires.shape c.placed.ensures (rw c.in-Some.is at c.requires.named) dead)
