use Rattle.std.specs.Prelude.{◌≡◌, ℕ, Option}
use Rattle.std.proofs.Common.{◌∙◌, ap, subst}
use Rattle.std.proofs.lemmas.Option.{IfSome_then}
use Rattle.aud_history.specs.WellFormed.{IsWellFormed}
use Rattle.aud_history.specs.FirstFault.{IsWithinLimits}
use Rattle.aud_order.specs.Shapes.{ShapeOf, plan_of, history_of}
use Rattle.search_memo.specs.Memos.{MemoOf, IsNext}
use Rattle.search_memo.proofs.MemoLemmas.{known-after, alike-after}
use Rattle.search_memo.proofs.memo.Memo.knows_after.Goals as goal

pub returns-clause-refuted : goal.returns-clause-refuted
returns-clause-refuted g c =
    let at = c.args.cursor.now in
    let next = subst (λ (o : Option ℕ). IsNext c.args.self.now o c.args.choice.now at) c.in-Some.is c.requires in
    let same : c.self.inside.shape.now ≡ at.shape = ap (λ (m : MemoOf _). m.shape) c.self.view_is ∙ next.shape in
    IfSome_then c.find_refuted.result c.find_refuted.ensures
    (λ note dead. known-after c.args.self.now _ c.in-Some.before c.in-Some-after.after c.args.choice.now at c.placed.result.now (subst (λ (s : ShapeOf). IsWellFormed (history_of s)) same c.history-sound.ensures.sound)
    (subst (λ (s : ShapeOf). IsWithinLimits (plan_of s) (history_of s)) same c.plan-within.ensures.sound) c.prefix-good.ensures.good next c.placed.ensures c.in-Some-after.ensures dead)

pub returns-clause-alike : goal.returns-clause-alike
returns-clause-alike g c =
    let at = c.args.cursor.now in
    let next = subst (λ (o : Option ℕ). IsNext c.args.self.now o c.args.choice.now at) c.in-Some.is c.requires in
    let same : c.self.inside.shape.now ≡ at.shape = ap (λ (m : MemoOf _). m.shape) c.self.view_is ∙ next.shape in
    IfSome_then c.find_refuted.result c.find_refuted.ensures
    (λ note dead. alike-after c.args.self.now _ c.in-Some.before c.in-Some-after.after c.args.choice.now at c.placed.result.now (subst (λ (s : ShapeOf). IsWellFormed (history_of s)) same c.history-sound.ensures.sound)
    (subst (λ (s : ShapeOf). IsWithinLimits (plan_of s) (history_of s)) same c.plan-within.ensures.sound) c.prefix-good.ensures.good next c.placed.ensures c.in-Some-after.ensures dead)
