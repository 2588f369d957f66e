use Rattle.std.specs.Prelude.{◌≡◌, ℕ, Option, Some}
use Rattle.std.proofs.Common.{◌∙◌, ap, subst}
use Rattle.aud_history.specs.WellFormed.{IsWellFormed}
use Rattle.aud_history.specs.FirstFault.{IsWithinLimits}
use Rattle.aud_order.specs.Shapes.{ShapeOf, plan_of, history_of}
use Rattle.aud_order.specs.Cursors.{CursorOf}
use Rattle.search_memo.specs.declared.choice.Choice.{Choice}
use Rattle.search_memo.specs.Memos.{MemoOf, IsStep}
use Rattle.search_memo.proofs.MemoLemmas.{after-names, step-transitions, step-transition}
use Rattle.search_memo.proofs.memo.Memo.follow.Goals as goal

at-number : {V : Type 0} (memo : MemoOf V) (from : Option ℕ) (n : ℕ) (c : Choice) (at : CursorOf) → from ≡ Some n → IsStep memo from c at → IsStep memo (Some n) c at
at-number memo from n c at is step = subst (λ (m : Option ℕ). IsStep memo m c at) is step

pub returns-in-Some-after-clause-named : goal.returns-in-Some-after-clause-named
returns-in-Some-after-clause-named g c =
    let memo = c.args.self.now in
    let at = c.args.cursor.now in
    let same : c.self.inside.shape.now ≡ at.shape = ap (λ (m : MemoOf _). m.shape) c.self.view_is ∙ c.requires.shape in
    after-names memo c.in-Some.before c.in-Some-after.to c.args.choice.now at (subst (λ (s : ShapeOf). IsWellFormed (history_of s)) same c.history-sound.ensures.sound)
    (subst (λ (s : ShapeOf). IsWithinLimits (plan_of s) (history_of s)) same c.plan-within.ensures.sound) c.prefix-good.ensures.good
    (at-number memo c.args.from c.in-Some.before c.args.choice.now at c.in-Some.is c.requires) c.in-Some-after.ensures

pub number-requires-2 : goal.number-requires-2
number-requires-2 g c =
    let memo = c.args.self.now in
    let at = c.args.cursor.now in
    let same : c.self.inside.shape.now ≡ at.shape = ap (λ (m : MemoOf _). m.shape) c.self.view_is ∙ c.requires.shape in
    step-transitions memo c.in-Some.before c.args.choice.now at (subst (λ (s : ShapeOf). IsWellFormed (history_of s)) same c.history-sound.ensures.sound)
    (subst (λ (s : ShapeOf). IsWithinLimits (plan_of s) (history_of s)) same c.plan-within.ensures.sound) c.prefix-good.ensures.good
    (at-number memo c.args.from c.in-Some.before c.args.choice.now at c.in-Some.is c.requires) (rw c.in_default-after.is at c.after.ensures)

pub remember_transition-requires : goal.remember_transition-requires
remember_transition-requires g c =
    let memo = c.args.self.now in
    let at = c.args.cursor.now in
    let same : c.self.inside.shape.now ≡ at.shape = ap (λ (m : MemoOf _). m.shape) c.self.view_is ∙ c.requires.shape in
    step-transition memo c.number-2.new.self c.in-Some.before c.in_ok-to.to c.args.choice.now at (subst (λ (s : ShapeOf). IsWellFormed (history_of s)) same c.history-sound.ensures.sound)
    (subst (λ (s : ShapeOf). IsWithinLimits (plan_of s) (history_of s)) same c.plan-within.ensures.sound) c.prefix-good.ensures.good
    (at-number memo c.args.from c.in-Some.before c.args.choice.now at c.in-Some.is c.requires) (rw c.in_default-after.is at c.after.ensures) c.in_ok-to.ensures.grown c.in_ok-to.ensures.named
