use Rattle.std.proofs.Common.{◌≡◌, sym, ◌∙◌, subst}
use Rattle.std.proofs.lemmas.Bool.{false≢true}
use Rattle.aud_history.specs.WellFormed.{IsWellFormed}
use Rattle.aud_history.specs.FirstFault.{IsWithinLimits}
use Rattle.aud_witness.specs.Orders.{IsFull}
use Rattle.aud_order.specs.Shapes.{ShapeOf, plan_of, history_of}
use Rattle.search_prefix.proofs.Steps.{cursor_at, whole-witness, whole-spent, whole-reported}
use Rattle.search_prefix.proofs.searching.search_under.Goals as goal

pub returns-then-full-clause-reported : goal.returns-then-full-clause-reported
returns-then-full-clause-reported g c =
    let at = c.args.cursor.now in
    let own : at ≡ cursor_at c.args.shape.now at.path = λ i. cursor_at (c.requires.shape i) at.path in
    whole-witness c.args.shape.now at at.path c.in_ok-witness.witness own c.prefix-good.ensures.good (c.full.ensures.0 c.if-full.true) (c.in_ok-witness.ensures ∙ c.prefix.ensures.prefix)

pub returns-in_default-clause-reported : goal.returns-in_default-clause-reported
returns-in_default-clause-reported g c =
    let at = c.args.cursor.now in
    let own : at ≡ cursor_at c.args.shape.now at.path = λ i. cursor_at (c.requires.shape i) at.path in
    let unfull : IsFull (history_of at.shape) at.path → ⊥ = λ full. false≢true (sym c.if-full.false ∙ c.full.ensures.1 full) in
    whole-spent g.row.A.Denot c.args.shape.now at at.path c.args.budget own c.prefix-good.ensures.good unfull (rw c.in_default.is at c.spend.ensures)

pub returns-clause-reported : goal.returns-clause-reported
returns-clause-reported g c =
    let at = c.args.cursor.now in
    let own : at ≡ cursor_at c.args.shape.now at.path = λ i. cursor_at (c.requires.shape i) at.path in
    whole-reported _ g.row.A.Denot (g.R.Recorder.noted c.search_from.new.memo.recorder) c.args.shape.now at at.path c.args.budget c.in-Some.left c.in_ok-ended.ended c.outcome.result own (rw c.in-Some.is at c.spend.ensures) c.in_ok-ended.ensures.reported c.outcome.ensures

pub search_from-requires-clause-fine : goal.search_from-requires-clause-fine
search_from-requires-clause-fine g c = subst (λ (s : ShapeOf). IsWellFormed (history_of s)) (sym c.requires.shape) c.history-sound.ensures.sound

pub search_from-requires-clause-within : goal.search_from-requires-clause-within
search_from-requires-clause-within g c = subst (λ (s : ShapeOf). IsWithinLimits (plan_of s) (history_of s)) (sym c.requires.shape) c.plan-within.ensures.sound
