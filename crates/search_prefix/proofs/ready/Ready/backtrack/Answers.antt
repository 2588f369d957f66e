use Rattle.std.specs.Prelude.{◌≡◌, ◌-◌, ◌+◌, None, Some, false, refl}
use Rattle.std.proofs.Common.{ap, subst, sym, arith, ◌∙◌}
use Rattle.aud_order.specs.Shapes.{history_of}
use Rattle.search_memo.specs.Choices.{AreChoices}
use Rattle.search_prefix.specs.Readiness.{ReadyOf, IsReady, IsRowMarked}
use Rattle.search_prefix.proofs.Readiness.{ready-back, ready-back_none, ready-less, choices-of, found-in}
use Rattle.search_prefix.proofs.ready.Ready.backtrack.Goals.{in-Some, in_default}
use Rattle.search_prefix.proofs.ready.Ready.backtrack.Goals as goal

pub loop-self-init : goal.loop-self-init
loop-self-init g c =
    let at = c.args.cursor.now in
    let old = c.args.self.now in
    let choices : AreChoices (history_of at.shape) old.choices =
    choices-of old old at (subst (λ (v : ReadyOf). AreChoices (history_of v.shape) v.choices) c.self.view_is c.self.invariant.0) c.requires.all.shape refl in
    let same : c.self.inside.shape.now ≡ at.shape = ap (λ (v : ReadyOf). v.shape) c.self.view_is ∙ c.requires.all.shape in
    elim c.match-place.branch [
      | in-Some w ↦ record {
        choices = ap (λ (v : ReadyOf). v.choices) w.self-is ∙ w.set_row.ensures.choices;
        ready = subst (λ (v : ReadyOf). IsReady v at) (sym w.self-is)
            (ready-back old w.set_row.new.self at c.args.decision w.in-Some.row choices c.requires (found-in c.args.decision.tx c.table.result.now c.self.inside.shape.now at.shape c.place.result (Some w.in-Some.row) c.place.ensures c.table.ensures same w.in-Some.is) w.set_row.ensures);
      }
      | in_default w ↦ record {
        choices = ap (λ (v : ReadyOf). v.choices) w.self-is;
        ready = subst (λ (v : ReadyOf). IsReady v at) (sym w.self-is)
            (ready-back_none old at c.args.decision choices c.requires (found-in c.args.decision.tx c.table.result.now c.self.inside.shape.now at.shape c.place.result None c.place.ensures c.table.ensures same w.in_default.is));
      }
    ]

pub loop-self-preserved : goal.loop-self-preserved
loop-self-preserved g c =
    let at = c.args.cursor.now in
    let old = c.loop-self.self in
    let view = c.self-in-loop-self.view_is in
    let i = c.self-in-loop-self.inside in
    let n = i.begun - 1 in
    let more : old.begun ≡ n + 1 = sym (ap (λ (v : ReadyOf). v.begun) view) ∙ omega (arith, c.loop-self-test.true) in record {
      choices = c.set_row-in-loop-self-2.ensures.choices ∙ ap (λ (v : ReadyOf). v.choices) view ∙ c.loop-self.invariant.choices;
      ready = ready-less old (record { shape = i.shape.now; choices = i.choices.now; marks = i.marks; begun = n }) c.set_row-in-loop-self-2.new.self at n c.loop-self.invariant.ready more
          (sym c.is_enabled.ensures ∙ c.if-not-is_enabled.true) (λ j. record { shape = (view j).shape; choices = (view j).choices; marks = (view j).marks; begun = n })
          (subst (λ m. IsRowMarked (record { shape = i.shape.now; choices = i.choices.now; marks = i.marks; begun = n }) c.set_row-in-loop-self-2.new.self m false) (ap (λ (v : ReadyOf). v.begun) c.set_row-in-loop-self.view_is) c.set_row-in-loop-self-2.ensures);
    }
