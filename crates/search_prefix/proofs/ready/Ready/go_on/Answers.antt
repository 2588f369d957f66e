use Rattle.std.specs.Prelude.{◌≡◌, Some, refl}
use Rattle.std.proofs.Common.{ap, subst, sym, ◌∙◌}
use Rattle.aud_order.specs.Shapes.{history_of}
use Rattle.search_memo.specs.Choices.{AreChoices}
use Rattle.search_prefix.specs.Readiness.{ReadyOf, HoldsBack}
use Rattle.search_prefix.proofs.Readiness.{left-on, left-on_none, choices-of, found-in}
use Rattle.search_prefix.proofs.ready.Ready.go_on.Goals.{in-Some, in_default}
use Rattle.search_prefix.proofs.ready.Ready.go_on.Goals as goal

pub begin_rows-requires : goal.begin_rows-requires
begin_rows-requires g c =
    let at = c.args.cursor.now in
    let old = c.args.self.now in
    let shape : old.shape ≡ at.shape = c.requires.1.1.all.shape in
    let choices : AreChoices (history_of at.shape) old.choices =
    choices-of old old at (subst (λ (v : ReadyOf). AreChoices (history_of v.shape) v.choices) c.self.view_is c.self.invariant.0) shape refl in
    let same : c.self.inside.shape.now ≡ at.shape = ap (λ (v : ReadyOf). v.shape) c.self.view_is ∙ shape in
    elim c.match-place.branch [
      | in-Some w ↦ subst (λ (v : ReadyOf). HoldsBack v at) (sym w.self-is)
          (left-on old w.set_row.new.self at c.args.decision w.in-Some.row choices c.requires
          (found-in c.args.decision.tx c.table.result.now c.self.inside.shape.now at.shape c.place.result (Some w.in-Some.row) c.place.ensures c.table.ensures same w.in-Some.is) w.set_row.ensures)
      | in_default w ↦ subst (λ (v : ReadyOf). HoldsBack v at) (sym w.self-is) (left-on_none old at c.args.decision c.requires)
    ]
