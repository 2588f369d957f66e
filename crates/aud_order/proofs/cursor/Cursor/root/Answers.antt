use Rattle.std.specs.Prelude.{refl}
use Rattle.std.proofs.Common.{sym, ◌∙◌, ap, subst, arith}
use Rattle.aud_event.specs.Meanings.{PlanOf}
use Rattle.aud_history.specs.Table.{table_of}
use Rattle.aud_witness.specs.Configurations.{first_configuration}
use Rattle.aud_witness.specs.Placings.{PlacingOf}
use Rattle.aud_order.specs.Shapes.{objects_of, history_of}
use Rattle.aud_order.specs.Cursors.{Leads}
use Rattle.aud_order.proofs.cursor.Cursor.root.Goals as goal

pub invariant_of-result : goal.invariant_of-result
invariant_of-result g c =
    let shape = c.args.shape.now in
    let rows = table_of (history_of shape) in
    let is = c.in_ok-placing.ensures in
    let objects = ap (λ (p : PlanOf). p.objects) c.plan.ensures.plan in
    record {
      fine = c.history-sound.ensures.sound;
      fits = c.plan.ensures.sound;
      rows = ap (λ (p : PlacingOf). p.agenda.rows) is ∙ c.agenda.ensures;
      leads = subst (λ (p : PlacingOf). Leads rows (first_configuration rows (objects_of shape)) p.path p.configuration p.past) (sym is) (refl, (λ i. first_configuration (c.agenda.ensures i) (objects i)));
      opens = λ k below. absurd (omega arith);
    }
