use Rattle.std.specs.Prelude.{true, false, [], ◌∷◌, ◌++◌}
use Rattle.std.proofs.Common.{sym, ◌∙◌, ap}
use Rattle.aud_witness.specs.Configurations.{is_ended}
use Rattle.aud_witness.proofs.AgendaLemmas.{ends_from-step}
use Rattle.aud_witness.proofs.agenda.ends_of.Goals as goal
use Rattle.aud_witness.proofs.agenda.ends_of.Goals.{then-has_ended+in_ok-push, else-has_ended}

pub loop-place-preserved : goal.loop-place-preserved
loop-place-preserved g c =
    let rows = c.args.rows.now in
    let i = c.loop-place.place in
    let r = c.index-rows-place.result in
    let es = c.loop-place.ends.items in
    let test = sym (c.has_ended.ensures ∙ ap is_ended c.status.ensures) in
    elim c.if-has_ended.branch [
      | then-has_ended+in_ok-push w ↦
          ends_from-step rows i r es _ true c.loop-place-test.true c.index-rows-place.is c.loop-place.invariant (test ∙ w.if-has_ended.true)
          (ap (λ v. v.items) w.ends-is ∙ w.in_ok-push.ensures.items ∙ ap (λ m. es ++ record { last = m; row = i } ∷ []) w.last.ensures)
      | else-has_ended w ↦
          ends_from-step rows i r es _ false c.loop-place-test.true c.index-rows-place.is c.loop-place.invariant (test ∙ w.if-has_ended.false)
          (ap (λ v. v.items) w.ends-is)
    ]
