use Rattle.std.proofs.Common.{◌∙◌, ap}
use Rattle.std.proofs.lemmas.Result.{IfOk-weaker}
use Rattle.aud_history.specs.Table.{table_of}
use Rattle.aud_witness.specs.Configurations.{first_configuration}
use Rattle.aud_witness.proofs.WalkLemmas.{fits-from_limits, walk-judged, judged-shows}
use Rattle.aud_witness.proofs.showing.shows.Goals as goal

pub returns-clause-fault : goal.returns-clause-fault
returns-clause-fault g c =
    let h = c.args.history.now.events in
    IfOk-weaker c.place_all.result _ _ (λ r judged.
    walk-judged c.args.history.now.plan.objects h c.args.order.now c.decisions.result.now c.in_ok-placing.placing.agenda.rows c.in_ok-placing.placing.configuration r
    c.requires (fits-from_limits c.args.history.now.plan h c.events-sound.ensures.sound) c.decisions.ensures
    (ap (λ p. p.agenda.rows) c.in_ok-placing.ensures ∙ c.in_ok-agenda.ensures)
    (ap (λ p. p.configuration) c.in_ok-placing.ensures ∙ (ap (λ l. first_configuration l c.plan.result.now.objects) c.in_ok-agenda.ensures ∙ ap (λ p. first_configuration (table_of h) p.objects) c.plan.ensures))
    judged) c.place_all.ensures

pub returns-clause-shown : goal.returns-clause-shown
returns-clause-shown g c =
    IfOk-weaker c.place_all.result _ _ (judged-shows c.args.history.now.plan.objects c.args.history.now.events c.args.order.now) (returns-clause-fault g c)
