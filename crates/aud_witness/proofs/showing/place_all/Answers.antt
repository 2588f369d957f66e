use Rattle.std.proofs.Common.{◌∙◌, ap, refl}
use Rattle.aud_witness.proofs.WalkLemmas.{missing, walk-on, walk-stops, walk-ends}
use Rattle.aud_witness.proofs.showing.place_all.Goals as goal

pub loop-decision-init : goal.loop-decision-init
loop-decision-init g c = refl

pub loop-decision-preserved : goal.loop-decision-preserved
loop-decision-preserved g c =
    c.loop-decision.invariant
    ∙ walk-on c.loop-decision.placing c.place.new.self c.args.decisions.now c.loop-decision.decision-index _ _ _ c.loop-decision-test.true refl c.in_ok-place.ensures.placed c.in-Ok.is

pub returns-in-Err : goal.returns-in-Err
returns-in-Err g c =
    c.loop-decision.invariant
    ∙ walk-stops c.loop-decision.placing c.place.new.self c.args.decisions.now c.loop-decision.decision-index _ _ _ c.in-Err.fault c.loop-decision-test.true refl c.in_ok-place.ensures.placed c.in-Err.is

pub returns-in-Some : goal.returns-in-Some
returns-in-Some g c =
    c.loop-decision.invariant
    ∙ (walk-ends c.loop-decision.placing.agenda.rows c.loop-decision.placing.configuration c.args.decisions.now c.loop-decision.decision-index _ c.loop-decision-test.false c.least_unplaced.ensures
    ∙ ap missing c.in-Some.is)

pub returns-in-None : goal.returns-in-None
returns-in-None g c =
    c.loop-decision.invariant
    ∙ (walk-ends c.loop-decision.placing.agenda.rows c.loop-decision.placing.configuration c.args.decisions.now c.loop-decision.decision-index _ c.loop-decision-test.false c.least_unplaced.ensures
    ∙ ap missing c.in-None.is)
