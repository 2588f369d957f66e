use Rattle.std.proofs.Common.{◌≡◌, drop}
use Rattle.aud_witness.specs.Walks.{walk_fault}
use Rattle.aud_witness.proofs.showing.place_all.Given as goal

abbrev pub invariant-loop-decision : goal.invariant-loop-decision
invariant-loop-decision g l =
    walk_fault l.fn.placing.agenda.rows l.fn.placing.configuration l.decisions ≡ walk_fault l.placing.agenda.rows l.placing.configuration (drop l.decision-index l.decisions)
