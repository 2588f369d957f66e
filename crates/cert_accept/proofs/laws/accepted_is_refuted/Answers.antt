use Rattle.cert_accept.proofs.Refutes.{accepted-refuted}
use Rattle.cert_accept.proofs.laws.accepted_is_refuted.Goals as goal

pub returns : goal.returns
returns g c = accepted-refuted c.shows_is_full_and_good.ensures c.silent_moves_forward.ensures c.configurations_decide.ensures
