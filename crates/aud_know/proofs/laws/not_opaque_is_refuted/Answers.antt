use Rattle.aud_know.proofs.Judging.{not_opaque_refuted}
use Rattle.aud_know.proofs.laws.not_opaque_is_refuted.Goals as goal

pub returns : goal.returns
returns g c = not_opaque_refuted c.quiet_is_no_conflict.ensures c.closed_is_refuted.ensures g.row.A.Denot
