use Rattle.aud_know.proofs.Judging.{opaque_shown}
use Rattle.aud_know.proofs.laws.opaque_is_shown.Goals as goal

pub returns : goal.returns
returns g c = opaque_shown c.quiet_is_no_conflict.ensures g.row.A.Denot
