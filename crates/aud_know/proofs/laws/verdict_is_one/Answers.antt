use Rattle.aud_know.proofs.Judging.{verdict_one}
use Rattle.aud_know.proofs.laws.verdict_is_one.Goals as goal

pub returns : goal.returns
returns g c = verdict_one g.row.A.Denot
