use Rattle.aud_split.proofs.Searched.{search_said}
use Rattle.aud_split.proofs.laws.search_is_said.Goals as goal

pub returns : goal.returns
returns g c = search_said g.row.A.Denot
