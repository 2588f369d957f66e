use Rattle.aud_history.proofs.Events.{IsWellFormed-beginning}
use Rattle.aud_history.proofs.laws.beginnings_are_well_formed.Goals as goal

pub returns : goal.returns
returns c = IsWellFormed-beginning
