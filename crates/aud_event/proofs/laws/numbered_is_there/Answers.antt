use Rattle.aud_event.proofs.Names.{numbered_there}
use Rattle.aud_event.proofs.laws.numbered_is_there.Goals as goal

pub returns : goal.returns
returns c = numbered_there
