use Rattle.aud_event.proofs.Names.{number_of-own}
use Rattle.aud_event.proofs.laws.number_is_own.Goals as goal

pub returns : goal.returns
returns c = number_of-own
