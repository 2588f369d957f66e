use Rattle.aud_order.proofs.Moves.{configurations-decide}
use Rattle.aud_order.proofs.laws.configurations_decide.Goals as goal

pub returns : goal.returns
returns c = configurations-decide
