use Rattle.aud_order.proofs.Moves.{silent-moves-forward}
use Rattle.aud_order.proofs.laws.silent_moves_forward.Goals as goal

pub returns : goal.returns
returns c = silent-moves-forward
