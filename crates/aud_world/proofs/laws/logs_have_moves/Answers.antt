use Rattle.aud_world.proofs.Giving.{has_moves}
use Rattle.aud_world.proofs.laws.logs_have_moves.Goals as goal

-- a sender for each item
pub returns : goal.returns
returns g c = λ plan log t. has_moves plan log t
