use Rattle.aud_gossip.proofs.Joining.{deltas_enough}
use Rattle.aud_gossip.proofs.laws.deltas_are_enough.Goals as goal

pub returns : goal.returns
returns c = deltas_enough
