use Rattle.aud_gossip.proofs.Joining.{last_join}
use Rattle.aud_gossip.proofs.laws.last_is_join.Goals as goal

pub returns : goal.returns
returns c = last_join c.norm_absorbs.ensures c.norm_is_of_set.ensures
