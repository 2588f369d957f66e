use Rattle.aud_gossip.proofs.Worlds.{of_worlds}
use Rattle.aud_gossip.proofs.laws.nodes_are_of_worlds.Goals as goal

-- from the law that was called
pub returns : goal.returns
returns c = of_worlds c.logs_are_moves.ensures
