use Rattle.node_pool.proofs.Moves.{takes_one}
use Rattle.node_pool.proofs.worker.draw.Goals as goal

pub steal_as-requires-clause-takes : goal.steal_as-requires-clause-takes
steal_as-requires-clause-takes g c = takes_one _ _ c.loop.invariant.2
