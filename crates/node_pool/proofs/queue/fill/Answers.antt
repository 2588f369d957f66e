use Rattle.std.proofs.Common.{ap}
use Rattle.node_pool.proofs.Moves.{put_task}
use Rattle.node_pool.proofs.queue.fill.Goals as goal

pub push_as-requires-clause-pushes : goal.push_as-requires-clause-pushes
push_as-requires-clause-pushes g c = put_task _ _ _ (ap (λ v. v.fresh) c.loop-task.invariant.2) (ap (λ v. v.parts) c.loop-task.invariant.2)
