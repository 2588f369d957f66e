use Rattle.node_pool.proofs.Moves.{put_mark}
use Rattle.node_pool.proofs.queue.add_marks.Goals as goal

pub push_as-requires-clause-pushes : goal.push_as-requires-clause-pushes
push_as-requires-clause-pushes g c = put_mark _ _ c.loop-mark.invariant.2.0
