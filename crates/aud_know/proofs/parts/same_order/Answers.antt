use Rattle.aud_know.proofs.Staying.{same_lists}
use Rattle.aud_know.proofs.parts.same_order.Goals as goal

pub returns : goal.returns
returns g c = rw c.eq.ensures (same_lists c.args.x.now c.args.y.now)
