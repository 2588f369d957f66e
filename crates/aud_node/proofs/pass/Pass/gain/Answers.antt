use Rattle.std.proofs.Common.{◌≤◌, ◌+◌, length, arith}
use Rattle.aud_node.specs.Logs.{own}
use Rattle.aud_node.proofs.Own.{own_le}
use Rattle.aud_node.proofs.pass.Pass.gain.Goals as goal

pub overflow_add-self : goal.overflow_add-self
overflow_add-self g c =
    let counted : c.self.inside.offers + 1 ≤ length (own c.self.inside.seat c.args.held.latest.front.log) = rw (← c.self.view_is) at c.requires.counted in
    omega (arith, counted, own_le c.self.inside.seat c.args.held.latest.front.log, c.requires.small)
