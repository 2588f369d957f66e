use mathlib.Core.List.{IsPrefix}
use Rattle.aud_node.proofs.Own.{own_longer}
use Rattle.aud_node.proofs.pass.Pass.catch_up.Goals as goal

pub invariant_of-self : goal.invariant_of-self
invariant_of-self g c =
    let me = c.self.inside in
    let view : IsPrefix me.held.latest.front.log c.args.held.latest.front.log = rw (← c.self.view_is) at c.requires.view in
    own_longer me.seat me.offers me.held.latest.front.log c.args.held.latest.front.log view c.self.invariant
