use Rattle.std.proofs.Common.{sym, refl}
use Rattle.aud_node.proofs.Own.{own_longer, mine_kept}
use Rattle.aud_node.proofs.pass.Pass.see.Goals as goal

pub invariant_of-self : goal.invariant_of-self
invariant_of-self g c =
    let me = c.self.inside in
    own_longer me.seat me.offers me.held.latest.front.log c.args.found.latest.front.log c.if-begins.ensures.1 c.self.invariant

pub returns-then-begins : goal.returns-then-begins
returns-then-begins g c =
    let me = c.self.inside in
    rw (← c.self.view_is) (
      c.if-begins.ensures.1,
      mine_kept me.seat me.offers me.held.latest.front.log c.args.found.latest.front.log c.if-begins.ensures.1 c.self.invariant,
      sym c.if-begins.ensures.0,
      refl,
      refl,
    )
