use Rattle.std.proofs.Common.{◌≡◌}
use Rattle.aud_node.specs.Meanings.{IsOfNode}
use Rattle.aud_gossip.specs.Receiving.{GoesFurther, HasOffered}
use Rattle.aud_gossip.proofs.receiving.receive_all.Given as goal

-- what was taken was offered, and the pass is at the node
abbrev pub invariant-loop : goal.invariant-loop
invariant-loop g l = HasOffered l.node.plan l.initial.pass l.pass l.received.taken × GoesFurther l.initial.pass l.pass × IsOfNode l.node l.initial.pass × (l.offers ≡ l.initial.pass.offers)
