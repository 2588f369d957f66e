use Rattle.std.proofs.Common.{◌≡◌, subst, rules}
use Rattle.aud_event.specs.Meanings.{PlanOf}
use Rattle.aud_node.specs.Logs.{SaysOpaque, state_of}
use Rattle.aud_node.proofs.node.Node.verdict.Goals as goal

pub returns-in-Ok-clause-opaque : goal.returns-in-Ok-clause-opaque
returns-in-Ok-clause-opaque g c =
    let is : g.J.Fleet.plan c.verdict.new.self.number ≡ c.args.self.now.plan = search rules in
    subst (λ (plan : PlanOf). SaysOpaque (state_of plan c.verdict.new.self.view) c.in-Ok.verdict) is c.in-Ok.ensures.opaque
