use Rattle.std.proofs.Common.{◌≡◌, IfOk, subst, rules}
use Rattle.aud_know.specs.Known.{KnowledgeOf}
use Rattle.aud_node.specs.Logs.{SaysOpaque, state_of}
use Rattle.aud_node.proofs.pass.Pass.verdict.Goals as goal

pub returns-clause-opaque : goal.returns-clause-opaque
returns-clause-opaque g c =
    let is : c.deref.result.now ≡ state_of (g.J.Fleet.plan c.look.new.self.number) c.look.new.self.view = search rules in
    subst (λ (k : KnowledgeOf). IfOk c.verdict.result (λ v. SaysOpaque k v)) is c.verdict.ensures.opaque
