use Rattle.std.proofs.Common.{◌∙◌, ap, subst, ◌↔◌, IsTrue}
use Rattle.aud_event.specs.Meanings.{PlanOf}
use Rattle.aud_cover.specs.Closings.{IsCovered}
use Rattle.aud_know.specs.Known.{KnowledgeOf}
use Rattle.aud_node.specs.Logs.{state_of}
use Rattle.aud_node.proofs.pass.Pass.knows.Goals as goal

pub returns-clause-knows : goal.returns-clause-knows
returns-clause-knows g c =
    let held = c.self.inside.held in
    let is = c.deref.ensures ∙ (held.latest.is ∙ ap (λ (plan : PlanOf). state_of plan held.latest.front.log) held.planned) in
    rw (← c.self.view_is) (subst (λ (k : KnowledgeOf). IsTrue c.knows.result ↔ IsCovered k.held.cover c.args.prefix.now) is c.knows.ensures)
