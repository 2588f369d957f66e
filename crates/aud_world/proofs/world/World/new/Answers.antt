use Rattle.std.proofs.Common.{refl, sym, ap, subst, ◌∙◌, List, [], length}
use Rattle.std.proofs.lemmas.List.{length-replicate}
use Rattle.aud_know.specs.Known.{KnowledgeOf, knowing}
use Rattle.aud_world.specs.Worlds.{AreOfPlan}
use Rattle.aud_world.proofs.Gaining.{map_replicate, of_plan_replicate}
use Rattle.aud_world.proofs.world.World.new.Goals as goal

-- every node has the plan, and there is no packet
pub invariant_of-result : goal.invariant_of-result
invariant_of-result g c = (
  subst (λ (ks : List KnowledgeOf). AreOfPlan c.in_ok-plan.plan.value ks) (sym c.in_ok-nodes.ensures) (of_plan_replicate c.in_ok-plan.plan.value (knowing c.in_ok-plan.plan.value []) c.args.nodes refl),
  subst (λ (ks : List KnowledgeOf). AreOfPlan c.in_ok-plan.plan.value ks) (sym c.new-2.ensures.items) tt,
)

-- nothing is known, and nothing is posted
pub returns-clause-first : goal.returns-clause-first
returns-clause-first g c = record {
  nodes = c.in_ok-nodes.ensures ∙ map_replicate (knowing c.in_ok-plan.plan.value) c.args.nodes [];
  packets = c.new-2.ensures.items;
}

pub returns-clause-plan : goal.returns-clause-plan
returns-clause-plan g c = c.in_ok-plan.ensures.ok

pub returns-clause-len : goal.returns-clause-len
returns-clause-len g c = ap length c.in_ok-nodes.ensures ∙ length-replicate c.args.nodes (knowing c.in_ok-plan.plan.value [])
