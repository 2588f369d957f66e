-- What contracts see of a world.
use Rattle.std.specs.Prelude.{◌≡◌, List, map}
use Rattle.std.specs.List.{AllByRecursion}
use Rattle.aud_event.specs.Meanings.{PlanOf}
use Rattle.aud_know.specs.Known.{KnowledgeOf, knowing}
use Rattle.aud_world.specs.Clouds.{Cloud}

-- nodes and the packets that they posted, all of one plan
pub record WorldOf : Type 0 where
  pub plan : PlanOf
  pub nodes : List KnowledgeOf
  pub packets : List KnowledgeOf

-- each node and each packet of the world is the normal form of its atoms
pub record IsWorldOf (w : WorldOf) (c : Cloud) : Type 0 where
  pub nodes : w.nodes ≡ map (knowing w.plan) c.nodes
  pub packets : w.packets ≡ map (knowing w.plan) c.packets

-- each has the plan
abbrev pub AreOfPlan : PlanOf → List KnowledgeOf → Type 0
AreOfPlan plan ks = AllByRecursion (λ k. k.plan ≡ plan) ks
