-- All nodes of an audit.
use Rattle.std.specs.Prelude.{◌≡◌, List}
use Rattle.aud_event.specs.Meanings.{PlanOf}
use Rattle.aud_node.specs.Meanings.{NodeOf}
use Rattle.cli_audit.specs.Seats.{AreCrews, AreCollectors, AreOf, CrewOf, CollectorOf, Each}
use Rattle.aud_order.specs.Shapes.{plan_of}
use Rattle.cli_findings.specs.declared.searching.TaskSearch.{TaskSearch}

-- nodes of the plan whose numbers are their places, with their collectors and their crews
pub record IsMesh (plan : PlanOf) (nodes : List NodeOf) (collectors : List CollectorOf) (crews : List CrewOf) : Type 0 where
  pub numbered : Each (λ k n. n.number ≡ k) nodes
  pub planned : AreOf plan nodes
  pub collectors_at : AreCollectors nodes collectors
  pub crews_at : AreCrews nodes crews

-- the same of the plan that a search is of
abbrev pub IsMeshFor : TaskSearch → List NodeOf → List CollectorOf → List CrewOf → Type 0
IsMeshFor s nodes collectors crews = IsMesh (plan_of s.shape.value) nodes collectors crews
