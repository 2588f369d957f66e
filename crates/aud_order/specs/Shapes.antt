-- How contracts see a shape.
use Rattle.std.specs.Prelude.{List}
use Rattle.aud_event.specs.Meanings.{Declared, PlanOf}
use Rattle.aud_history.specs.Histories.{History}
use Rattle.aud_facts.specs.Sets.{SealedOf}

-- a sealed set of facts
pub record ShapeOf : Type 0 where
  pub sealed : SealedOf

abbrev pub plan_of : ShapeOf → PlanOf
plan_of s = s.sealed.facts.plan

abbrev pub objects_of : ShapeOf → List Declared
objects_of s = s.sealed.facts.plan.objects

abbrev pub history_of : ShapeOf → History
history_of s = s.sealed.history
