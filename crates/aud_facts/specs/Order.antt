-- Facts in their order.
use Rattle.std.specs.Prelude.{List}
use Rattle.std.specs.List.Sorted.{IsStrictlySortedBy}
use Rattle.aud_event.specs.declared.fact.Fact.{Fact}
use Rattle.aud_event.specs.contracts.fact.FactOrd.TheImpl as fact

-- each is below the next, so none stands twice
abbrev pub AreOrdered : List Fact → Type 0
AreOrdered facts = IsStrictlySortedBy fact.ghosts.cmp facts
