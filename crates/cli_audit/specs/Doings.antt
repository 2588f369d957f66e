-- What collectors and crews have done where memory was not refused to them.
use Rattle.std.specs.Prelude.{◌≡◌, ◌++◌, ◌∷◌, [], ℕ, false, List, All, slice_index_or}
use Rattle.std.specs.declared.alloc.Global.{Global}
use Rattle.aud_event.specs.Meanings.{PlanOf}
use Rattle.aud_facts.specs.Sets.{FactsOf}
use Rattle.aud_facts.specs.Shares.{share_of}
use Rattle.aud_know.specs.Known.{knowing_facts}
use Rattle.aud_know.specs.declared.item.Item.{Item}
use Rattle.aud_know.specs.declared.item.Item.TheVariants as item
use Rattle.aud_node.specs.Logs.{state_of}
use Rattle.aud_node.specs.Meanings.{PassOf, mine}
use Rattle.aud_gossip.specs.Deltas.{joined}
use Rattle.cli_audit.specs.Seats.{CollectorOf, CrewOf}

-- memory was refused to none of them
abbrev pub AreDone : List CollectorOf → List CrewOf → Type 0
AreDone collectors crews = All (λ d. d.failed ≡ false) collectors × All (λ c. c.failed ≡ false) crews

-- what the first pass of the crew sees was taken to be posted
abbrev pub HasPosted : PlanOf → CrewOf → CrewOf → Type 0
HasPosted plan old new = (d : PassOf) → new.taken ≡ joined old.taken (state_of plan (slice_index_or new.passes 0 d).view)

-- the item is what is known of these facts alone
abbrev pub IsOfFacts : FactsOf → Item Global → Type 0
IsOfFacts facts (item.Fact f) = ⊥
IsOfFacts facts (item.Finding g) = ⊥
IsOfFacts facts (item.Known k) = k.value ≡ knowing_facts facts

-- the pass offered one item more: what is known of the facts of the node of that number, of so many nodes
abbrev pub HasOfferedShare : FactsOf → ℕ → ℕ → PassOf → PassOf → Type 0
HasOfferedShare facts nodes number old new =
    (i : Item Global) × ((mine new ≡ mine old ++ i ∷ []) × IsOfFacts (record { plan = facts.plan; facts = share_of nodes number facts.facts }) i)
