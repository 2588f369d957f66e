-- What the receiving of packets adds to the offers of a pass, and why it stops.
use Rattle.std.specs.Prelude.{◌≡◌, ◌≢◌, ℕ, ◌+◌, ◌++◌, ◌∷◌, [], Bool, MatchBool, List, length, All, Some, None}
use Rattle.std.specs.declared.alloc.Global.{Global}
use Rattle.std.specs.declared.option.Option.{Option}
use mathlib.Core.List.{IsPrefix}
use Rattle.aud_event.specs.Meanings.{PlanOf}
use Rattle.aud_know.specs.declared.item.Item.{Item}
use Rattle.aud_know.specs.declared.item.Item.TheVariants as item
use Rattle.aud_node.specs.Meanings.{NodeOf, PassOf, IsOfNode, mine}
use Rattle.aud_node.specs.declared.pass.Packet.{Packet}
use Rattle.aud_node.specs.declared.fault.OfferFault.{OfferFault}
use Rattle.aud_node.specs.declared.fault.OfferFault.TheVariants as offer
use Rattle.aud_gossip.specs.declared.receiving.Received.{Received}
use Rattle.aud_gossip.specs.declared.receiving.Stopped.{Stopped}

-- the packet is of the plan
abbrev pub HasPlan : PlanOf → Packet → Type 0
HasPlan plan p = p.known.value.plan ≡ plan

-- the item is what a packet of the plan knows
abbrev pub IsKnownOfPlan : PlanOf → Item Global → Type 0
IsKnownOfPlan plan (item.Known k) = k.value.plan ≡ plan
IsKnownOfPlan plan (item.Fact f) = ⊥
IsKnownOfPlan plan (item.Finding g) = ⊥

-- the new list is the old one and so many packets of the plan
abbrev pub AddsPackets : PlanOf → List (Item Global) → List (Item Global) → ℕ → Type 0
AddsPackets plan old new count = (items : List (Item Global)) × (new ≡ old ++ items) × (length items ≡ count) × All (IsKnownOfPlan plan) items

-- the pass's offers that were answered Ok are the old ones and so many packets of the plan
abbrev pub HasOffered : PlanOf → PassOf → PassOf → ℕ → Type 0
HasOffered plan old new count = AddsPackets plan (mine old) (mine new) count × (new.offers ≡ old.offers + count)

-- the pass's offers that were answered Ok are the old ones and what the packet knows
abbrev pub HasOfferedIt : Packet → PassOf → PassOf → Type 0
HasOfferedIt p old new = (mine new ≡ mine old ++ item.Known p.known ∷ []) × (new.offers ≡ old.offers + 1)

-- the test says whether the packet is of the plan, and was offered; else the pass is as it was
abbrev pub ReportsWhetherOffered : Bool → PlanOf → Packet → PassOf → PassOf → Type 0
ReportsWhetherOffered test plan p old new = MatchBool test (HasPlan plan p × HasOfferedIt p old new) ((HasPlan plan p → ⊥) × (new ≡ old))

-- the same pass, whose view begins with the old one
abbrev pub GoesFurther : PassOf → PassOf → Type 0
GoesFurther old new = IsPrefix old.view new.view × (new.number ≡ old.number) × (new.seat ≡ old.seat)

-- nothing was received
abbrev pub IsNothing : Received → Type 0
IsNothing r = (r.taken ≡ 0) × (r.foreign ≡ 0)

-- the packet is there, and is of the plan
abbrev pub IsBack : PlanOf → Option Packet → Type 0
IsBack plan found = (p : Packet) × (found ≡ Some p) × HasPlan plan p

-- a pass of another node is reported before anything is received, and no packet is handed back; out of memory is reported of a
-- pass of the node, and hands a packet of the plan back
abbrev pub IsStopFor : NodeOf → PassOf → Option Packet → Received → OfferFault → Type 0
IsStopFor n p packet received offer.WrongNode = (p.number ≢ n.number) × (packet ≡ None) × IsNothing received
IsStopFor n p packet received offer.OutOfMemory = IsOfNode n p × IsBack n.plan packet
IsStopFor n p packet received offer.PlanMismatch = ⊥

-- why the receiving stopped
abbrev pub IsStop : NodeOf → PassOf → Stopped → Type 0
IsStop n p s = IsStopFor n p s.packet s.received s.fault
