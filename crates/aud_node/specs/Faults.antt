-- When a node does not do what it is asked.
use Rattle.std.specs.Prelude.{◌≡◌, ◌≢◌, ℕ, ◌<◌, ◌≤◌, List, length, All, Any, slice_index_or}
use Rattle.std.specs.declared.alloc.Global.{Global}
use Rattle.aud_know.specs.declared.item.Item.{Item}
use Rattle.aud_know.specs.Items.{IsOfPlan}
use Rattle.aud_node.specs.Meanings.{NodeOf, PassOf, IsOfNode}
use Rattle.aud_node.specs.declared.fault.StartFault.{StartFault}
use Rattle.aud_node.specs.declared.fault.StartFault.TheVariants as start
use Rattle.aud_node.specs.declared.fault.OfferFault.{OfferFault}
use Rattle.aud_node.specs.declared.fault.OfferFault.TheVariants as offer
use Rattle.aud_node.specs.declared.fault.ReadFault.{ReadFault}
use Rattle.aud_node.specs.declared.fault.ReadFault.TheVariants as read
use Rattle.aud_node.specs.declared.fault.CloseFault.{CloseFault}
use Rattle.aud_node.specs.declared.fault.CloseFault.TheVariants as close

-- a node has 1 to 32 seats
abbrev pub IsSeats : ℕ → Type 0
IsSeats seats = (1 ≤ seats) × (seats ≤ 32)

-- the item is of the node's plan, and the pass of the node
abbrev pub MayOffer : NodeOf → PassOf → Item Global → Type 0
MayOffer n p item = IsOfPlan n.plan item × IsOfNode n p

-- the fault of an offer: the plan is looked at first, then the node, and out of memory is reported only where neither is
abbrev pub IsOfferFault : NodeOf → PassOf → Item Global → OfferFault → Type 0
IsOfferFault n p item offer.PlanMismatch = IsOfPlan n.plan item → ⊥
IsOfferFault n p item offer.WrongNode = IsOfPlan n.plan item × (p.number ≢ n.number)
IsOfferFault n p item offer.OutOfMemory = MayOffer n p item

-- the fault of a reading
abbrev pub IsReadFault : NodeOf → PassOf → ReadFault → Type 0
IsReadFault n p read.WrongNode = p.number ≢ n.number
IsReadFault n p read.OutOfMemory = IsOfNode n p

-- both passes are of the node
abbrev pub MayMeet : NodeOf → PassOf → PassOf → Type 0
MayMeet n p q = IsOfNode n p × IsOfNode n q

-- the fault of a meeting
abbrev pub IsMeetFault : NodeOf → PassOf → PassOf → ReadFault → Type 0
IsMeetFault n p q read.WrongNode = MayMeet n p q → ⊥
IsMeetFault n p q read.OutOfMemory = MayMeet n p q

-- the pass has the seat at the node of the number
abbrev pub HasSeat : ℕ → ℕ → PassOf → Type 0
HasSeat number seat p = (p.number ≡ number) × (p.seat ≡ seat)

-- there is a pass for each seat, of so many, of the node of the number
abbrev pub HasSeats : ℕ → ℕ → List PassOf → Type 0
HasSeats number seats passes = (k : ℕ) → k < seats → Any (HasSeat number k) passes

-- no pass has the seat
abbrev pub IsMissing : ℕ → ℕ → List PassOf → Type 0
IsMissing number seat passes = All (λ p. HasSeat number seat p → ⊥) passes

-- each pass is of the node of the number
abbrev pub AreAt : ℕ → List PassOf → Type 0
AreAt number passes = All (λ p. p.number ≡ number) passes

-- each pass before the index is of the node of the number
abbrev pub AreAtBefore : ℕ → List PassOf → ℕ → Type 0
AreAtBefore number passes index = (i : ℕ) (d : PassOf) → i < index → (slice_index_or passes i d).number ≡ number

-- the pass at the index is the first that is not of the node
abbrev pub IsFirstForeign : ℕ → List PassOf → ℕ → Type 0
IsFirstForeign number passes index = (index < length passes) × AreAtBefore number passes index × ((d : PassOf) → (slice_index_or passes index d).number ≢ number)

-- the passes of all seats are there, and no others
abbrev pub MayClose : NodeOf → List PassOf → Type 0
MayClose n passes = HasSeats n.number n.seats passes × AreAt n.number passes

-- why a node is not closed: the least seat whose pass is missing, else the first pass of another node; out of memory is
-- reported only where neither is
abbrev pub IsCloseFault : NodeOf → List PassOf → CloseFault → Type 0
IsCloseFault n passes (close.PassMissing seat) = (seat < n.seats) × HasSeats n.number seat passes × IsMissing n.number seat passes
IsCloseFault n passes (close.ForeignPass index) = HasSeats n.number n.seats passes × IsFirstForeign n.number passes index
IsCloseFault n passes close.OutOfMemory = MayClose n passes

-- the numbers of the faults
abbrev pub start_fault_number : StartFault → ℕ
start_fault_number start.SeatRange = 1
start_fault_number start.OutOfMemory = 2
start_fault_number start.NoPlace = 3

abbrev pub offer_fault_number : OfferFault → ℕ
offer_fault_number offer.PlanMismatch = 1
offer_fault_number offer.OutOfMemory = 2
offer_fault_number offer.WrongNode = 3

abbrev pub read_fault_number : ReadFault → ℕ
read_fault_number read.OutOfMemory = 1
read_fault_number read.WrongNode = 2

abbrev pub close_fault_number : CloseFault → ℕ
close_fault_number (close.PassMissing seat) = 1
close_fault_number close.OutOfMemory = 2
close_fault_number (close.ForeignPass index) = 3
