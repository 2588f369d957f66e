-- Why a move is not made.
use Rattle.std.specs.Prelude.{◌≡◌, ℕ, ◌<◌, List, [], ◌∷◌, length, None, Result, Ok, Err, take}
use Rattle.aud_event.specs.Meanings.{PlanOf}
use Rattle.aud_event.specs.Facts.{first_fact_fault}
use Rattle.aud_know.specs.declared.fault.KnowFault.{KnowFault}
use Rattle.aud_know.specs.declared.fault.KnowFault.TheVariants as know_fault
use Rattle.aud_world.specs.Clouds.{Cloud}
use Rattle.aud_world.specs.Moves.{after_move}
use Rattle.aud_world.specs.Worlds.{WorldOf, IsWorldOf}
use Rattle.aud_world.specs.declared.moves.Move.{Move}
use Rattle.aud_world.specs.declared.moves.Move.TheVariants.{Feed, Find, Post, Deliver}
use Rattle.aud_world.specs.declared.moves.MoveFault.{MoveFault}
use Rattle.aud_world.specs.declared.moves.MoveFault.TheVariants.{NoNode, NoPacket, PlanMismatch, OutOfMemory}

-- the node of a move: who is fed, finds, posts, or gets the packet
abbrev pub node_of : {X : Type 0} → Move X → ℕ
node_of (Feed n f) = n
node_of (Find n g) = n
node_of (Post n) = n
node_of (Deliver k n) = n

-- the packet that is to be delivered was posted
abbrev pub HasPacket : {X : Type 0} → WorldOf → Move X → Type 0
HasPacket w (Feed n f) = Unit {0}
HasPacket w (Find n g) = Unit {0}
HasPacket w (Post n) = Unit {0}
HasPacket w (Deliver k n) = k < length w.packets

-- the fact passes the plan's check, and the finding is of the plan
abbrev pub IsOfWorld : {X : Type 0} → WorldOf → Move X → Type 0
IsOfWorld w (Feed n f) = first_fact_fault w.plan f ≡ None
IsOfWorld w (Find n g) = g.facts.plan ≡ w.plan
IsOfWorld w (Post n) = Unit {0}
IsOfWorld w (Deliver k n) = Unit {0}

-- with ample memory the move is made
pub record IsAllowed {X : Type 0} (w : WorldOf) (m : Move X) : Type 0 where
  pub node : node_of m < length w.nodes
  pub packet : HasPacket w m
  pub of_world : IsOfWorld w m

-- the fault that is reported of a move: the first that holds, and out of memory only where no other does
abbrev pub IsFaultOf : {X : Type 0} → WorldOf → Move X → MoveFault → Type 0
IsFaultOf w m NoNode = node_of m < length w.nodes → ⊥
IsFaultOf w m NoPacket = (node_of m < length w.nodes) × (HasPacket w m → ⊥)
IsFaultOf w m PlanMismatch = (node_of m < length w.nodes) × HasPacket w m × (IsOfWorld w m → ⊥)
IsFaultOf w m OutOfMemory = IsAllowed w m

-- each of the moves is allowed in a world of the plan that stands for what the moves before it leave
abbrev pub AreAllowed : {X : Type 0} → PlanOf → Cloud → List (Move X) → Type 0
AreAllowed plan c [] = Unit {0}
AreAllowed plan c (m ∷ ms) = ((w : WorldOf) → w.plan ≡ plan → IsWorldOf w c → IsAllowed w m) × AreAllowed plan (after_move c m) ms

-- the moves that were made: all, or those before the one that was refused
abbrev pub made : {X U : Type 0} → Result U (ℕ × MoveFault) → List (Move X) → List (Move X)
made (Ok _) moves = moves
made (Err e) moves = take e.0 moves

-- a fault's number
abbrev pub fault_number : MoveFault → ℕ
fault_number NoNode = 1
fault_number NoPacket = 2
fault_number PlanMismatch = 3
fault_number OutOfMemory = 4

-- the fault of a move whose item is not taken
abbrev pub fault_of : KnowFault → MoveFault
fault_of know_fault.PlanMismatch = PlanMismatch
fault_of know_fault.OutOfMemory = OutOfMemory

-- why one node does not take: not of its plan, or out of memory though it is
abbrev pub IsTakeFault : Type 0 → MoveFault → Type 0
IsTakeFault IsOfPlan NoNode = ⊥
IsTakeFault IsOfPlan NoPacket = ⊥
IsTakeFault IsOfPlan PlanMismatch = IsOfPlan → ⊥
IsTakeFault IsOfPlan OutOfMemory = IsOfPlan

-- one node takes exactly what is of its plan, or is refused memory for it
abbrev pub ReportsWhetherTaken : {U : Type 0} → Type 0 → Result U MoveFault → Type 0
ReportsWhetherTaken IsOfPlan (Ok _) = IsOfPlan
ReportsWhetherTaken IsOfPlan (Err fault) = IsTakeFault IsOfPlan fault
