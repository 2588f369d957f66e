-- Nodes, their collectors and their crews, by place.
use Rattle.std.specs.Prelude.{◌≡◌, ◌<◌, ◌+◌, ℕ, Bool, List, All, length, slice_index_or, Option, IfSome}
use Rattle.logbook.specs.Pages.{Book}
use Rattle.aud_event.specs.Meanings.{PlanOf}
use Rattle.aud_know.specs.Known.{KnowledgeOf}
use Rattle.aud_node.specs.Faults.{HasSeat}
use Rattle.aud_node.specs.Meanings.{NodeOf, OpenedOf, PassOf}
use Rattle.aud_gossip.specs.Receiving.{GoesFurther}
use Rattle.node_pool.specs.Workers.{IsCrew}

-- # What contracts see

-- of a collector: its pass, and whether memory was refused to it
pub record CollectorOf : Type 0 where
  pub pass : PassOf
  pub failed : Bool

-- of a crew: its passes, how many senders it has, the join of what it posted, and whether memory was refused to it
pub record CrewOf : Type 0 where
  pub passes : List PassOf
  pub senders : ℕ
  pub taken : Option KnowledgeOf
  pub failed : Bool

-- # By place

-- P holds of each item and its place
abbrev pub Each : {T : Type 0} → (ℕ → T → Type 0) → List T → Type 0
Each {T} P xs = (k : ℕ) (d : T) → k < length xs → P k (slice_index_or xs k d)

-- there are as many items in both lists, and P holds of those at the same place
pub record AreMatched {S T : Type 0} (P : S → T → Type 0) (xs : List S) (ys : List T) : Type 0 where
  pub count : length ys ≡ length xs
  pub each : (k : ℕ) (x : S) (y : T) → k < length xs → P (slice_index_or xs k x) (slice_index_or ys k y)

-- # Seats

-- new histories whose numbers are their places from a number on, and these are theirs
abbrev pub AreOpenedFrom : ℕ → (ℕ → Book) → List OpenedOf → Type 0
AreOpenedFrom n book opened = Each (λ k o. (o.number ≡ n + k) × (o.book ≡ book (n + k))) opened

abbrev pub AreOpened : (ℕ → Book) → List OpenedOf → Type 0
AreOpened book opened = Each (λ k o. (o.number ≡ k) × (o.book ≡ book k)) opened

-- the passes have the seats of the node from a number on
abbrev pub AreSeats : ℕ → ℕ → List PassOf → Type 0
AreSeats number from passes = Each (λ k p. HasSeat number (from + k) p) passes

-- the same seat of the same node
abbrev pub IsSameSeat : PassOf → PassOf → Type 0
IsSameSeat p q = (q.number ≡ p.number) × (q.seat ≡ p.seat)

-- the same passes later, whose views begin with the old ones
abbrev pub AreLater : List PassOf → List PassOf → Type 0
AreLater old new = AreMatched GoesFurther old new

-- the same crew with so many senders
abbrev pub with_senders : ℕ → CrewOf → CrewOf
with_senders n c = record { passes = c.passes; senders = n; taken = c.taken; failed = c.failed }

-- the same crew, of so many, which has as many senders as there are others
abbrev pub IsConnected : ℕ → CrewOf → CrewOf → Type 0
IsConnected count old new = (new.senders + 1 ≡ count) × (new ≡ with_senders new.senders old)

-- the same crews, each with as many senders as there are others
abbrev pub AreConnected : List CrewOf → List CrewOf → Type 0
AreConnected old new = AreMatched (IsConnected (length old)) old new

-- no crew has a sender
abbrev pub AreClosed : List CrewOf → Type 0
AreClosed crews = All (λ c. c.senders ≡ 0) crews

-- what was taken, if anything was, is of the plan
abbrev pub IsTakenOf : PlanOf → Option KnowledgeOf → Type 0
IsTakenOf plan taken = IfSome taken (λ k. k.plan ≡ plan)

-- the collector has the first seat of the node
abbrev pub IsCollectorAt : NodeOf → CollectorOf → Type 0
IsCollectorAt n d = HasSeat n.number 0 d.pass

-- the crew has all other seats of the node, 1 to 16
pub record IsCrewAt (n : NodeOf) (c : CrewOf) : Type 0 where
  pub seats : AreSeats n.number 1 c.passes
  pub count : n.seats ≡ length c.passes + 1
  pub workers : IsCrew (length c.passes)
  pub taken : IsTakenOf n.plan c.taken

-- # Nodes

-- the nodes are of the plan
abbrev pub AreOf : PlanOf → List NodeOf → Type 0
AreOf plan nodes = Each (λ k n. n.plan ≡ plan) nodes

abbrev pub AreCollectors : List NodeOf → List CollectorOf → Type 0
AreCollectors nodes collectors = AreMatched IsCollectorAt nodes collectors

abbrev pub AreCrews : List NodeOf → List CrewOf → Type 0
AreCrews nodes crews = AreMatched IsCrewAt nodes crews
