-- What an outbox has taken, and what of a packet it has not posted yet.
use Rattle.std.specs.Prelude.{◌≡◌, ◌++◌, ⊤, ℕ, List, [], ◌∷◌, map, Option, Some, None}
use mathlib.Core.List.{IsPrefix}
use Rattle.aud_event.specs.Meanings.{PlanOf}
use Rattle.aud_know.specs.Beyond.{IsBeyond}
use Rattle.aud_know.specs.Known.{KnowledgeOf, norm_of}
use Rattle.aud_know.specs.Norms.{atoms_of}
use Rattle.aud_node.specs.Logs.{Entry, state_of}

-- how many senders there are, and the join of the packets that were taken
pub record OutboxOf : Type 0 where
  pub senders : ℕ
  pub taken : Option KnowledgeOf

-- what is known with one more; the first is taken as it is
abbrev pub joined : Option KnowledgeOf → KnowledgeOf → Option KnowledgeOf
joined None k = Some k
joined (Some j) k = Some (record { plan = j.plan; held = norm_of (atoms_of j.held ++ atoms_of k.held) })

-- what is known with some more, one after another
abbrev pub joined_all : Option KnowledgeOf → List KnowledgeOf → Option KnowledgeOf
joined_all taken [] = taken
joined_all taken (k ∷ ks) = joined_all (joined taken k) ks

-- the packet is of the plan of those that were taken, if there are any
abbrev pub IsOfTaken : Option KnowledgeOf → KnowledgeOf → Type 0
IsOfTaken None packet = ⊤
IsOfTaken (Some j) packet = j.plan ≡ packet.plan

-- the first delta is the whole packet, each later one is what the packet has beyond those that were taken
abbrev pub IsDelta : Option KnowledgeOf → KnowledgeOf → KnowledgeOf → Type 0
IsDelta None packet delta = delta ≡ packet
IsDelta (Some j) packet delta = (delta.plan ≡ packet.plan) × IsBeyond packet.held j.held delta.held

-- packets are taken one after another, each with the delta that it gives
abbrev pub Took : Option KnowledgeOf → List (KnowledgeOf × KnowledgeOf) → Option KnowledgeOf → Type 0
Took old [] new = new ≡ old
Took old (step ∷ steps) new = (between : Option KnowledgeOf) × (between ≡ joined old step.0) × (between ≡ joined old step.1) × Took between steps new

-- the join of the deltas is the join of the packets
abbrev pub DeltasAreEnough : Type 0
DeltasAreEnough =
    (steps : List (KnowledgeOf × KnowledgeOf)) (new : Option KnowledgeOf) → Took None steps new →
    (new ≡ joined_all None (map (λ step. step.0) steps)) × (new ≡ joined_all None (map (λ step. step.1) steps))

-- each list of offers begins with the one before it
abbrev pub GoOn : List Entry → List (List Entry) → List Entry → Type 0
GoOn log [] last = last ≡ log
GoOn log (next ∷ logs) last = IsPrefix log next × GoOn next logs last

-- the join of the states of lists of offers, of which each begins with the one before it, is that of the last
abbrev pub LastIsJoin : Type 0
LastIsJoin =
    (plan : PlanOf) (first : List Entry) (logs : List (List Entry)) (last : List Entry) → GoOn first logs last →
    joined_all (Some (state_of plan first)) (map (state_of plan) logs) ≡ Some (state_of plan last)
