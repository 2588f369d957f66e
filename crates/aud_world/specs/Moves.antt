-- What moves do to the atoms of nodes and packets.
use Rattle.std.specs.Prelude.{◌≡◌, ℕ, List, [], ◌∷◌, ◌++◌, replicate, None}
use Rattle.aud_event.specs.Meanings.{PlanOf}
use Rattle.aud_event.specs.Facts.{first_fact_fault}
use Rattle.aud_know.specs.Norms.{fact}
use Rattle.aud_know.specs.Known.{KnownAtom}
use Rattle.aud_know.specs.Findings.{found, IsTrueFinding}
use Rattle.aud_world.specs.Clouds.{Cloud, at_place, gain}
use Rattle.aud_world.specs.declared.moves.Move.{Move}
use Rattle.aud_world.specs.declared.moves.Move.TheVariants.{Feed, Find, Post, Deliver}

-- a fact or a finding adds its atoms to a node's, a packet has those of its sender, and whoever gets it gains them
abbrev pub after_move : {X : Type 0} → Cloud → Move X → Cloud
after_move c (Feed n f) = record { nodes = gain n (fact f ∷ []) c.nodes; packets = c.packets }
after_move c (Find n g) = record { nodes = gain n (found g) c.nodes; packets = c.packets }
after_move c (Post n) = record { nodes = c.nodes; packets = c.packets ++ at_place c.nodes n ∷ [] }
after_move c (Deliver k n) = record { nodes = gain n (at_place c.packets k) c.nodes; packets = c.packets }

-- the same of each of a list, from the front
abbrev pub after_moves : {X : Type 0} → Cloud → List (Move X) → Cloud
after_moves c [] = c
after_moves c (m ∷ ms) = after_moves (after_move c m) ms

-- so many nodes that took nothing, and no packet
abbrev pub at_first : ℕ → Cloud
at_first count = record { nodes = replicate count []; packets = [] }

-- the atoms of a node after moves of so many nodes: what it was fed, found, or got in packets
abbrev pub atoms : {X : Type 0} → ℕ → List (Move X) → ℕ → List KnownAtom
atoms count moves n = at_place (after_moves (at_first count) moves).nodes n

-- what a move brings into the world
abbrev pub brought_by : {X : Type 0} → Move X → List KnownAtom
brought_by (Feed n f) = fact f ∷ []
brought_by (Find n g) = found g
brought_by (Post n) = []
brought_by (Deliver k n) = []

-- what was ever fed or found
abbrev pub brought : {X : Type 0} → List (Move X) → List KnownAtom
brought [] = []
brought (m ∷ ms) = brought_by m ++ brought ms

-- the fact of a move passes the plan's check, and its finding is of the plan and true
abbrev pub IsTrueMove : {X : Type 0} → PlanOf → Move X → Type 0
IsTrueMove plan (Feed n f) = first_fact_fault plan f ≡ None
IsTrueMove plan (Find n g) = (g.facts.plan ≡ plan) × IsTrueFinding g
IsTrueMove plan (Post n) = Unit {0}
IsTrueMove plan (Deliver k n) = Unit {0}
