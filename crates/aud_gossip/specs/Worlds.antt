-- The logs of running nodes, in the words of a world's moves.
use Rattle.std.specs.Prelude.{◌≡◌, ℕ, ◌<◌, List, map}
use Rattle.std.specs.declared.alloc.Global.{Global}
use mathlib.Core.List.{IsPrefix}
use Rattle.aud_event.specs.Meanings.{PlanOf}
use Rattle.aud_know.specs.Known.{knowing}
use Rattle.aud_know.specs.declared.item.Item.{Item}
use Rattle.aud_node.specs.Logs.{Entry, state_of}
use Rattle.aud_world.specs.Headline.{held_at}
use Rattle.aud_world.specs.Logs.{IsLog}
use Rattle.aud_world.specs.Moves.{at_first, atoms}
use Rattle.aud_world.specs.declared.moves.Move.{Move}

-- the items of a log, in order
abbrev pub items_of : List Entry → List (Item Global)
items_of log = map (λ (e : Entry). e.1) log

-- the state of the log is what the node holds after the moves, and that of each view, a beginning of the log, what it held at some
-- moment of them
pub record IsStateOf (plan : PlanOf) (count n : ℕ) (moves : List (Move Global)) (log : List Entry) : Type 0 where
  pub whole : state_of plan log ≡ knowing plan (atoms count moves n)
  pub views : (view : List Entry) → IsPrefix view log → (i : ℕ) × (state_of plan view ≡ held_at plan count moves i n)

-- a running node whose log a node of a world took has the states of that node
abbrev pub NodesAreOfWorlds : Type 0
NodesAreOfWorlds =
    (plan : PlanOf) (count n : ℕ) (moves : List (Move Global)) (log : List Entry) → n < count → IsLog n (at_first count) moves (items_of log) →
    IsStateOf plan count n moves log
