-- What a running node was offered, in the words of moves.
use Rattle.std.specs.Prelude.{◌≡◌, ◌≢◌, ◌⊎◌, ℕ, suc, ◌<◌, List, [], ◌∷◌, ◌++◌, length, None}
use Rattle.std.specs.List.{AllByRecursion}
use Rattle.aud_event.specs.Meanings.{PlanOf}
use Rattle.aud_event.specs.Facts.{first_fact_fault}
use Rattle.aud_facts.specs.Quiet.{AreQuiet}
use Rattle.aud_know.specs.Known.{KnownAtom, Held, knowing, norm_of}
use Rattle.aud_know.specs.Findings.{IsTrueFinding}
use Rattle.aud_know.specs.Items.{item_atoms}
use Rattle.aud_know.specs.Truth.{IsKnowledge}
use Rattle.aud_know.specs.declared.item.Item.{Item}
use Rattle.aud_know.specs.declared.item.Item.TheVariants as item
use Rattle.aud_world.specs.Clouds.{Cloud, at_place}
use Rattle.aud_world.specs.Moves.{after_move, at_first, atoms, brought, IsTrueMove}
use Rattle.aud_world.specs.Faults.{node_of}
use Rattle.aud_world.specs.Headline.{held_at}
use Rattle.aud_world.specs.declared.moves.Move.{Move}
use Rattle.aud_world.specs.declared.moves.Move.TheVariants.{Feed, Find, Post, Deliver}

-- # The moves of a log

-- the atoms of all items
abbrev pub atoms_of_log : {X : Type 0} → List (Item X) → List KnownAtom
atoms_of_log [] = []
atoms_of_log (i ∷ log) = item_atoms i ++ atoms_of_log log

-- the item is a Knowledge that holds the normal form of these atoms
abbrev pub IsPacketOf : {X : Type 0} → List KnownAtom → Item X → Type 0
IsPacketOf xs (item.Fact f) = ⊥
IsPacketOf xs (item.Finding g) = ⊥
IsPacketOf xs (item.Known k) = k.value.held ≡ norm_of xs

-- the item is what the move gives: a fact that is fed, a finding that is found, or a Knowledge, of which a packet is delivered
-- that holds it
abbrev pub IsTakenBy : {X : Type 0} → Cloud → Move X → Item X → Type 0
IsTakenBy c (Feed n f) i = i ≡ item.Fact f
IsTakenBy c (Find n g) i = i ≡ item.Finding g
IsTakenBy c (Post n) i = ⊥
IsTakenBy c (Deliver k n) i = (k < length c.packets) × IsPacketOf (at_place c.packets k) i

-- node n takes nothing by the move: it is a post, or of another node
abbrev pub PassesBy : {X : Type 0} → ℕ → Move X → Type 0
PassesBy n (Feed m f) = m ≢ n
PassesBy n (Find m g) = m ≢ n
PassesBy n (Post m) = Unit {0}
PassesBy n (Deliver k m) = m ≢ n

-- from a cloud on, node n takes the items in turn, each by one of the moves, and nothing else
abbrev pub IsLog : {X : Type 0} → ℕ → Cloud → List (Move X) → List (Item X) → Type 0
IsLog n c [] log = log ≡ []
IsLog {X} n c (m ∷ ms) log =
    (PassesBy n m × IsLog n (after_move c m) ms log)
    ⊎ ((i : Item X) × (rest : List (Item X)) × (log ≡ i ∷ rest) × (node_of m ≡ n) × IsTakenBy c m i × IsLog n (after_move c m) ms rest)

-- what is known of the log is what the node holds after the moves, and of each view, a beginning of it, what it holds at some
-- moment of them
pub record IsHeldBy {X : Type 0} (plan : PlanOf) (count n : ℕ) (moves : List (Move X)) (log : List (Item X)) : Type 0 where
  pub whole : knowing plan (atoms_of_log log) ≡ knowing plan (atoms count moves n)
  pub views : (view rest : List (Item X)) → log ≡ view ++ rest → (i : ℕ) × (knowing plan (atoms_of_log view) ≡ held_at plan count moves i n)

-- a log that a node of a world took leaves a running node with what that node holds
abbrev pub LogsAreMoves : Type 0 → Type 0
LogsAreMoves X =
    (plan : PlanOf) (count n : ℕ) (moves : List (Move X)) (log : List (Item X)) → n < count → IsLog n (at_first count) moves log →
    IsHeldBy plan count n moves log

-- # A world for each log

-- what is held is the normal form of what some true moves bring
abbrev pub IsMade : Type 0 → PlanOf → Held → Type 0
IsMade X plan held = (moves : List (Move X)) × AllByRecursion (IsTrueMove plan) moves × (held ≡ norm_of (brought moves))

-- the item is of the plan, a finding is true, and a Knowledge was made of facts and true findings
abbrev pub IsTrueItem : {X : Type 0} → PlanOf → Item X → Type 0
IsTrueItem plan (item.Fact f) = first_fact_fault plan f ≡ None
IsTrueItem plan (item.Finding g) = (g.facts.plan ≡ plan) × IsTrueFinding g
IsTrueItem {X} plan (item.Known k) = IsMade X plan k.value.held

-- for each log of such items there are true moves of a world with a sender for each item, of which the first node took the log
abbrev pub LogsHaveMoves : Type 0 → Type 0
LogsHaveMoves X =
    (plan : PlanOf) (log : List (Item X)) → AllByRecursion (IsTrueItem plan) log →
    (moves : List (Move X)) × AllByRecursion (IsTrueMove plan) moves × IsLog 0 (at_first (suc (length log))) moves log

-- a Knowledge whose facts conflict nowhere was made of its facts, and of findings of its history
abbrev pub QuietIsMade : Type 0 → Type 0
QuietIsMade X = (plan : PlanOf) (held : Held) → IsKnowledge plan held → AreQuiet held.facts → IsMade X plan held
