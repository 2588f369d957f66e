-- What is known of the ends of tasks that the workers of all nodes search.
use Rattle.std.specs.Prelude.{◌≡◌, ◌<◌, ◌%◌, ◌+◌, ℕ, List, [], ◌∷◌, length, slice_index_or, nat_eq, if◌then◌else◌, false}
use Rattle.std.specs.List.{Contains}
use Rattle.aud_witness.specs.declared.decision.Decision.{Decision}
use Rattle.aud_order.specs.Shapes.{ShapeOf, objects_of, history_of}
use Rattle.aud_node.specs.Logs.{atoms_in}
use Rattle.aud_node.specs.Meanings.{NodeOf, PassOf}
use Rattle.aud_split.specs.Searched.{IsEndedBy}
use Rattle.cli_audit.specs.Seats.{CrewOf}
use Rattle.aud_know.specs.Known.{KnowledgeOf}
use Rattle.cli_findings.specs.Searches.{KnowsEnd}
use Rattle.cli_findings.specs.declared.searching.TaskSearch.{TaskSearch}

-- # The tasks

-- of the tasks from a place on those whose place, divided by the number of nodes, leaves this number
abbrev pub share_from : ℕ → ℕ → ℕ → List (List Decision) → List (List Decision)
share_from nodes number place [] = []
share_from nodes number place (t ∷ ts) =
    if nat_eq (place % nodes) number then t ∷ share_from nodes number (place + 1) ts else share_from nodes number (place + 1) ts

-- the share is exactly these of all tasks, in their order
abbrev pub IsShare : List (List Decision) → ℕ → ℕ → List (List Decision) → Type 0
IsShare tasks nodes number share = share ≡ share_from nodes number 0 tasks

-- # Their ends

-- a task ended by what one of the passes has seen
abbrev pub HasEnded : ShapeOf → ℕ → List PassOf → List Decision → Type 0
HasEnded s budget passes t = (p : PassOf) × (Contains passes p × IsEndedBy (atoms_in p.view) (objects_of s) (history_of s) budget t)

-- each task of the share ended by what one of the passes has seen
abbrev pub HaveEndedShare : ShapeOf → ℕ → List (List Decision) → ℕ → ℕ → List PassOf → Type 0
HaveEndedShare s budget tasks nodes number passes = (k : ℕ) (d : List Decision) → k < length tasks → k % nodes ≡ number → HasEnded s budget passes (slice_index_or tasks k d)

-- of each crew that did not fail each task of its node's share ended
pub record SharesHaveEnded (s : ShapeOf) (budget : ℕ) (tasks : List (List Decision)) (nodes : List NodeOf) (crews : List CrewOf) : Type 0 where
  pub each : (k : ℕ) (n : NodeOf) (c : CrewOf) → k < length nodes → (slice_index_or crews k c).failed ≡ false → HaveEndedShare s budget tasks (length nodes) (slice_index_or nodes k n).number (slice_index_or crews k c).passes

-- a task ended by what a pass of one of the crews has seen
abbrev pub HaveEnded : ShapeOf → ℕ → List CrewOf → List Decision → Type 0
HaveEnded s budget crews t = (c : CrewOf) × (Contains crews c × HasEnded s budget c.passes t)

-- each task of the node's share of the search ended by what one of the passes has seen
abbrev pub ShareHasEnded : TaskSearch → ℕ → ℕ → List PassOf → Type 0
ShareHasEnded s nodes number passes = HaveEndedShare s.shape.value s.budget s.tasks.items nodes number passes

-- of each crew that did not fail each task of its node's share of the search ended
abbrev pub CrewsHaveEnded : TaskSearch → List NodeOf → List CrewOf → Type 0
CrewsHaveEnded s nodes crews = SharesHaveEnded s.shape.value s.budget s.tasks.items nodes crews

-- each task of the search ended by what a pass of one of the crews has seen
abbrev pub SearchHasEnded : TaskSearch → List CrewOf → Type 0
SearchHasEnded s crews = (t : List Decision) → Contains s.tasks.items t → HaveEnded s.shape.value s.budget crews t

-- # What is known of them

-- of each task that ended by what one of the passes has seen the end is known
abbrev pub KnowsEndsOf : List PassOf → KnowledgeOf → Type 0
KnowsEndsOf passes k = (s : ShapeOf) (budget : ℕ) (t : List Decision) → HasEnded s budget passes t → KnowsEnd s budget k t

-- of each task that ended by what a pass of one of the crews has seen the end is known
abbrev pub KnowsAllEnds : List CrewOf → KnowledgeOf → Type 0
KnowsAllEnds crews k = (s : ShapeOf) (budget : ℕ) (t : List Decision) → HaveEnded s budget crews t → KnowsEnd s budget k t
