-- The search of a history by tasks, and what is known of the ends of its tasks.
use Rattle.std.specs.Prelude.{◌≡◌, ◌⊎◌, ℕ, List, [], ◌∷◌, Option, Some, None, ⊤, ◌<◌, take, length}
use Rattle.std.specs.List.{Contains}
use Rattle.std.specs.declared.alloc.Global.{Global}
use Rattle.aud_facts.specs.Sets.{FactsOf, IsSealedWith}
use Rattle.aud_history.specs.WellFormed.{IsWellFormed}
use Rattle.aud_witness.specs.declared.decision.Decision.{Decision}
use Rattle.aud_order.specs.Shapes.{ShapeOf, objects_of, history_of}
use Rattle.aud_cover.specs.Closings.{IsCovered}
use Rattle.search_prefix.specs.Searches.{SpentBy}
use Rattle.aud_know.specs.Known.{KnowledgeOf}
use Rattle.aud_know.specs.Verdicts.{FactsReportAtOnce}
use Rattle.aud_know.specs.declared.verdict.Verdict.{Verdict}
use Rattle.aud_split.specs.Searched.{HasWitness}
use Rattle.aud_split.specs.Tasks.{AreTasks}
use Rattle.cli_findings.specs.declared.searching.TaskSearch.{TaskSearch}

-- # The tasks

-- of a task, where the words say none
abbrev pub usual_budget : ℕ
usual_budget = 65536

-- the budget of a task
abbrev pub task_budget : Option ℕ → ℕ
task_budget None = usual_budget
task_budget (Some b) = b

-- the shape is of these facts, which are sealed and whose history is well-formed, and these are its tasks at a depth of two
pub record IsSearchOf (facts : FactsOf) (s : ShapeOf) (tasks : List (List Decision)) : Type 0 where
  pub facts_are : s.sealed.facts ≡ facts
  pub sealed : IsSealedWith facts s.sealed.history
  pub well_formed : IsWellFormed s.sealed.history
  pub split : AreTasks (objects_of s) (history_of s) [] 2 tasks

-- a verdict on these facts needs no search: they are not sealed, or their history is not well-formed
abbrev pub IsReportedAtOnce : FactsOf → Type 0
IsReportedAtOnce facts = (reported : Verdict Global) × FactsReportAtOnce facts.plan.logs facts.facts reported

-- the search is of these facts, with this budget for each task
abbrev pub IsSearchWith : FactsOf → Option ℕ → TaskSearch → Type 0
IsSearchWith facts budget s = (s.budget ≡ task_budget budget) × IsSearchOf facts s.shape.value s.tasks.items

-- the search of the first tasks of another one, so many, and it has more
pub record IsFirstOf (whole : TaskSearch) (count : ℕ) (s : TaskSearch) : Type 0 where
  pub shape : s.shape.value ≡ whole.shape.value
  pub budget : s.budget ≡ whole.budget
  pub tasks : s.tasks.items ≡ take count whole.tasks.items
  pub more : count < length whole.tasks.items

-- the search of all orders of the same history as one task
pub record IsWholeOf (split : TaskSearch) (s : TaskSearch) : Type 0 where
  pub shape : s.shape.value ≡ split.shape.value
  pub budget : s.budget ≡ split.budget
  pub tasks : s.tasks.items ≡ [] ∷ []

-- # Their ends

-- of a task a beginning is refuted in what is known, or a witness is known, or the budget is spent
abbrev pub KnowsEnd : ShapeOf → ℕ → KnowledgeOf → List Decision → Type 0
KnowsEnd s budget k t = IsCovered k.held.cover t ⊎ (HasWitness k.held ⊎ SpentBy (objects_of s) (history_of s) t budget)

-- what one says of the end of a task, the other says too
abbrev pub KeepsEnds : KnowledgeOf → KnowledgeOf → Type 0
KeepsEnds before k = (s : ShapeOf) (budget : ℕ) (t : List Decision) → KnowsEnd s budget before t → KnowsEnd s budget k t

-- # What was searched

-- if there was a search, it was of these facts, with this budget for each task, and the end of each task is known
abbrev pub WasSearched : FactsOf → Option ℕ → KnowledgeOf → Option TaskSearch → Type 0
WasSearched facts budget known None = ⊤
WasSearched facts budget known (Some s) =
    (s.budget ≡ task_budget budget) × (IsSearchOf facts s.shape.value s.tasks.items × ((t : List Decision) → Contains s.tasks.items t → KnowsEnd s.shape.value s.budget known t))

-- there is a budget, and there was a search
abbrev pub WasSearchedWith : Option ℕ → Option TaskSearch → Type 0
WasSearchedWith budget None = ⊥
WasSearchedWith None (Some s) = ⊥
WasSearchedWith (Some b) (Some s) = ⊤

-- these facts are known, and no others
abbrev pub HasAll : FactsOf → KnowledgeOf → Type 0
HasAll facts known = (known.plan ≡ facts.plan) × (known.held.facts ≡ facts.facts)
