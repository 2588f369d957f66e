-- The tasks that the search below a prefix is split into.
use Rattle.std.specs.Prelude.{◌≡◌, ◌↔◌, ◌<◌, ◌⊎◌, ℕ, List, [], ◌∷◌, ◌++◌, length}
use Rattle.std.specs.List.{Contains}
use Rattle.std.specs.List.Sorted.{IsStrictlySortedBy}
use Rattle.std.specs.Cmp.Lexicographic.{slice_cmp}
use Rattle.aud_event.specs.Meanings.{Declared}
use Rattle.aud_history.specs.Histories.{History}
use Rattle.aud_witness.specs.declared.decision.Decision.{Decision}
use Rattle.aud_witness.specs.DecisionOrder.{decision_cmp}
use Rattle.aud_witness.specs.Orders.{IsFull, IsGood}
use Rattle.aud_order.specs.Shapes.{objects_of, history_of}
use Rattle.aud_order.specs.Cursors.{CursorOf}

-- no extension of p by one decision is good
abbrev pub HasNoKids : List Declared → History → List Decision → Type 0
HasNoKids objects h p = (d : Decision) → IsGood objects h (p ++ d ∷ []) → ⊥

-- q is good, and has exactly so many decisions after p, or fewer, and then it is full or has no kids
pub record IsTask (objects : List Declared) (h : History) (p : List Decision) (depth : ℕ) (q : List Decision) : Type 0 where
  pub good : IsGood objects h q
  pub rest : List Decision
  pub begins : q ≡ p ++ rest
  pub ends : (length rest ≡ depth) ⊎ ((length rest < depth) × (IsFull h q ⊎ HasNoKids objects h q))

-- exactly the tasks below p, each once, the least first
pub record AreTasks (objects : List Declared) (h : History) (p : List Decision) (depth : ℕ) (list : List (List Decision)) : Type 0 where
  pub each : (q : List Decision) → Contains list q ↔ IsTask objects h p depth q
  pub rising : IsStrictlySortedBy (slice_cmp decision_cmp) list

-- to a list are added exactly the tasks below p, each once, the least first
pub record AreTasksAdded (objects : List Declared) (h : History) (p : List Decision) (depth : ℕ) (old new : List (List Decision)) : Type 0 where
  pub more : List (List Decision)
  pub grown : new ≡ old ++ more
  pub tasks : AreTasks objects h p depth more

-- to a list are added exactly the tasks below the cursor's list, each once, the least first
abbrev pub AddsTasks : CursorOf → ℕ → List (List Decision) → List (List Decision) → Type 0
AddsTasks cursor depth old new = AreTasksAdded (objects_of cursor.shape) (history_of cursor.shape) cursor.path depth old new
