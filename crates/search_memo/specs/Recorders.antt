-- What a recorder hears of the prefixes that a search refutes.
use Rattle.std.specs.Prelude.{◌≡◌, ℕ, ◌<◌, ◌≤◌, List, [], ◌∷◌, ◌++◌, map, Option, Some, None, slice_get}
use Rattle.aud_history.specs.Table.{transactions}
use Rattle.aud_witness.specs.declared.decision.Decision.{Decision}
use Rattle.aud_witness.specs.Orders.{is_named, IsFull, IsGood, IsGoodNext}
use Rattle.aud_order.specs.Shapes.{ShapeOf, objects_of, history_of}
use Rattle.aud_order.specs.Silent.{silent_fate}
use Rattle.search_memo.specs.declared.choice.Visibility.TheVariants as visibility
use Rattle.search_memo.specs.declared.choice.Choice.{Choice}
use Rattle.search_memo.specs.declared.recorder.RefutedBy.{RefutedBy}
use Rattle.search_memo.specs.declared.recorder.RefutedBy.TheVariants.{Kids, Silent, Same}
use Rattle.search_memo.specs.Memos.{states_reached}
use Rattle.aud_order.specs.Cursors.{CursorOf, IsGoodAt}

-- some note is of the prefix
abbrev pub HasNote : {N : Type 0} → (N → List Decision → Type 0) → List Decision → Type 0
HasNote {N} noted p = (note : N) × noted note p

-- the recorder is of searches of the shape, and the note is of the prefix
abbrev pub IsNotedFor : {R N : Type 0} → (R → ShapeOf → Type 0) → (R → N → List Decision → Type 0) → ShapeOf → R → N → List Decision → Type 0
IsNotedFor is_for noted shape r note p = is_for r shape × noted r note p

-- a good prefix of which P holds places the transactions that p places, and leaves the same states
pub record IsNotedAlike (shape : ShapeOf) (P : List Decision → Type 0) (p : List Decision) : Type 0 where
  pub other : List Decision
  pub good : IsGood (objects_of shape) (history_of shape) other
  pub noted : P other
  pub placed : map (is_named p) (transactions (history_of shape)) ≡ map (is_named other) (transactions (history_of shape))
  pub states : states_reached shape p ≡ states_reached shape other

-- p is not full, and P holds of each good prefix that is one decision longer
pub record HasKids (shape : ShapeOf) (P : List Decision → Type 0) (p : List Decision) : Type 0 where
  pub unfull : IsFull (history_of shape) p → ⊥
  pub kids : (d : Decision) → IsGoodNext (objects_of shape) (history_of shape) p d → P (p ++ d ∷ [])

-- d is of a silent transaction with its silent fate, good after p, and P holds of the prefix after it
pub record HasSilent (shape : ShapeOf) (P : List Decision → Type 0) (p : List Decision) (d : Decision) : Type 0 where
  pub silent : silent_fate (history_of shape) d.tx ≡ Some d.fate
  pub good : IsGoodNext (objects_of shape) (history_of shape) p d
  pub noted : P (p ++ d ∷ [])

-- why p is refuted
abbrev pub IsReason : {N : Type 0} → (N → List Decision → Type 0) → ShapeOf → List Decision → RefutedBy N → Type 0
IsReason noted shape p Kids = HasKids shape (HasNote noted) p
IsReason noted shape p (Silent d) = HasSilent shape (HasNote noted) p d
IsReason noted shape p (Same note) = IsNotedAlike shape (noted note) p

-- what a recorder of a shape may hear of: a good prefix, of which Q says why it is refuted
pub record IsHearable (is_for : ShapeOf → Type 0) (p : List Decision) (Q : ShapeOf → Type 0) : Type 0 where
  pub shape : ShapeOf
  pub own : is_for shape
  pub good : IsGood (objects_of shape) (history_of shape) p
  pub refuted : Q shape

-- P holds of the prefixes after the good choices from one place up to another
abbrev pub AreKept : (List Decision → Type 0) → ShapeOf → List Choice → List Decision → ℕ → ℕ → Type 0
AreKept P shape cs p from to = (j : ℕ) (c : Choice) → from ≤ j → j < to → slice_get cs j ≡ Some c → IsGoodNext (objects_of shape) (history_of shape) p c.decision → P (p ++ c.decision ∷ [])

-- the decision of the choice at a place, if it is marked as silent
abbrev pub IsSilentAt : List Choice → ℕ → Option Decision → Type 0
IsSilentAt cs k None = (c : Choice) → slice_get cs k ≡ Some c → c.visibility ≡ visibility.Silent → ⊥
IsSilentAt cs k (Some d) = (c : Choice) → slice_get cs k ≡ Some c → (c.visibility ≡ visibility.Silent) × (c.decision ≡ d)

-- what refutes a prefix once a silent choice does, if there is one
abbrev pub reason_by : {N : Type 0} → Option Decision → RefutedBy N
reason_by None = Kids
reason_by (Some d) = Silent d

-- where the decision is good after the cursor's prefix, the note is of a prefix that is the same as that prefix with it
abbrev pub IsNotedAfter : CursorOf → Decision → (List Decision → Type 0) → Type 0
IsNotedAfter c d P = IsGoodAt c d → IsNotedAlike c.shape P (c.path ++ d ∷ [])

-- where the decision is good after the cursor's prefix, that prefix with it has a note
abbrev pub HasNoteAfter : {N : Type 0} → (N → List Decision → Type 0) → CursorOf → Decision → Type 0
HasNoteAfter noted c d = IsGoodAt c d → HasNote noted (c.path ++ d ∷ [])
