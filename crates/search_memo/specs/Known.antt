-- What searches of one history know of each other's.
use Rattle.std.specs.Prelude.{◌≡◌, ℕ, Bool, List, [], ◌∷◌, length, map}
use Rattle.base_bits.specs.Marked.{marks_of}
use Rattle.aud_kinds.specs.Objects.{ObjState}
use Rattle.aud_history.specs.Table.{transactions}
use Rattle.aud_witness.specs.declared.decision.Decision.{Decision}
use Rattle.aud_witness.specs.Orders.{is_named, IsGood, Refuted}
use Rattle.aud_order.specs.Shapes.{ShapeOf, objects_of, history_of}
use Rattle.search_memo.specs.Memos.{states_reached}

-- how contracts see a refuted prefix that threads share: the word that marks what is placed, and the states
pub record RefutedEntryOf : Type 0 where
  pub word : ℕ
  pub states : List ObjState

-- a good prefix that is refuted, and of which P holds, places the transactions that are marked, and leaves the states
pub record IsKnown (shape : ShapeOf) (P : List Decision → Type 0) (states : List ObjState) (placed : List Bool) : Type 0 where
  pub path : List Decision
  pub good : IsGood (objects_of shape) (history_of shape) path
  pub refuted : Refuted (objects_of shape) (history_of shape) path
  pub marked : placed ≡ map (is_named path) (transactions (history_of shape))
  pub left : states ≡ states_reached shape path
  pub noted : P path

-- a good prefix that is refuted places the transactions that are marked, and leaves the states
abbrev pub IsRefutedTo : ShapeOf → List ObjState → List Bool → Type 0
IsRefutedTo shape states placed = IsKnown shape (λ p. Unit {0}) states placed

-- of each shape that a search may be of, a good prefix that is refuted, and of which P holds, places and leaves that
abbrev pub IsKnownFor : (ShapeOf → Type 0) → (List Decision → Type 0) → List ObjState → List Bool → Type 0
IsKnownFor is_for P states placed = (shape : ShapeOf) → is_for shape → IsKnown shape P states placed

-- of some shape that a search is of, a good prefix that is refuted, and of which P holds, places and leaves that
abbrev pub IsKnownOf : (ShapeOf → Type 0) → (List Decision → Type 0) → List ObjState → List Bool → Type 0
IsKnownOf is_for P states placed = (shape : ShapeOf) × (is_for shape × IsKnown shape P states placed)

-- the marks are those of one word
abbrev pub IsMarkedBy : ℕ → List Bool → Type 0
IsMarkedBy word marks = marks ≡ marks_of (word ∷ []) (length marks)

-- a good prefix that is refuted places those of the history's transactions that one word marks, and leaves the states
abbrev pub IsRefutedAtWord : ShapeOf → List ObjState → ℕ → Type 0
IsRefutedAtWord shape states word = IsRefutedTo shape states (marks_of (word ∷ []) (length (transactions (history_of shape))))

-- as many marks as some shape that a search is of has transactions
abbrev pub MarksRows : (ShapeOf → Type 0) → List Bool → Type 0
MarksRows is_for marks = (shape : ShapeOf) × (is_for shape × (length marks ≡ length (transactions (history_of shape))))
