-- Which choices may be good, by what is placed.
use Rattle.std.specs.Prelude.{◌≡◌, ℕ, ◌<◌, ◌≤◌, Bool, true, false, if◌then◌else◌, nat_eq, List, [], ◌∷◌, ◌++◌, length, Option, Some, None, slice_get, slice_index_or, ◌⊎◌}
use Rattle.aud_history.specs.Table.{transactions, table_of}
use Rattle.aud_witness.specs.declared.decision.Fate.{Fate}
use Rattle.aud_witness.specs.declared.decision.Fate.TheVariants.{C, A}
use Rattle.aud_witness.specs.declared.decision.Decision.{Decision}
use Rattle.aud_witness.specs.Orders.{is_named}
use Rattle.aud_witness.specs.OrderFaults.{is_enabled}
use Rattle.aud_order.specs.Shapes.{ShapeOf, history_of}
use Rattle.aud_order.specs.Cursors.{CursorOf}
use Rattle.search_memo.specs.declared.choice.Choice.{Choice}
use Rattle.search_prefix.specs.declared.ready.RowChoices.{RowChoices}

-- how contracts see it: marks on the choices, and how many rows were begun
pub record ReadyOf : Type 0 where
  pub shape : ShapeOf
  pub choices : List Choice
  pub marks : List Bool
  pub begun : ℕ

-- the place of a row's choice with the fate
abbrev pub chosen : RowChoices → Fate → Option ℕ
chosen r C = r.commit
chosen r A = r.abort

abbrev pub no_choices : RowChoices
no_choices = record { commit = None; abort = None }

-- each row has the places of its choices, among the first so many
pub record HasRows (cs : List Choice) (upto : ℕ) (rows : List RowChoices) : Type 0 where
  pub sound : (i k : ℕ) (f : Fate) → chosen (slice_index_or rows i no_choices) f ≡ Some k → (c : Choice) × ((k < upto) × (slice_get cs k ≡ Some c) × (c.place ≡ i) × (c.decision.fate ≡ f))
  pub whole : (k : ℕ) (c : Choice) → k < upto → slice_get cs k ≡ Some c → chosen (slice_index_or rows c.place no_choices) c.decision.fate ≡ Some k

-- a choice that is not marked is of a transaction that is placed, or of a row that has not begun
pub record HoldsBack (r : ReadyOf) (at : CursorOf) : Type 0 where
  pub shape : r.shape ≡ at.shape
  pub inside : r.begun ≤ length (table_of (history_of at.shape))
  pub left : (k : ℕ) (c : Choice) → slice_get r.choices k ≡ Some c → slice_index_or r.marks k false ≡ false → (is_named at.path c.decision.tx ≡ true) ⊎ (r.begun ≤ c.place)

-- and no transaction of a row that has not begun may be placed yet
pub record IsReady (r : ReadyOf) (at : CursorOf) : Type 0 where
  pub all : HoldsBack r at
  pub late : r.begun < length (table_of (history_of at.shape)) → is_enabled (history_of at.shape) at.path (slice_index_or (transactions (history_of at.shape)) r.begun 0) ≡ false

-- the cursor is one decision further than where they were ready
abbrev pub IsReadyAfter : ReadyOf → CursorOf → Decision → Type 0
IsReadyAfter r at d = (p : List Decision) × ((at.path ≡ p ++ d ∷ []) × IsReady r (record { shape = at.shape; path = p }))

-- the cursor is one decision less than where they were ready
abbrev pub IsReadyBefore : ReadyOf → CursorOf → Decision → Type 0
IsReadyBefore r at d = IsReady r (record { shape = at.shape; path = at.path ++ d ∷ [] })

-- the marks of one row's choices are written, and no other changes
pub record IsRowMarked (old new : ReadyOf) (row : ℕ) (mark : Bool) : Type 0 where
  pub shape : new.shape ≡ old.shape
  pub choices : new.choices ≡ old.choices
  pub begun : new.begun ≡ old.begun
  pub written : (k : ℕ) (c : Choice) → slice_get old.choices k ≡ Some c → slice_index_or new.marks k false ≡ (if nat_eq c.place row then mark else slice_index_or old.marks k false)
