-- What a search remembers: states, where blocks lead from them, and configurations of prefixes that it refuted.
use Rattle.std.specs.Prelude.{◌≡◌, ℕ, Bool, true, false, List, [], ◌∷◌, ◌++◌, map, length, Option, Some, None, slice_get, take, ◌-◌, ◌⊎◌}
use Rattle.std.specs.List.{Contains}
use Rattle.aud_kinds.specs.Objects.{ObjState, opening_of}
use Rattle.aud_object.specs.Executions.{states_after}
use Rattle.aud_object.specs.Replayed.{replayed}
use Rattle.aud_history.specs.Histories.{History}
use Rattle.aud_history.specs.Table.{RowOf, table_of, transactions, row_of}
use Rattle.aud_witness.specs.declared.decision.Fate.TheVariants.{C, A}
use Rattle.aud_witness.specs.declared.decision.Decision.{Decision}
use Rattle.aud_witness.specs.Orders.{is_named, kept, IsGood, Refuted}
use Rattle.aud_order.specs.Shapes.{ShapeOf, objects_of, history_of}
use Rattle.aud_order.specs.Cursors.{CursorOf}
use Rattle.aud_order.specs.Silent.{silent_fate}
use Rattle.search_visited.specs.Visited.{EntryOf, entry_of}
use Rattle.search_memo.specs.declared.choice.Visibility.TheVariants.{Silent}
use Rattle.search_memo.specs.declared.choice.Choice.{Choice}
use Rattle.search_memo.specs.declared.memo.Transition.{Transition}
use Rattle.search_memo.specs.declared.memo.Seen.{Seen}

-- how contracts see a memo: the shape of the search, the states that it numbered, and what hears of refuted prefixes
pub record MemoOf (V : Type 0) : Type 0 where
  pub shape : ShapeOf
  pub states : List (List ObjState)
  pub recorder : V

-- the states of all objects after what is kept of a prefix
abbrev pub states_reached : ShapeOf → List Decision → List ObjState
states_reached shape p = states_after (map opening_of (objects_of shape)) (kept (history_of shape) p)

-- a number, where there is one, is that of the states
abbrev pub Names : List (List ObjState) → Option ℕ → List ObjState → Type 0
Names all None states = Unit {0}
Names all (Some n) states = slice_get all n ≡ Some states

-- the numbers of the states after a prefix and after each beginning of it, the longest first, as far as they go
abbrev pub NameWay : ShapeOf → List (List ObjState) → List (Option ℕ) → List Decision → Type 0
NameWay shape all [] p = Unit {0}
NameWay shape all (n ∷ ns) p = Names all n (states_reached shape p) × NameWay shape all ns (take (length p - 1) p)

-- the configurations of a history, by their words
abbrev pub entries_of : History → List (List ℕ) → List EntryOf
entries_of h visited = map (entry_of (length (transactions h))) visited

-- an entry is of a good prefix that is refuted, and of which P holds
pub record IsRefutedEntry (shape : ShapeOf) (all : List (List ObjState)) (P : List Decision → Type 0) (e : EntryOf) : Type 0 where
  pub path : List Decision
  pub good : IsGood (objects_of shape) (history_of shape) path
  pub refuted : Refuted (objects_of shape) (history_of shape) path
  pub placed : e.placed ≡ map (is_named path) (transactions (history_of shape))
  pub states : slice_get all e.states ≡ Some (states_reached shape path)
  pub noted : P path

-- the block of the transaction leads from some states to others
pub record IsTransition (shape : ShapeOf) (all : List (List ObjState)) (l : Transition) : Type 0 where
  pub before : List ObjState
  pub after : List ObjState
  pub from : slice_get all l.from ≡ Some before
  pub to : slice_get all l.to ≡ Some after
  pub runs : replayed before (row_of (history_of shape) l.tx).block ≡ Some after

-- nothing came but perhaps one
abbrev pub AreWith : {X : Type 0} → List X → List X → X → Type 0
AreWith {X} old new x = (y : X) → Contains new y → Contains old y ⊎ (y ≡ x)

-- what is remembered is true, and each entry has the note of its prefix
pub record IsTrueMemo {N : Type 0} (shape : ShapeOf) (all : List (List ObjState)) (noted : N → List Decision → Type 0) (entries : List EntryOf) (notes : List N) (transitions : List Transition) : Type 0 where
  pub even : length notes ≡ length entries
  pub dead : (k : ℕ) (e : EntryOf) → slice_get entries k ≡ Some e → (note : N) × ((slice_get notes k ≡ Some note) × IsRefutedEntry shape all (noted note) e)
  pub true_transitions : (l : Transition) → Contains transitions l → IsTransition shape all l

-- what others may have under a number are the states of the number
abbrev pub AreSeen : {A : Type 0} → List (List ObjState) → List (Option (Seen A)) → Type 0
AreSeen all seen = (n : ℕ) (s : Seen _) → slice_get seen n ≡ Some (Some s) → slice_get all n ≡ Some s.states.value.now

-- no states lost their number
pub record IsGrown {V : Type 0} (old new : MemoOf V) : Type 0 where
  pub shape : new.shape ≡ old.shape
  pub more : List (List ObjState)
  pub states : new.states ≡ old.states ++ more
  pub recorder : new.recorder ≡ old.recorder

-- only the recorder heard of something
pub record IsReported {V : Type 0} (grows : V → V → Type 0) (old new : MemoOf V) : Type 0 where
  pub shape : new.shape ≡ old.shape
  pub states : new.states ≡ old.states
  pub recorder : grows old.recorder new.recorder

-- no states lost their number, and the recorder may have heard of something
pub record IsFurther {V : Type 0} (grows : V → V → Type 0) (old new : MemoOf V) : Type 0 where
  pub shape : new.shape ≡ old.shape
  pub more : List (List ObjState)
  pub states : new.states ≡ old.states ++ more
  pub recorder : grows old.recorder new.recorder

-- the cursor is one choice further than a prefix after which the states have the number
pub record IsStep {V : Type 0} (memo : MemoOf V) (from : Option ℕ) (c : Choice) (at : CursorOf) : Type 0 where
  pub shape : memo.shape ≡ at.shape
  pub path : List Decision
  pub on : at.path ≡ path ++ c.decision ∷ []
  pub names : Names memo.states from (states_reached at.shape path)
  pub silent : c.visibility ≡ Silent → silent_fate (history_of at.shape) c.decision.tx ≡ Some c.decision.fate

-- after the cursor's prefix, where the states have the number, the choice is one of its row's transaction
pub record IsNext {V : Type 0} (memo : MemoOf V) (states : Option ℕ) (c : Choice) (at : CursorOf) : Type 0 where
  pub shape : memo.shape ≡ at.shape
  pub names : Names memo.states states (states_reached at.shape at.path)
  pub silent : c.visibility ≡ Silent → silent_fate (history_of at.shape) c.decision.tx ≡ Some c.decision.fate
  pub row : (r : RowOf) × ((slice_get (table_of (history_of at.shape)) c.place ≡ Some r) × (r.tx ≡ c.decision.tx))

-- a choice to abort leaves the states, and one marked as silent; what is left is one to commit
abbrev pub LeavesStates : Choice → Bool → Type 0
LeavesStates c true = (c.decision.fate ≡ A) ⊎ (c.visibility ≡ Silent)
LeavesStates c false = c.decision.fate ≡ C

-- after the choice the states have the number: it leaves them, or a transition of its block is known
abbrev pub IsAfter : {V : Type 0} → MemoOf V → ℕ → Choice → ℕ → Type 0
IsAfter memo n c to = (LeavesStates c true × (to ≡ n)) ⊎ ((c.decision.fate ≡ C) × IsTransition memo.shape memo.states (record { from = n; tx = c.decision.tx; to = to }))

-- no prefix that begins with the cursor's shows the history
abbrev pub IsRefutedAt : CursorOf → Type 0
IsRefutedAt c = Refuted (objects_of c.shape) (history_of c.shape) c.path

-- no prefix that begins with the cursor's and the decision after it shows the history
abbrev pub IsRefutedAfter : CursorOf → Decision → Type 0
IsRefutedAfter c d = Refuted (objects_of c.shape) (history_of c.shape) (c.path ++ d ∷ [])
