-- Laws of the definitions, each the contract of a function of src/laws.rt.
use Rattle.std.specs.Prelude.{◌≡◌, ◌↔◌, ℕ, true, ◌&&◌, ◌||◌, nat_lt, List, [], ◌∷◌, ◌++◌, Ok, IsOk}
use Rattle.aud_event.specs.declared.fact.Event.{Event}
use Rattle.aud_history.specs.declared.state.TxState.{TxState}
use Rattle.aud_history.specs.declared.state.TxState.TheVariants.{Idle}
use Rattle.aud_history.specs.Histories.{History, is_in, is_committed, is_commit_pending, is_completed, is_before}
use Rattle.aud_history.specs.WellFormed.{IsTransaction, IsWellFormed}
use Rattle.aud_history.specs.ByState.{after, run, Passes}
use Rattle.aud_kinds.specs.Objects.{on_object}
use Rattle.aud_object.specs.Blocks.{events_of_block}
use Rattle.aud_history.specs.Table.{block_of, first_stamp, last_stamp}
use Rattle.aud_history.specs.Completions.{IsCompletion}
use Rattle.aud_history.specs.Places.{IsBefore}

-- a beginning of a well-formed history is well-formed
abbrev pub BeginningsAreWellFormed : Type 0
BeginningsAreWellFormed = (a b : History) → IsWellFormed (a ++ b) → IsWellFormed a

-- the table of states takes exactly the beginnings of O F
abbrev pub TableIsDefinition : Type 0
TableIsDefinition = (es : List Event) → IsTransaction es ↔ Passes Idle es

-- after a beginning of O F the table is in a state, and the next event goes on exactly where the table reports no rule
abbrev pub TableReportsTheRule : Type 0
TableReportsTheRule = (es : List Event) → IsTransaction es →
    (s : TxState) × ((run Idle es ≡ Ok s) × ((e : Event) → IsTransaction (es ++ e ∷ []) ↔ IsOk (after s e)))

-- real time by recursion and by places
abbrev pub BeforeIsByPlaces : Type 0
BeforeIsByPlaces = (h : History) (t u : ℕ) → (is_before h t u ≡ true) ↔ IsBefore h t u

-- on each object a transaction's block is what the transaction did there
abbrev pub BlockIsEvents : Type 0
BlockIsEvents = (es : List Event) → IsTransaction es → (ob : ℕ) → on_object ob (events_of_block (block_of es)) ≡ on_object ob es

-- real time by the stamps of first and last events
abbrev pub BeforeIsByStamps : Type 0
BeforeIsByStamps = (h : History) (t u : ℕ) → is_in h t ≡ true →
    is_before h t u ≡ (is_completed h t && is_in h u && nat_lt (last_stamp h t) (first_stamp h u))

-- only a transaction that is committed or commit-pending is committed in a completion
abbrev pub OnlyPendingCommit : Type 0
OnlyPendingCommit =
    (h complete : History) → IsCompletion h complete → (t : ℕ) → is_in h t ≡ true → is_committed complete t ≡ true →
    (is_committed h t || is_commit_pending h t) ≡ true

-- what has a completion is well-formed
abbrev pub CompletedIsWellFormed : Type 0
CompletedIsWellFormed = (h complete : History) → IsCompletion h complete → IsWellFormed h
