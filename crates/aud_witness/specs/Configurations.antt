-- Placing transactions one after another, by the rows of their table.
use Rattle.std.specs.Prelude.{ℕ, Bool, true, false, not, ◌&&◌, ◌||◌, if◌then◌else◌, nat_eq, nat_lt, List, [], ◌∷◌, map, replicate, length, Option, Some, None, Result, Ok, Err, slice_get, slice_set, slice_index_or}
use Rattle.std.specs.List.{position}
use Rattle.aud_event.specs.Meanings.{Declared}
use Rattle.aud_kinds.specs.Objects.{ObjState, opening_of}
use Rattle.aud_object.specs.Replayed.{replayed}
use Rattle.aud_history.specs.declared.status.Status.{Status}
use Rattle.aud_history.specs.declared.status.Status.TheVariants.{Committed, Aborted, CommitPending, Live}
use Rattle.aud_history.specs.Table.{RowOf}
use Rattle.aud_witness.specs.declared.decision.Fate.{Fate}
use Rattle.aud_witness.specs.declared.decision.Fate.TheVariants.{C, A}
use Rattle.aud_witness.specs.declared.decision.Decision.{Decision}
use Rattle.aud_witness.specs.declared.fault.OrderFault.{OrderFault}
use Rattle.aud_witness.specs.declared.fault.OrderFault.TheVariants.{UnknownTx, Twice, FateNotAllowed, RealTime, Illegal}

-- where a prefix has led: which rows are placed, and the states of all objects after what is kept
pub record Configuration : Type 0 where
  pub placed : List Bool
  pub states : List ObjState

-- before any decision
abbrev pub first_configuration : List RowOf → List Declared → Configuration
first_configuration rows objects = record { placed = replicate (length rows) false; states = map opening_of objects }

-- the fates that a completion may give to a transaction of a status
abbrev pub status_allows : Status → Fate → Bool
status_allows Committed C = true
status_allows Committed A = false
status_allows Aborted C = false
status_allows Aborted A = true
status_allows CommitPending C = true
status_allows CommitPending A = true
status_allows Live C = false
status_allows Live A = true

-- committed or aborted
abbrev pub is_ended : Status → Bool
is_ended Committed = true
is_ended Aborted = true
is_ended CommitPending = false
is_ended Live = false

-- every transaction that ended below the stamp is placed
abbrev pub are_earlier_placed : List RowOf → List Bool → ℕ → Bool
are_earlier_placed [] placed stamp = true
are_earlier_placed (r ∷ rs) [] stamp = not (is_ended r.status && nat_lt r.last stamp) && are_earlier_placed rs [] stamp
are_earlier_placed (r ∷ rs) (b ∷ bs) stamp = (not (is_ended r.status && nat_lt r.last stamp) || b) && are_earlier_placed rs bs stamp

-- others see what a transaction with fate C did, and not what one with fate A did
abbrev pub states_with : Fate → List ObjState → List ObjState → List ObjState
states_with C before after = after
states_with A before after = before

-- what is wrong with the decision on the row at the place, before its block is looked at
abbrev pub early_fault : List RowOf → Configuration → Decision → ℕ → RowOf → Option OrderFault
early_fault rows s d k r =
    if slice_index_or s.placed k false then Some (Twice d.tx)
    else (if not (status_allows r.status d.fate) then Some (FateNotAllowed d.tx)
    else (if not (are_earlier_placed rows s.placed r.first) then Some (RealTime d.tx)
    else None))

-- the decision on the row at the place, if its block can run there
abbrev pub block_stepped : Configuration → Decision → ℕ → RowOf → Result Configuration OrderFault
block_stepped s d k r = elim (replayed s.states r.block) [
  | None ↦ Err (Illegal d.tx)
  | Some after ↦ Ok (record { placed = slice_set s.placed k true; states = states_with d.fate s.states after })
]

-- the decision on the row at the place
abbrev pub row_stepped : List RowOf → Configuration → Decision → ℕ → RowOf → Result Configuration OrderFault
row_stepped rows s d k r = elim (early_fault rows s d k r) [ Some fault ↦ Err fault | None ↦ block_stepped s d k r ]

-- one more decision, or what is wrong with it
abbrev pub stepped : List RowOf → Configuration → Decision → Result Configuration OrderFault
stepped rows s d =
    elim (position (nat_eq d.tx) (map (λ r. r.tx) rows)) [
      | None ↦ Err (UnknownTx d.tx)
      | Some k ↦ elim (slice_get rows k) [ None ↦ Err (UnknownTx d.tx) | Some r ↦ row_stepped rows s d k r ]
    ]

-- the transactions of the rows that are not placed
abbrev pub unplaced : List RowOf → List Bool → List ℕ
unplaced [] placed = []
unplaced (r ∷ rs) [] = r.tx ∷ unplaced rs []
unplaced (r ∷ rs) (b ∷ bs) = if b then unplaced rs bs else r.tx ∷ unplaced rs bs
