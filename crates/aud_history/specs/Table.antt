-- The transactions of a history, in the order of their first events, each with what it did.
use Rattle.std.specs.Prelude.{◌≡◌, ℕ, suc, not, if◌then◌else◌, nat_eq, List, [], ◌∷◌, map, filter, Option, Some, None, slice_index_or}
use Rattle.std.specs.List.{list_any, position}
use Rattle.aud_event.specs.declared.fact.Event.{Event}
use Rattle.aud_event.specs.declared.fact.Event.TheVariants.{Inv, Ret, TryC, TryA, Commit, Abort}
use Rattle.aud_object.specs.Blocks.{BlockOf, invoked, answered}
use Rattle.aud_history.specs.declared.status.Status.{Status}
use Rattle.aud_history.specs.declared.status.Status.TheVariants.{Committed, Aborted, CommitPending, Live}
use Rattle.aud_history.specs.Histories.{History, events_of, is_in, is_commit, is_abort, is_try_commit}

-- the transactions of H, by their first events
abbrev pub transactions : History → List ℕ
transactions [] = []
transactions (e ∷ h) = e.0 ∷ filter (λ t. not (nat_eq t e.0)) (transactions h)

-- what became of a transaction that did these events
abbrev pub tx_status : List Event → Status
tx_status es =
    if list_any is_commit es then Committed
    else (if list_any is_abort es then Aborted
    else (if list_any is_try_commit es then CommitPending
    else Live))

-- the executions among the events of a transaction, and the invocation after them that has no response
abbrev pub block_of : List Event → BlockOf
block_of (Inv ob op ∷ []) = record { executions = []; trailing = Some (record { object = ob; op = op }) }
block_of (Inv ob op ∷ Ret _ _ answer ∷ es) = record {
  executions = record { object = ob; op = op; answer = answer } ∷ (block_of es).executions;
  trailing = (block_of es).trailing;
}
block_of (Inv ob op ∷ _ ∷ es) = record { executions = []; trailing = Some (record { object = ob; op = op }) }
block_of _ = record { executions = []; trailing = None }

-- the stamp of T's first event; the number of all events where T is not in H
abbrev pub first_stamp : History → ℕ → ℕ
first_stamp [] t = 0
first_stamp (e ∷ h) t = if nat_eq e.0 t then 0 else suc (first_stamp h t)

-- the stamp of T's last event, where T is in H
abbrev pub last_stamp : History → ℕ → ℕ
last_stamp [] t = 0
last_stamp (e ∷ h) t = if is_in h t then suc (last_stamp h t) else 0

-- how contracts see a row of the table
pub record RowOf : Type 0 where
  pub tx : ℕ
  pub block : BlockOf
  pub status : Status
  pub first : ℕ
  pub last : ℕ

-- what T did in H
abbrev pub row_of : History → ℕ → RowOf
row_of h t = record {
  tx = t;
  block = block_of (events_of t h);
  status = tx_status (events_of t h);
  first = first_stamp h t;
  last = last_stamp h t;
}

abbrev pub table_of : History → List RowOf
table_of h = map (row_of h) (transactions h)

-- how contracts see a row to which one more event of its transaction, at the stamp, is added
abbrev pub with_event : RowOf → ℕ → Event → RowOf
with_event r stamp (Inv ob op) = record r { block = invoked r.block (record { object = ob; op = op }); last = stamp }
with_event r stamp (Ret _ _ answer) = record r { block = answered r.block answer; last = stamp }
with_event r stamp TryC = record r { status = CommitPending; last = stamp }
with_event r stamp TryA = record r { last = stamp }
with_event r stamp Commit = record r { status = Committed; last = stamp }
with_event r stamp Abort = record r { status = Aborted; last = stamp }

-- the row of a transaction that did nothing before the stamp
abbrev pub fresh_row : ℕ → ℕ → RowOf
fresh_row t stamp = record { tx = t; block = record { executions = []; trailing = None }; status = Live; first = stamp; last = 0 }

-- the rows with one more event at the stamp, of a transaction that has a row or gets one after the others
abbrev pub rows_with : List RowOf → ℕ → ℕ → Event → List RowOf
rows_with [] t stamp e = with_event (fresh_row t stamp) stamp e ∷ []
rows_with (r ∷ rs) t stamp e = if nat_eq r.tx t then with_event r stamp e ∷ rs else r ∷ rows_with rs t stamp e

-- at each number stands the place that it has among these, or none, and past the end as well
abbrev pub ArePlacesOf : List ℕ → List (Option ℕ) → Type 0
ArePlacesOf numbers places = (t : ℕ) → slice_index_or places t None ≡ position (nat_eq t) numbers
