-- A row of the table gives the silent fate of its transaction.
use Rattle.std.specs.Prelude.{◌≡◌, ℕ, Bool, true, false, ◌&&◌, ◌||◌, nat_eq, List, [], ◌∷◌, map, Some, None, slice_get, refl}
use Rattle.std.specs.List.{list_any, list_all, position}
use Rattle.std.proofs.Common.{sym, ◌∙◌, ap, subst, cond, get_or}
use Rattle.std.proofs.lemmas.List.Quantifiers.{position-Some}
use Rattle.aud_event.specs.declared.fact.Event.{Event}
use Rattle.aud_event.specs.declared.fact.Event.TheVariants.{Inv, Ret, TryC, TryA, Commit, Abort}
use Rattle.base_values.proofs.Bools.{nat_eq-is}
use Rattle.aud_event.specs.Objects.{is_observing}
use Rattle.aud_object.specs.declared.execution.Execution.{Execution}
use Rattle.aud_history.specs.declared.state.TxState.TheVariants.{Idle, TriedCommit, TriedAbort}
use Rattle.aud_history.specs.Histories.{History, events_of, is_in, is_commit, is_try_commit}
use Rattle.aud_history.specs.WellFormed.{IsWellFormed}
use Rattle.aud_history.specs.ByState.{is_match, Passes}
use Rattle.aud_history.specs.Table.{RowOf, transactions, block_of, row_of, table_of}
use Rattle.aud_history.proofs.StateTable.{Passes-from_IsTransaction, matched_passes}
use Rattle.aud_history.proofs.Tables.{any-transactions}
use Rattle.aud_history.proofs.RowLaws.{nothing_else}
use Rattle.aud_history.proofs.Numbers.{tx-rows}
use Rattle.aud_witness.specs.declared.decision.Fate.TheVariants.{C}
use Rattle.aud_witness.specs.Orders.{is_allowed}
use Rattle.aud_witness.proofs.Bridge.{row-at, status-allowed}
use Rattle.aud_order.specs.Silent.{leaves_objects, silent_by, silent_fate, silent_row}
use Rattle.aud_witness.proofs.BridgeSteps.{asked-from_allowed, absent-from_position, any-at}
use Rattle.aud_order.proofs.Standing.{got}

-- what follows an end or the wish for one leaves the objects
left-tried : (es : List Event) → Passes TriedCommit es → list_all leaves_objects es ≡ true
left-tried [] p = refl
left-tried (Inv _ _ ∷ es) p = absurd p
left-tried (Ret _ _ _ ∷ es) p = absurd p
left-tried (TryC ∷ es) p = absurd p
left-tried (TryA ∷ es) p = absurd p
left-tried (Commit ∷ es) p = ap (list_all leaves_objects) (nothing_else es p)
left-tried (Abort ∷ es) p = ap (list_all leaves_objects) (nothing_else es p)

-- a transaction that may commit is observing by its events where it is by its executions
by-executions : (es : List Event) → Passes Idle es → (list_any is_commit es || list_any is_try_commit es) ≡ true → list_all (λ (x : Execution). is_observing x.op) (block_of es).executions ≡ list_all leaves_objects es
by-executions [] p want = refl
by-executions (Inv o op ∷ []) p want = absurd (let wrong : false ≡ true = want in cc)
by-executions (Inv o op ∷ Ret o' name answer ∷ es) p want =
    let q = matched_passes (is_match o op o' name) es p in
    ap (λ b. is_observing op && b) (by-executions es q.1 want)
by-executions (Inv o op ∷ Inv _ _ ∷ es) p want = absurd p
by-executions (Inv o op ∷ TryC ∷ es) p want = absurd p
by-executions (Inv o op ∷ TryA ∷ es) p want = absurd p
by-executions (Inv o op ∷ Commit ∷ es) p want = absurd p
by-executions (Inv o op ∷ Abort ∷ es) p want =
    let none : es ≡ [] = nothing_else es p in
    absurd (let wrong : false ≡ true = subst (λ l. (list_any is_commit l || list_any is_try_commit l) ≡ true) none want in cc)
by-executions (Ret _ _ _ ∷ es) p want = absurd p
by-executions (TryC ∷ es) p want = sym (left-tried es p)
by-executions (TryA ∷ es) p want = absurd (given_up es p want)
  where
    given_up : (es : List Event) → Passes TriedAbort es → (list_any is_commit es || list_any is_try_commit es) ≡ true → ⊥
    given_up [] p want = let wrong : false ≡ true = want in cc
    given_up (Inv _ _ ∷ es) p want = absurd p
    given_up (Ret _ _ _ ∷ es) p want = absurd p
    given_up (TryC ∷ es) p want = absurd p
    given_up (TryA ∷ es) p want = absurd p
    given_up (Commit ∷ es) p want = absurd p
    given_up (Abort ∷ es) p want =
        let wrong : false ≡ true = subst (λ l. (list_any is_commit l || list_any is_try_commit l) ≡ true) (nothing_else es p) want in cc
by-executions (Commit ∷ es) p want = absurd p
by-executions (Abort ∷ es) p want = absurd p

-- the row of a transaction gives its silent fate
pub silent-row : (h : History) (t : ℕ) → IsWellFormed h → is_in h t ≡ true → silent_row (row_of h t) ≡ silent_fate h t
silent-row h t fine there =
    ap (λ b. silent_by b observes) (status-allowed h t C fine)
    ∙ go (is_allowed h t C) refl
    ∙ sym (ap (λ b. cond b (silent_by (is_allowed h t C) (list_all leaves_objects (events_of t h))) None) there)
  where
    observes : Bool
    observes = list_all (λ (x : Execution). is_observing x.op) (block_of (events_of t h)).executions

    go : (b : Bool) → is_allowed h t C ≡ b → silent_by b (list_all (λ (x : Execution). is_observing x.op) (block_of (events_of t h)).executions) ≡ silent_by b (list_all leaves_objects (events_of t h))
    go true is = ap (silent_by true) (by-executions (events_of t h) (Passes-from_IsTransaction (events_of t h) (fine t)) (asked-from_allowed h t is))
    go false is = refl

-- the row that is found for a transaction is its own
pub row-found : (h : History) (t k : ℕ) → position (nat_eq t) (map (λ (r : RowOf). r.tx) (table_of h)) ≡ Some k → (slice_get (table_of h) k ≡ Some (row_of h t)) × (is_in h t ≡ true)
row-found h t k found =
    let place = position-Some (nat_eq t) (transactions h) k 0 (ap (position (nat_eq t)) (sym (tx-rows h (transactions h))) ∙ found) in
    let at : get_or (transactions h) k 0 ≡ t = sym (nat_eq-is t (get_or (transactions h) k 0) place.1) in (
      row-at h (transactions h) k 0 place.0 ∙ ap (λ u. Some (row_of h u)) at,
      sym (any-transactions h t) ∙ any-at t (transactions h) k 0 place.0 place.1,
    )

pub silent-found : (h : History) (t k : ℕ) (r d : RowOf) → IsWellFormed h → position (nat_eq t) (map (λ (r : RowOf). r.tx) (table_of h)) ≡ Some k → r ≡ get_or (table_of h) k d → silent_row r ≡ silent_fate h t
silent-found h t k r d fine found is =
    let (at, there) = row-found h t k found in
    ap silent_row (is ∙ got (table_of h) k d (row_of h t) at) ∙ silent-row h t fine there

pub silent-none : (h : History) (t : ℕ) → position (nat_eq t) (map (λ (r : RowOf). r.tx) (table_of h)) ≡ None → None ≡ silent_fate h t
silent-none h t none =
    let absent : is_in h t ≡ false = sym (any-transactions h t) ∙ absent-from_position (nat_eq t) (transactions h) (ap (position (nat_eq t)) (sym (tx-rows h (transactions h))) ∙ none) in
    sym (ap (λ b. cond b (silent_by (is_allowed h t C) (list_all leaves_objects (events_of t h))) None) absent)
