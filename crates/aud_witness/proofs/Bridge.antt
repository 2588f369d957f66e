-- Placing by the rows of the table is placing by the definition.
use Rattle.std.specs.Prelude.{◌≡◌, ℕ, suc, zero, ◌<◌, Bool, true, false, not, ◌&&◌, ◌||◌, if◌then◌else◌, nat_eq, nat_lt, List, [], ◌∷◌, map, filter, length, Some, slice_get, refl}
use Rattle.std.specs.List.{list_any, list_all}
use Rattle.std.proofs.Common.{sym, ◌∙◌, ap, subst, cond, inl, inr, arith, get_or}
use Rattle.aud_event.specs.declared.fact.Event.{Event}
use Rattle.base_values.proofs.Bools.{or_right, true_or, split, nat_eq-is, nat_eq-refl}
use Rattle.aud_history.specs.declared.status.Status.{Status}
use Rattle.aud_history.specs.declared.status.Status.TheVariants.{Committed, Aborted, CommitPending, Live}
use Rattle.aud_history.specs.Histories.{History, events_of, is_in, is_commit, is_abort, is_try_commit, is_committed, is_aborted, is_completed, is_before}
use Rattle.aud_history.specs.WellFormed.{IsWellFormed}
use Rattle.aud_history.specs.Table.{transactions, tx_status, first_stamp, last_stamp, row_of, table_of}
use Rattle.aud_history.proofs.Ends.{not_both}
use Rattle.aud_history.proofs.Tables.{any-transactions}
use Rattle.aud_history.proofs.RowLaws.{is_before-by_stamps}
use Rattle.aud_witness.specs.declared.decision.Fate.{Fate}
use Rattle.aud_witness.specs.declared.decision.Fate.TheVariants.{C, A}
use Rattle.aud_witness.specs.declared.decision.Decision.{Decision}
use Rattle.aud_witness.specs.Orders.{is_allowed, is_named}
use Rattle.aud_witness.specs.OrderFaults.{is_enabled}
use Rattle.aud_witness.specs.Configurations.{is_ended, status_allows, are_earlier_placed}

-- # Rows of the table

pub row-at : (h : History) (ts : List ℕ) (k : ℕ) (d : ℕ) → k < length ts → slice_get (map (row_of h) ts) k ≡ Some (row_of h (get_or ts k d))
row-at h [] k d inside = absurd (omega arith)
row-at h (t ∷ ts) zero d inside = refl
row-at h (t ∷ ts) (suc k) d inside = row-at h ts k d (omega arith)

pub named-at : (f : ℕ → Bool) (ts : List ℕ) (k : ℕ) (d : ℕ) → k < length ts → get_or (map f ts) k false ≡ f (get_or ts k d)
named-at f [] k d inside = absurd (omega arith)
named-at f (t ∷ ts) zero d inside = refl
named-at f (t ∷ ts) (suc k) d inside = named-at f ts k d (omega arith)

-- # Statuses

pub ended-status : (es : List Event) → is_ended (tx_status es) ≡ (list_any is_commit es || list_any is_abort es)
ended-status es =
    elim (list_any is_commit es) as (λ c. is_ended (if c then Committed else (if list_any is_abort es then Aborted else (if list_any is_try_commit es then CommitPending else Live))) ≡ (c || list_any is_abort es)) [
      | true ↦ refl
      | false ↦
          elim (list_any is_abort es) as (λ a. is_ended (if a then Aborted else (if list_any is_try_commit es then CommitPending else Live)) ≡ a) [
            | true ↦ refl
            | false ↦ elim (list_any is_try_commit es) as (λ p. is_ended (if p then CommitPending else Live) ≡ false) [ true ↦ refl | false ↦ refl ]
          ]
    ]

-- the tests on which fates depend: committed, aborted, asked to commit
abbrev allowed_by : Bool → Bool → Bool → Fate → Bool
allowed_by c a p C = c || (not (c || a) && p)
allowed_by c a p A = a || not (c || a)

abbrev status_by : Bool → Bool → Bool → Status
status_by c a p = if c then Committed else (if a then Aborted else (if p then CommitPending else Live))

allows-by : (c a p : Bool) (fate : Fate) → (a ≡ true → c ≡ false) → status_allows (status_by c a p) fate ≡ allowed_by c a p fate
allows-by true true p fate apart = absurd (let wrong : true ≡ false = apart refl in cc)
allows-by true false p C apart = refl
allows-by true false p A apart = refl
allows-by false true p C apart = refl
allows-by false true p A apart = refl
allows-by false false true C apart = refl
allows-by false false true A apart = refl
allows-by false false false C apart = refl
allows-by false false false A apart = refl

allowed-by : (h : History) (t : ℕ) (fate : Fate) → is_allowed h t fate ≡ allowed_by (is_committed h t) (is_aborted h t) (list_any is_try_commit (events_of t h)) fate
allowed-by h t C = refl
allowed-by h t A = refl

pub status-allowed : (h : History) (t : ℕ) (fate : Fate) → IsWellFormed h → status_allows (tx_status (events_of t h)) fate ≡ is_allowed h t fate
status-allowed h t fate fine =
    allows-by (is_committed h t) (is_aborted h t) (list_any is_try_commit (events_of t h)) fate (λ aborts. not_both (events_of t h) (fine t) aborts)
    ∙ sym (allowed-by h t fate)

-- # Real time

-- row by row: what is before U in H is named
earlier-rows : (h : History) (f : ℕ → Bool) (u : ℕ) (ts : List ℕ) → is_in h u ≡ true → ((t : ℕ) → list_any (nat_eq t) ts ≡ true → is_in h t ≡ true) →
    are_earlier_placed (map (row_of h) ts) (map f ts) (first_stamp h u) ≡ list_all (λ t. not (is_before h t u) || f t) ts
earlier-rows h f u [] there each = refl
earlier-rows h f u (t ∷ ts) there each =
    let in_h : is_in h t ≡ true = each t (true_or (nat_eq t t) (list_any (nat_eq t) ts) (nat_eq-refl t)) in
    let late : (is_ended (tx_status (events_of t h)) && nat_lt (last_stamp h t) (first_stamp h u)) ≡ is_before h t u =
    ap (λ k. k && nat_lt (last_stamp h t) (first_stamp h u)) (ended-status (events_of t h))
    ∙ sym (is_before-by_stamps h t u in_h ∙ ap (λ k. is_completed h t && k && nat_lt (last_stamp h t) (first_stamp h u)) there ∙ ap (λ k. k && nat_lt (last_stamp h t) (first_stamp h u)) (and_nothing (is_completed h t))) in
    ap (λ k. (not k || f t) && are_earlier_placed (map (row_of h) ts) (map f ts) (first_stamp h u)) late
    ∙ ap (λ k. (not (is_before h t u) || f t) && k) (earlier-rows h f u ts there (λ s inside. each s (or_right (nat_eq s t) (list_any (nat_eq s) ts) inside)))
  where
    and_nothing : (a : Bool) → (a && true) ≡ a
    and_nothing true = refl
    and_nothing false = refl

all-without : (q : ℕ → Bool) (t : ℕ) (ts : List ℕ) → q t ≡ true → list_all q (filter (λ s. not (nat_eq s t)) ts) ≡ list_all q ts
all-without q t [] holds = refl
all-without q t (s ∷ ts) holds =
    elim (split (nat_eq s t)) [
      | inl same ↦
          ap (λ k. list_all q (cond (not k) (s ∷ filter (λ s. not (nat_eq s t)) ts) (filter (λ s. not (nat_eq s t)) ts))) same
          ∙ all-without q t ts holds ∙ sym (ap (λ k. k && list_all q ts) (subst (λ n. q n ≡ true) (sym (nat_eq-is s t same)) holds))
      | inr other ↦
          ap (λ k. list_all q (cond (not k) (s ∷ filter (λ s. not (nat_eq s t)) ts) (filter (λ s. not (nat_eq s t)) ts))) other
          ∙ ap (λ k. q s && k) (all-without q t ts holds)
    ]

-- a test of all transactions is one of all events
all-transactions : (q : ℕ → Bool) (h : History) → list_all q (transactions h) ≡ list_all (λ e. q e.0) h
all-transactions q [] = refl
all-transactions q (e ∷ h) =
    elim (split (q e.0)) [
      | inl holds ↦ ap (λ k. q e.0 && k) (all-without q e.0 (transactions h) holds ∙ all-transactions q h)
      | inr fails ↦
          ap (λ k. k && list_all q (filter (λ t. not (nat_eq t e.0)) (transactions h))) fails ∙ sym (ap (λ k. k && list_all (λ e. q e.0) h) fails)
    ]

pub enabled-by_rows : (h : History) (p : List Decision) (u : ℕ) → is_in h u ≡ true →
    are_earlier_placed (table_of h) (map (is_named p) (transactions h)) (first_stamp h u) ≡ is_enabled h p u
enabled-by_rows h p u there =
    earlier-rows h (is_named p) u (transactions h) there (λ t inside. sym (any-transactions h t) ∙ inside)
    ∙ all-transactions (λ t. not (is_before h t u) || is_named p t) h
