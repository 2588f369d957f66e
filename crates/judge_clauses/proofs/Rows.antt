-- What the rows of the table say.
use Rattle.std.specs.Prelude.{◌≡◌, ℕ, true, ◌&&◌, nat_eq, nat_lt, List, map, Option, Some, None, IfSome, slice_get, slice_index_or}
use Rattle.std.specs.List.{position}
use Rattle.std.proofs.Common.{sym, ◌∙◌, ap, get_or}
use Rattle.std.proofs.lemmas.List.Quantifiers.{position-Some}
use Rattle.std.proofs.lemmas.Option.{get_or_from_slice_get}
use Rattle.base_values.proofs.Bools.{nat_eq-is}
use Rattle.aud_history.specs.Histories.{History, events_of, is_in, is_before}
use Rattle.aud_history.specs.Table.{RowOf, transactions, row_of, table_of, first_stamp, last_stamp}
use Rattle.aud_history.proofs.Numbers.{tx-rows}
use Rattle.aud_history.proofs.RowLaws.{is_before-by_stamps}
use Rattle.aud_history.proofs.Tables.{any-transactions}
use Rattle.aud_witness.specs.Configurations.{is_ended}
use Rattle.aud_witness.proofs.Bridge.{row-at, ended-status}
use Rattle.aud_witness.proofs.BridgeSteps.{any-at}

module _ (h : History) where
  -- a row that is found by its transaction
  pub row-found : (t k : ℕ) (r : RowOf) → position (nat_eq t) (map (λ (r : RowOf). r.tx) (table_of h)) ≡ Some k → r ≡ slice_index_or (table_of h) k r → (r ≡ row_of h t) × (is_in h t ≡ true)
  row-found t k r found read =
      let ts : List ℕ = transactions h in
      let at : position (nat_eq t) ts ≡ Some k = ap (position (nat_eq t)) (sym (tx-rows h ts)) ∙ found in
      let there = position-Some (nat_eq t) ts k 0 at in
      let own : slice_get (table_of h) k ≡ Some (row_of h (get_or ts k 0)) = row-at h ts k 0 there.0 in
      let is_t : t ≡ get_or ts k 0 = nat_eq-is t (get_or ts k 0) there.1 in
      (read ∙ get-read (table_of h) k r (row_of h (get_or ts k 0)) own ∙ ap (row_of h) (sym is_t), sym (any-transactions h t) ∙ any-at t ts k 0 there.0 there.1)
    where
      get-read : (rows : List RowOf) (k : ℕ) (d r : RowOf) → slice_get rows k ≡ Some r → slice_index_or rows k d ≡ r
      get-read rows k d r at = get_or_from_slice_get rows k r d at

  -- the row at the place that is found
  pub row-at_place : (t : ℕ) (o : Option ℕ) → position (nat_eq t) (map (λ (r : RowOf). r.tx) (table_of h)) ≡ o → IfSome o (λ k. slice_get (table_of h) k ≡ Some (row_of h t))
  row-at_place t None found = tt
  row-at_place t (Some k) found =
      let ts : List ℕ = transactions h in
      let there = position-Some (nat_eq t) ts k 0 (ap (position (nat_eq t)) (sym (tx-rows h ts)) ∙ found) in
      row-at h ts k 0 there.0 ∙ ap (λ u. Some (row_of h u)) (sym (nat_eq-is t (get_or ts k 0) there.1))

  -- one ended before the other began
  pub before-rows : (t u : ℕ) (first second : RowOf) → first ≡ row_of h t → second ≡ row_of h u → is_in h t ≡ true → is_in h u ≡ true → is_ended first.status ≡ true → nat_lt first.last second.first ≡ true → is_before h t u ≡ true
  before-rows t u first second is_first is_second there_t there_u ended less =
      let ended_t : is_ended (row_of h t).status ≡ true = ap (λ (r : RowOf). is_ended r.status) (sym is_first) ∙ ended in
      let less_tu : nat_lt (last_stamp h t) (first_stamp h u) ≡ true =
      ap (λ (r : RowOf). nat_lt r.last (first_stamp h u)) (sym is_first) ∙ ap (λ (r : RowOf). nat_lt first.last r.first) (sym is_second) ∙ less in
      is_before-by_stamps h t u there_t ∙ ap (λ k. k && is_in h u && nat_lt (last_stamp h t) (first_stamp h u)) (sym (ended-status (events_of t h)) ∙ ended_t)
      ∙ ap (λ k. k && nat_lt (last_stamp h t) (first_stamp h u)) there_u ∙ less_tu
