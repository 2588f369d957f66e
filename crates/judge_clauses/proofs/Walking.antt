-- Steps of a walk along an order that shows, and the rows that it meets.
use Rattle.std.specs.Prelude.{◌≡◌, ℕ, zero, suc, ◌<◌, true, false, nat_eq, List, [], ◌∷◌, length, map, Option, Some, None, Result, Ok, Err, slice_get, slice_set, refl}
use Rattle.std.specs.List.{list_any, position}
use Rattle.std.proofs.Common.{sym, ◌∙◌, ap, subst, inl, inr, arith, cond, get_or}
use Rattle.std.proofs.lemmas.List.Quantifiers.{position-Some}
use Rattle.aud_event.specs.Meanings.{Declared}
use Rattle.base_values.proofs.Bools.{or_true, split, nat_eq-is, nat_eq-refl}
use Rattle.aud_object.specs.declared.execution.Execution.{Execution}
use Rattle.aud_kinds.specs.Objects.{ObjState, opening_of}
use Rattle.aud_object.specs.Replayed.{after_at, answer_at, answers, executed, replayed}
use Rattle.aud_history.specs.Histories.{History, is_in}
use Rattle.aud_history.specs.Table.{RowOf, transactions, row_of, table_of}
use Rattle.aud_history.proofs.Numbers.{tx-rows}
use Rattle.aud_history.proofs.Tables.{any-transactions}
use Rattle.aud_witness.specs.declared.decision.Decision.{Decision}
use Rattle.aud_witness.specs.declared.fault.OrderFault.{OrderFault}
use Rattle.aud_witness.specs.declared.fault.OrderFault.TheVariants.{UnknownTx, Illegal}
use Rattle.aud_witness.specs.Configurations.{Configuration, states_with, early_fault, block_stepped, row_stepped, stepped}
use Rattle.aud_witness.proofs.Bridge.{row-at}

pub off : (a b : ℕ) → nat_eq a b ≡ false → a ≡ b → ⊥
off a b not_so is = let is_so : nat_eq a b ≡ true = ap (nat_eq a) (sym is) ∙ nat_eq-refl a in cc

-- an execution that ran, with those after it
pub ran-first : (states : List ObjState) (e : Execution) (es : List Execution) (after : List ObjState) → executed states (e ∷ es) ≡ Some after →
    (answers (answer_at states e.object e.op) e.answer ≡ true) × (executed (after_at states e.object e.op) es ≡ Some after)
ran-first states e es after led =
    elim (split (answers (answer_at states e.object e.op) e.answer)) [
      | inl is_so ↦ (is_so, sym (ap (λ b. cond b (executed (after_at states e.object e.op) es) None) is_so) ∙ led)
      | inr not_so ↦
          absurd (
          let none : None ≡ Some after = sym (ap (λ b. cond b (executed (after_at states e.object e.op) es) None) not_so) ∙ led in
          cc
          )
    ]

-- # A step of a walk

abbrev pub Led : History → Configuration → Configuration → Decision → Type 0
Led h s u d = (after : List ObjState) × ((replayed s.states (row_of h d.tx).block ≡ Some after) × (u.states ≡ states_with d.fate s.states after))

pub stepped-led : (h : History) (s u : Configuration) (d : Decision) → stepped (table_of h) s d ≡ Ok u → Led h s u d
stepped-led h s u d is = go (position (nat_eq d.tx) (map (λ (r : RowOf). r.tx) (table_of h))) refl is
  where
    by_block : (o : Option (List ObjState)) (k : ℕ) → replayed s.states (row_of h d.tx).block ≡ o →
        (elim o as (λ (_ : Option (List ObjState)). Result Configuration OrderFault) [ None ↦ Err (Illegal d.tx) | Some after ↦ Ok (record { placed = slice_set s.placed k true; states = states_with d.fate s.states after }) ]) ≡ Ok u → Led h s u d
    by_block None k at is = absurd (cc)
    by_block (Some after) k at is =
        let next : Configuration = record { placed = slice_set s.placed k true; states = states_with d.fate s.states after } in
        let same : next ≡ u = cc in
        (after, (at, sym (ap (λ (z : Configuration). z.states) same)))

    by_early : (o : Option OrderFault) (k : ℕ) →
        (elim o as (λ (_ : Option OrderFault). Result Configuration OrderFault) [ Some fault ↦ Err fault | None ↦ block_stepped s d k (row_of h d.tx) ]) ≡ Ok u → Led h s u d
    by_early (Some fault) k is = absurd (cc)
    by_early None k is = by_block (replayed s.states (row_of h d.tx).block) k refl is

    go : (o : Option ℕ) → position (nat_eq d.tx) (map (λ (r : RowOf). r.tx) (table_of h)) ≡ o →
        (elim o as (λ (_ : Option ℕ). Result Configuration OrderFault) [ None ↦ Err (UnknownTx d.tx) | Some k ↦ elim (slice_get (table_of h) k) as (λ (_ : Option RowOf). Result Configuration OrderFault) [ None ↦ Err (UnknownTx d.tx) | Some r ↦ row_stepped (table_of h) s d k r ] ]) ≡ Ok u → Led h s u d
    go None found is = absurd (cc)
    go (Some k) found is =
        let place = position-Some (nat_eq d.tx) (transactions h) k 0 (ap (position (nat_eq d.tx)) (sym (tx-rows h (transactions h))) ∙ found) in
        let row : slice_get (table_of h) k ≡ Some (row_of h d.tx) = row-at h (transactions h) k 0 place.0 ∙ ap (λ t. Some (row_of h t)) (sym (nat_eq-is d.tx _ place.1)) in
        by_early (early_fault (table_of h) s d k (row_of h d.tx)) k
        (sym (ap (λ o. elim o as (λ (_ : Option RowOf). Result Configuration OrderFault) [ None ↦ Err (UnknownTx d.tx) | Some r ↦ row_stepped (table_of h) s d k r ]) row) ∙ is)

-- # Rows and openings

-- what is among them has a place
place-among : (ts : List ℕ) (n : ℕ) → list_any (nat_eq n) ts ≡ true → (k : ℕ) × ((k < length ts) × (get_or ts k 0 ≡ n))
place-among [] n there = absurd (cc)
place-among (t ∷ ts) n there =
    elim (or_true (nat_eq n t) (list_any (nat_eq n) ts) there) [
      | inl here ↦ (0, (omega arith, sym (nat_eq-is n t here)))
      | inr later ↦
          let (k, (low, is)) = place-among ts n later in
          (suc k, (omega arith, is))
    ]

-- each transaction of the history has a row in the table
pub row-there : (h : History) (n : ℕ) → is_in h n ≡ true → (k : ℕ) × (slice_get (table_of h) k ≡ Some (row_of h n))
row-there h n there =
    let (k, (inside, is)) = place-among (transactions h) n (any-transactions h n ∙ there) in
    (k, row-at h (transactions h) k 0 inside ∙ ap (λ u. Some (row_of h u)) is)

pub get-opening : (objects : List Declared) (x : ℕ) (d : Declared) → slice_get objects x ≡ Some d → slice_get (map opening_of objects) x ≡ Some (opening_of d)
get-opening [] x d at = absurd (cc)
get-opening (e ∷ objects) zero d at = let same : e ≡ d = cc in ap (λ d. Some (opening_of d)) same
get-opening (e ∷ objects) (suc x) d at = get-opening objects x d at

-- what stands in the table is the row of its transaction
own-row-of : (h : History) (ts : List ℕ) (k : ℕ) (row : RowOf) → slice_get (map (row_of h) ts) k ≡ Some row → row ≡ row_of h row.tx
own-row-of h [] k row at = absurd (cc)
own-row-of h (t ∷ ts) zero row at = let same : row_of h t ≡ row = cc in subst (λ (r : RowOf). r ≡ row_of h r.tx) same refl
own-row-of h (t ∷ ts) (suc k) row at = own-row-of h ts k row at

pub own-row : (h : History) (k : ℕ) (row : RowOf) → slice_get (table_of h) k ≡ Some row → row ≡ row_of h row.tx
own-row h k row at = own-row-of h (transactions h) k row at
