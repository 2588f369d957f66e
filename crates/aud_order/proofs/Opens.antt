-- The rows that are placed from the first one on.
use Rattle.std.specs.Prelude.{◌≡◌, ℕ, ◌+◌, ◌<◌, Bool, true, false, nat_eq, nat_lt, List, map, Option, Some, None, Result, Ok, Err, slice_get, slice_set, refl}
use Rattle.std.specs.List.{position}
use Rattle.std.proofs.Common.{sym, ap, subst, inl, inr, arith, get_or, set}
use Rattle.std.proofs.lemmas.Bool.Decides.{nat_tests}
use Rattle.base_values.proofs.Bools.{split}
use Rattle.aud_history.specs.Table.{RowOf}
use Rattle.aud_kinds.specs.Objects.{ObjState}
use Rattle.aud_object.specs.Replayed.{replayed}
use Rattle.aud_witness.specs.declared.decision.Decision.{Decision}
use Rattle.aud_witness.specs.declared.fault.OrderFault.{OrderFault}
use Rattle.aud_witness.specs.declared.fault.OrderFault.TheVariants.{UnknownTx, Illegal}
use Rattle.aud_witness.specs.Configurations.{Configuration, stepped, row_stepped, block_stepped, early_fault, states_with}
use Rattle.aud_order.specs.Cursors.{ArePlaced}
use Rattle.aud_witness.proofs.PlacingLemmas.{set_true-keeps}

ok-block : (s t : Configuration) (d : Decision) (k : ℕ) (r : RowOf) → block_stepped s d k r ≡ Ok t → t.placed ≡ set s.placed k true
ok-block s t d k r = go (replayed s.states r.block)
  where
    go : (o : Option (List ObjState)) →
        elim o as (λ (_ : Option (List ObjState)). Result Configuration OrderFault) [ None ↦ Err (Illegal d.tx) | Some after ↦ Ok (record { placed = slice_set s.placed k true; states = states_with d.fate s.states after }) ] ≡ Ok t →
        t.placed ≡ set s.placed k true
    go None is = cc
    go (Some after) is = let configuration : record { placed = slice_set s.placed k true; states = states_with d.fate s.states after } ≡ t = cc in sym (ap (λ (x : Configuration). x.placed) configuration)

ok-row : (rows : List RowOf) (s t : Configuration) (d : Decision) (k : ℕ) (r : RowOf) → row_stepped rows s d k r ≡ Ok t → t.placed ≡ set s.placed k true
ok-row rows s t d k r = go (early_fault rows s d k r)
  where
    go : (o : Option OrderFault) → elim o as (λ (_ : Option OrderFault). Result Configuration OrderFault) [ Some fault ↦ Err fault | None ↦ block_stepped s d k r ] ≡ Ok t → t.placed ≡ set s.placed k true
    go None is = ok-block s t d k r is
    go (Some fault) is = cc

-- a step places the row of its transaction
pub step-places : (rows : List RowOf) (s t : Configuration) (d : Decision) → stepped rows s d ≡ Ok t →
    (k : ℕ) × ((position (nat_eq d.tx) (map (λ (r : RowOf). r.tx) rows) ≡ Some k) × (t.placed ≡ set s.placed k true))
step-places rows s t d = go (position (nat_eq d.tx) (map (λ (r : RowOf). r.tx) rows)) refl
  where
    at : (k : ℕ) (o : Option RowOf) → elim o as (λ (_ : Option RowOf). Result Configuration OrderFault) [ None ↦ Err (UnknownTx d.tx) | Some r ↦ row_stepped rows s d k r ] ≡ Ok t → t.placed ≡ set s.placed k true
    at k None is = cc
    at k (Some r) is = ok-row rows s t d k r is

    go : (o : Option ℕ) → position (nat_eq d.tx) (map (λ (r : RowOf). r.tx) rows) ≡ o →
        elim o as (λ (_ : Option ℕ). Result Configuration OrderFault) [ None ↦ Err (UnknownTx d.tx) | Some k ↦ elim (slice_get rows k) as (λ (_ : Option RowOf). Result Configuration OrderFault) [ None ↦ Err (UnknownTx d.tx) | Some r ↦ row_stepped rows s d k r ] ] ≡ Ok t →
        (k : ℕ) × ((position (nat_eq d.tx) (map (λ (r : RowOf). r.tx) rows) ≡ Some k) × (t.placed ≡ set s.placed k true))
    go None found is = absurd (cc)
    go (Some k) found is = (k, (found, at k (slice_get rows k) is))

-- what was placed before a step is placed after it
pub placed-after : (rows : List RowOf) (s t : Configuration) (d : Decision) (count : ℕ) → stepped rows s d ≡ Ok t → ArePlaced s.placed count → ArePlaced t.placed count
placed-after rows s t d count step are = λ j below.
    let (k, (_, is)) = step-places rows s t d step in
    subst (λ l. get_or l j false ≡ true) (sym is) (set_true-keeps s.placed k j (are j below))

-- one more row is placed
pub placed-more : (placed : List Bool) (count : ℕ) → ArePlaced placed count → get_or placed count false ≡ true → ArePlaced placed (count + 1)
placed-more placed count are here = λ k below.
    elim (split (nat_lt k count)) [
      | inl before ↦ let low : k < count = grind (arith, nat_tests) in are k low
      | inr not_before ↦ let same : k ≡ count = grind (arith, nat_tests) in subst (λ n. get_or placed n false ≡ true) (sym same) here
    ]
