-- A placing: what is ready, and the way back.
use Rattle.std.specs.Prelude.{◌≡◌, ◌≢◌, ℕ, suc, zero, ◌+◌, ◌-◌, ◌<◌, ◌≤◌, Bool, true, false, not, ◌&&◌, ◌||◌, if◌then◌else◌, nat_lt, nat_le, List, [], ◌∷◌, ◌++◌, length, replicate, reverse, Option, Some, None, Result, Ok, Err, MatchOption, slice_get, slice_index_or, refl}
use Rattle.std.proofs.Common.{sym, ◌∙◌, ap, subst, cond, inl, inr, arith, get_or, set, drop, length-set}
use Rattle.std.proofs.lemmas.Bool.Decides.{nat_tests}
use Rattle.std.proofs.lemmas.List.{reverse-append, drop_more}
use Rattle.base_values.proofs.Bools.{or_true, and_true, true_and, or_right, true_or, not_true, not_false, split, is_false}
use Rattle.aud_kinds.specs.Objects.{ObjState}
use Rattle.aud_object.specs.Meanings.{StoreOf}
use Rattle.aud_object.specs.Replayed.{replayed}
use Rattle.aud_witness.specs.declared.decision.Fate.{Fate}
use Rattle.aud_witness.specs.declared.decision.Fate.TheVariants.{C, A}
use Rattle.aud_witness.specs.declared.decision.Decision.{Decision}
use Rattle.aud_witness.specs.declared.fault.OrderFault.{OrderFault}
use Rattle.aud_witness.specs.declared.fault.OrderFault.TheVariants.{Illegal}
use Rattle.aud_history.specs.Table.{RowOf, fresh_row}
use Rattle.aud_witness.specs.declared.end.End.{End}
use Rattle.aud_witness.specs.declared.step.PlacedRow.{PlacedRow}
use Rattle.aud_witness.specs.Configurations.{Configuration, unplaced, is_ended, are_earlier_placed, states_with, block_stepped}
use Rattle.aud_witness.specs.Agendas.{AgendaOf, AreEnds, IsEarliest}
use Rattle.aud_witness.specs.Placings.{PlacingOf, CanGoBack, configurations_before, is_kept_fate, store_with, Advances}

get_or-false : (n i : ℕ) → get_or (replicate n false) i false ≡ false
get_or-false zero i = refl
get_or-false (suc n) zero = refl
get_or-false (suc n) (suc i) = get_or-false n i

-- where nothing is placed, no end is
pub IsEarliest-root : (ends : List End) (n : ℕ) → IsEarliest ends (replicate n false) 0
IsEarliest-root ends n = record {
  within = omega arith;
  before = λ k d below. absurd (omega arith);
  here = λ d some. get_or-false n (slice_index_or ends 0 d).row;
}

-- every row that ended below the stamp is placed, row by row
abbrev AllEarlier : List RowOf → List Bool → ℕ → Type 0
AllEarlier rows placed stamp = (i : ℕ) (r : RowOf) → slice_get rows i ≡ Some r → is_ended r.status ≡ true → r.last < stamp → get_or placed i false ≡ true

lt_true : (m n : ℕ) → m < n → nat_lt m n ≡ true
lt_true m n below = grind (arith, nat_tests)

pub lt_from : (m n : ℕ) → nat_lt m n ≡ true → m < n
lt_from m n test = grind (arith, nat_tests)

earlier-from_all : (rows : List RowOf) (placed : List Bool) (stamp : ℕ) → length placed ≡ length rows → AllEarlier rows placed stamp → are_earlier_placed rows placed stamp ≡ true
earlier-from_all [] placed stamp same all = refl
earlier-from_all (r ∷ rs) [] stamp same all = absurd (omega arith)
earlier-from_all (r ∷ rs) (b ∷ bs) stamp same all =
    true_and (not (is_ended r.status && nat_lt r.last stamp) || b) (are_earlier_placed rs bs stamp)
    (elim (split (is_ended r.status && nat_lt r.last stamp)) [
      | inl both ↦
          let parts = and_true (is_ended r.status) (nat_lt r.last stamp) both in
          or_right (not (is_ended r.status && nat_lt r.last stamp)) b (all 0 r refl parts.0 (lt_from r.last stamp parts.1))
      | inr other ↦ true_or (not (is_ended r.status && nat_lt r.last stamp)) b (not_false (is_ended r.status && nat_lt r.last stamp) other)
    ])
    (earlier-from_all rs bs stamp (omega arith) (λ i s at ended below. all (suc i) s at ended below))

all-from_earlier : (rows : List RowOf) (placed : List Bool) (stamp : ℕ) → length placed ≡ length rows → are_earlier_placed rows placed stamp ≡ true → AllEarlier rows placed stamp
all-from_earlier [] placed stamp same test i r at ended below = absurd (cc)
all-from_earlier (x ∷ rs) [] stamp same test i r at ended below = absurd (omega arith)
all-from_earlier (x ∷ rs) (b ∷ bs) stamp same test zero r at ended below =
    let is : x ≡ r = cc in
    let parts = and_true (not (is_ended x.status && nat_lt x.last stamp) || b) (are_earlier_placed rs bs stamp) test in
    let late : (is_ended x.status && nat_lt x.last stamp) ≡ true =
    true_and (is_ended x.status) (nat_lt x.last stamp) (ap (λ (y : RowOf). is_ended y.status) is ∙ ended) (lt_true x.last stamp (subst (λ m. m < stamp) (sym (ap (λ (y : RowOf). y.last) is)) below)) in
    elim (or_true (not (is_ended x.status && nat_lt x.last stamp)) b parts.0) [
      | inl early ↦ let clash : (is_ended x.status && nat_lt x.last stamp) ≡ false = not_true (is_ended x.status && nat_lt x.last stamp) early in absurd (cc)
      | inr placed ↦ placed
    ]
all-from_earlier (x ∷ rs) (b ∷ bs) stamp same test (suc i) r at ended below =
    all-from_earlier rs bs stamp (omega arith) (and_true (not (is_ended x.status && nat_lt x.last stamp) || b) (are_earlier_placed rs bs stamp) test).1 i r at ended below

same_some : (x y : RowOf) (o : Option RowOf) → o ≡ Some x → o ≡ Some y → x ≡ y
same_some x y o is same = cc

-- with no end left that isn't placed, every earlier row is placed
pub earlier-all_placed : (rows : List RowOf) (ends : List End) (placed : List Bool) (e stamp : ℕ) → AreEnds rows ends → IsEarliest ends placed e → length placed ≡ length rows →
    length ends ≤ e → are_earlier_placed rows placed stamp ≡ true
earlier-all_placed rows ends placed e stamp are first same past =
    earlier-from_all rows placed stamp same (λ i r at ended below.
    let d : End = record { last = 0; row = 0 } in
    let (k, (inside, row)) = are.whole i r d at ended in
    subst (λ n. get_or placed n false ≡ true) row (first.before k d (omega arith)))

-- else they are exactly where the stamp is not past the earliest end left
pub earlier-by_end : (rows : List RowOf) (ends : List End) (placed : List Bool) (e stamp : ℕ) (d : End) → AreEnds rows ends → IsEarliest ends placed e → length placed ≡ length rows →
    e < length ends → are_earlier_placed rows placed stamp ≡ nat_le stamp (slice_index_or ends e d).last
earlier-by_end rows ends placed e stamp d are first same inside =
    elim (split (nat_le stamp (slice_index_or ends e d).last)) [
      | inl low ↦
          earlier-from_all rows placed stamp same (λ i r at ended below.
          let (k, (within, row)) = are.whole i r d at ended in
          elim (split (nat_lt k e)) [
            | inl before ↦ subst (λ n. get_or placed n false ≡ true) row (first.before k d (lt_from k e before))
            | inr behind ↦
                let (s, (got, _, last)) = are.sound k d within in
                let is : s ≡ r = same_some s r (slice_get rows (slice_index_or ends k d).row) got (ap (slice_get rows) row ∙ at) in
                let lasts : s.last ≡ r.last = ap (λ (y : RowOf). y.last) is in
                let under : stamp ≤ (slice_index_or ends e d).last = grind (arith, nat_tests) in
                let not_before : e ≤ k = grind (arith, nat_tests) in
                let up : (slice_index_or ends e d).last ≤ (slice_index_or ends k d).last = rising_or_same e k not_before within in
                absurd (omega arith)
          ]) ∙ sym low
      | inr high ↦
          is_false (are_earlier_placed rows placed stamp) (λ test.
          let (s, (got, ended, last)) = are.sound e d inside in
          let over : (slice_index_or ends e d).last < stamp = grind (arith, nat_tests) in
          let below : s.last < stamp = omega arith in
          let is_placed : get_or placed (slice_index_or ends e d).row false ≡ true = all-from_earlier rows placed stamp same test (slice_index_or ends e d).row s got ended below in
          let is_not : get_or placed (slice_index_or ends e d).row false ≡ false = first.here d inside in
          absurd (cc))
          ∙ sym high
    ]
  where
    rising_or_same : (j k : ℕ) → j ≤ k → k < length ends → (slice_index_or ends j d).last ≤ (slice_index_or ends k d).last
    rising_or_same j k le within =
        elim (split (nat_lt j k)) [
          | inl less ↦ are.rising j k d (lt_from j k less) within
          | inr not_less ↦
              let same : j ≡ k = grind (arith, nat_tests) in
              subst (λ m. (slice_index_or ends j d).last ≤ (slice_index_or ends m d).last) same (omega arith)
        ]

pub set_true-keeps : (placed : List Bool) (k i : ℕ) → get_or placed i false ≡ true → get_or (set placed k true) i false ≡ true
set_true-keeps [] k i h = h
set_true-keeps (b ∷ bs) zero zero h = refl
set_true-keeps (b ∷ bs) zero (suc i) h = h
set_true-keeps (b ∷ bs) (suc k) zero h = h
set_true-keeps (b ∷ bs) (suc k) (suc i) h = set_true-keeps bs k i h

-- the ends placed before one more row is placed are placed after it
pub before-kept : (ends : List End) (placed : List Bool) (e k : ℕ) → IsEarliest ends placed e →
    (j : ℕ) (d : End) → j < e → get_or (set placed k true) (slice_index_or ends j d).row false ≡ true
before-kept ends placed e k first j d below = set_true-keeps placed k (slice_index_or ends j d).row (first.before j d below)

-- a row placed and taken back
pub set-back : (placed : List Bool) (k : ℕ) → get_or placed k false ≡ false → set (set placed k true) k false ≡ placed
set-back [] k h = refl
set-back (b ∷ bs) zero h = ap (λ c. c ∷ bs) (sym h)
set-back (b ∷ bs) (suc k) h = ap (λ l. b ∷ l) (set-back bs k h)

pub earliest-now : (ends : List End) (placed : List Bool) (past : List (List ObjState)) (e : ℕ) (steps : List PlacedRow) → CanGoBack ends placed past e steps → IsEarliest ends placed e
earliest-now ends placed past e [] h = h
earliest-now ends placed past e (x ∷ xs) h = h.0

pub not_lt : (m n : ℕ) → nat_lt m n ≡ false → n ≤ m
not_lt m n test = grind (arith, nat_tests)

-- # One decision placed

store_with-now : (fate : Fate) (store : StoreOf) (after : List ObjState) → (store_with fate store after).now ≡ states_with fate store.now after
store_with-now C store after = refl
store_with-now A store after = refl

abbrev pub step_of : ℕ → Fate → ℕ → PlacedRow
step_of k fate e = record { row = k; is_kept = is_kept_fate fate; earliest = e }

not_nothing : (s : List ObjState) (ss : List (List ObjState)) → (s ∷ ss) ≢ []
not_nothing s ss e = cc

-- the way back has one step more
back-front : (ends : List End) (placed : List Bool) (store : StoreOf) (after : List ObjState) (e e' k : ℕ) (fate : Fate) (xs : List PlacedRow) → k < length placed → get_or placed k false ≡ false →
    IsEarliest ends (set placed k true) e' → CanGoBack ends placed store.past e xs → CanGoBack ends (set placed k true) (store_with fate store after).past e' (step_of k fate e ∷ xs)
back-front ends placed store after e e' k C xs inside fresh first back =
    (first, omega (arith, length-set placed k true), (λ _. not_nothing store.now store.past), subst (λ l. CanGoBack ends l store.past e xs) (sym (set-back placed k fresh)) back)
back-front ends placed store after e e' k A xs inside fresh first back =
    (first, omega (arith, length-set placed k true), (λ h. cc), subst (λ l. CanGoBack ends l store.past e xs) (sym (set-back placed k fresh)) back)

configurations-front : (placed : List Bool) (store : StoreOf) (after : List ObjState) (e k : ℕ) (fate : Fate) (xs : List PlacedRow) → get_or placed k false ≡ false →
    configurations_before (set placed k true) (store_with fate store after).now (store_with fate store after).past (step_of k fate e ∷ xs)
    ≡ record { placed = placed; states = store.now } ∷ configurations_before placed store.now store.past xs
configurations-front placed store after e k C xs fresh = ap (λ l. record { placed = l; states = store.now } ∷ configurations_before l store.now store.past xs) (set-back placed k fresh)
configurations-front placed store after e k A xs fresh = ap (λ l. record { placed = l; states = store.now } ∷ configurations_before l store.now store.past xs) (set-back placed k fresh)

reverse-push : (xs : List PlacedRow) (x : PlacedRow) → reverse (xs ++ x ∷ []) ≡ x ∷ reverse xs
reverse-push xs x = reverse-append xs (x ∷ [])

pub back-pushed : (ends : List End) (placed : List Bool) (store new : StoreOf) (after : List ObjState) (e e' k : ℕ) (fate : Fate) (xs ys : List PlacedRow) → k < length placed → get_or placed k false ≡ false →
    IsEarliest ends (set placed k true) e' → CanGoBack ends placed store.past e (reverse xs) → new ≡ store_with fate store after → ys ≡ xs ++ step_of k fate e ∷ [] →
    CanGoBack ends (set placed k true) new.past e' (reverse ys)
back-pushed ends placed store new after e e' k fate xs ys inside fresh first back is grown =
    subst (λ l. CanGoBack ends (set placed k true) new.past e' l) (sym (ap reverse grown ∙ reverse-push xs (step_of k fate e)))
    (subst (λ (s : StoreOf). CanGoBack ends (set placed k true) s.past e' (step_of k fate e ∷ reverse xs)) (sym is)
    (back-front ends placed store after e e' k fate (reverse xs) inside fresh first back))

abbrev configuration_at : List Bool → ℕ → List ObjState → Configuration
configuration_at placed k s = record { placed = set placed k true; states = s }

-- the placing then is one decision further
pub advanced : (agenda : AgendaOf) (placed : List Bool) (store new : StoreOf) (after : List ObjState) (path path' : List Decision) (e k : ℕ) (d : Decision) (r : RowOf) (xs ys : List PlacedRow) →
    get_or placed k false ≡ false → replayed store.now r.block ≡ Some after → new ≡ store_with d.fate store after → ys ≡ xs ++ step_of k d.fate e ∷ [] → path' ≡ path ++ d ∷ [] →
    Advances
    (record { agenda = agenda; configuration = record { placed = placed; states = store.now }; path = path; past = configurations_before placed store.now store.past (reverse xs) })
    d
    (record { agenda = agenda; configuration = record { placed = set placed k true; states = new.now }; path = path'; past = configurations_before (set placed k true) new.now new.past (reverse ys) })
    (block_stepped (record { placed = placed; states = store.now }) d k r)
advanced agenda placed store new after path path' e k d r xs ys fresh runs is grown longer = record {
  configuration =
      ap (λ o. elim o as (λ (_ : Option (List ObjState)). Result Configuration OrderFault) [ None ↦ Err (Illegal d.tx) | Some s ↦ Ok (record { placed = set placed k true; states = states_with d.fate store.now s }) ]) runs
      ∙ ap (λ s. Ok (configuration_at placed k s)) (sym (ap (λ (s : StoreOf). s.now) is ∙ store_with-now d.fate store after));
  agenda = refl;
  path = longer;
  past =
      ap (λ (s : StoreOf). configurations_before (set placed k true) s.now s.past (reverse ys)) is
      ∙ ap (λ l. configurations_before (set placed k true) (store_with d.fate store after).now (store_with d.fate store after).past l) (ap reverse grown ∙ reverse-push xs (step_of k d.fate e))
      ∙ configurations-front placed store after e k d.fate (reverse xs) fresh;
}

-- a block that was tried and was right
pub tried : (o : Option (List ObjState)) (right : Bool) (fate : Fate) (store new : StoreOf) →
    MatchOption o ((right ≡ false) × (new ≡ store)) (λ after. (right ≡ true) × (new ≡ store_with fate store after)) → right ≡ true →
    (after : List ObjState) × ((o ≡ Some after) × (new ≡ store_with fate store after))
tried None right fate store new h is = absurd (let wrong : right ≡ false = h.0 in cc)
tried (Some after) right fate store new h is = (after, (refl, h.1))

-- the same of a placing that is seen as the first
pub advanced-view : (old seen new : PlacingOf) (d : Decision) (k : ℕ) (r : RowOf) → old ≡ seen → Advances old d new (block_stepped old.configuration d k r) → Advances seen d new (block_stepped seen.configuration d k r)
advanced-view old seen new d k r is advances = subst (λ (v : PlacingOf). Advances v d new (block_stepped v.configuration d k r)) is advances

-- the rows from one on
unplaced-at : (rows : List RowOf) (placed : List Bool) (k : ℕ) (d : RowOf) → k < length rows → length placed ≡ length rows →
    unplaced (drop k rows) (drop k placed) ≡ (if get_or placed k false then unplaced (drop (k + 1) rows) (drop (k + 1) placed) else (get_or rows k d).tx ∷ unplaced (drop (k + 1) rows) (drop (k + 1) placed))
unplaced-at rows placed k d inside same =
    ap (λ l. unplaced l (drop k placed)) (drop_more rows k d inside)
    ∙ ap (unplaced (get_or rows k d ∷ drop (k + 1) rows)) (drop_more placed k false (omega arith))

pub unplaced-over : (rows : List RowOf) (placed : List Bool) (n : ℕ) → 0 < n → n ≤ length rows → length placed ≡ length rows → get_or placed (n - 1) false ≡ true →
    unplaced (drop n rows) (drop n placed) ≡ unplaced (drop (n - 1) rows) (drop (n - 1) placed)
unplaced-over rows placed n some inside same there =
    let back : n - 1 + 1 ≡ n = omega arith in
    sym
    (unplaced-at rows placed (n - 1) (fresh_row 0 0) (omega arith) same
    ∙ ap (λ b. cond b (unplaced (drop (n - 1 + 1) rows) (drop (n - 1 + 1) placed)) ((get_or rows (n - 1) (fresh_row 0 0)).tx ∷ unplaced (drop (n - 1 + 1) rows) (drop (n - 1 + 1) placed))) there
    ∙ ap (λ m. unplaced (drop m rows) (drop m placed)) back)
