-- The choices of a history, row by row, and in another order.
use Rattle.std.specs.Prelude.{◌≡◌, ℕ, zero, suc, ◌+◌, ◌<◌, ◌≤◌, Bool, true, false, not, ◌&&◌, ◌||◌, if◌then◌else◌, nat_eq, List, [], ◌∷◌, ◌++◌, map, length, Option, Some, slice_get, refl}
use Rattle.std.specs.List.{Contains, list_any, sum_by}
use Rattle.std.specs.List.Sorted.{IsPermutation}
use Rattle.std.proofs.Common.{sym, ◌∙◌, ap, subst, cond, inl, inr, arith, get_or, take}
use Rattle.std.proofs.lemmas.List.{take_more, append-nil, length-take-le}
use Rattle.std.proofs.lemmas.List.Elements.{Contains-append_left, Contains-append_right, Contains-append_cases, Contains-push_cases}
use Rattle.std.proofs.lemmas.List.Sums.{sum_by-append}
use Rattle.std.proofs.lemmas.List.Sorted.{IsPermutation-sym, IsPermutation-map, Contains-permutation, sum_by-IsPermutation}
use Rattle.base_values.proofs.Bools.{or_false, and_true, not_true, split, nat_eq-refl, nat_eq-is}
use Rattle.aud_history.specs.Histories.{History}
use Rattle.aud_history.specs.WellFormed.{IsWellFormed}
use Rattle.aud_history.specs.Table.{RowOf, transactions, row_of, table_of}
use Rattle.aud_history.proofs.Tables.{any-transactions, are_different, different-transactions}
use Rattle.aud_history.proofs.Numbers.{tx-rows}
use Rattle.aud_witness.specs.declared.decision.Fate.{Fate}
use Rattle.aud_witness.specs.declared.decision.Fate.TheVariants.{C, A}
use Rattle.aud_witness.specs.declared.decision.Decision.{Decision}
use Rattle.aud_witness.specs.Configurations.{status_allows}
use Rattle.aud_witness.proofs.Bridge.{row-at, status-allowed}
use Rattle.search_memo.specs.declared.choice.Choice.{Choice}
use Rattle.aud_order.specs.Silent.{silent_fate}
use Rattle.search_memo.specs.declared.choice.Visibility.TheVariants.{Silent}
use Rattle.search_memo.specs.Choices.{AreChoices, AreMarkedSilent, AreMarkedFrom, key_of, row_choices, both_choices, choices_from}

abbrev Key : Type 0
Key = ℕ × Decision

-- # One row more

append_all : (xs ys zs : List Key) → (xs ++ ys) ++ zs ≡ xs ++ (ys ++ zs)
append_all [] ys zs = refl
append_all (x ∷ xs) ys zs = ap (λ l. x ∷ l) (append_all xs ys zs)

choices_from-push : (n : ℕ) (rs : List RowOf) (r : RowOf) → choices_from n (rs ++ r ∷ []) ≡ choices_from n rs ++ both_choices (n + length rs) r
choices_from-push n [] r =
    let still : n ≡ n + 0 = omega arith in
    append-nil (both_choices n r) ∙ ap (λ m. both_choices m r) still
choices_from-push n (x ∷ rs) r =
    let up : suc n + length rs ≡ n + length (x ∷ rs) = omega arith in
    ap (λ l. both_choices n x ++ l) (choices_from-push (suc n) rs r ∙ ap (λ m. choices_from (suc n) rs ++ both_choices m r) up)
    ∙ sym (append_all (both_choices n x) (choices_from (suc n) rs) (both_choices (n + length (x ∷ rs)) r))

pub choices-both : (i : ℕ) (r : RowOf) (old mid new : List Key) → mid ≡ old ++ row_choices i r C → new ≡ mid ++ row_choices i r A → new ≡ old ++ both_choices i r
choices-both i r old mid new first second = second ∙ ap (λ l. l ++ row_choices i r A) first ∙ append_all old (row_choices i r C) (row_choices i r A)

pub choices-step : (rows : List RowOf) (i : ℕ) (r : RowOf) (old new : List Key) → i < length rows → r ≡ get_or rows i r → old ≡ choices_from 0 (take i rows) → new ≡ old ++ both_choices i r → new ≡ choices_from 0 (take (i + 1) rows)
choices-step rows i r old new inside at so_far both =
    let more : take (i + 1) rows ≡ take i rows ++ r ∷ [] = take_more rows i r inside ∙ ap (λ x. take i rows ++ x ∷ []) (sym at) in
    let count : 0 + length (take i rows) ≡ i = omega (arith, length-take-le i rows (omega arith)) in
    both ∙ ap (λ l. l ++ both_choices i r) so_far
    ∙ sym (ap (choices_from 0) more ∙ choices_from-push 0 (take i rows) r ∙ ap (λ m. choices_from 0 (take i rows) ++ both_choices m r) count)

-- # Which choices there are

abbrev IsOfRow : List RowOf → ℕ → Key → Type 0
IsOfRow rs n k = (j : ℕ) × ((r : RowOf) × ((n + j ≡ k.0) × (slice_get rs j ≡ Some r) × (r.tx ≡ k.1.tx)))

in-row : (n : ℕ) (r : RowOf) (f : Fate) (k : Key) → Contains (row_choices n r f) k → (n ≡ k.0) × (r.tx ≡ k.1.tx)
in-row n r f k = go (status_allows r.status f)
  where
    go : (b : Bool) → Contains (cond b ((n, record { tx = r.tx; fate = f }) ∷ []) []) k → (n ≡ k.0) × (r.tx ≡ k.1.tx)
    go true (zero, inside, is) = (ap (λ (x : Key). x.0) is, ap (λ (x : Key). x.1.tx) is)
    go true (suc i, inside, is) = absurd (omega arith)
    go false (i, inside, is) = absurd (omega arith)

of-row : (n : ℕ) (rs : List RowOf) (k : Key) → Contains (choices_from n rs) k → IsOfRow rs n k
of-row n [] k (i, inside, is) = absurd (omega arith)
of-row n (r ∷ rs) k member =
    elim (Contains-append_cases (both_choices n r) (choices_from (suc n) rs) k member) [
      | inl here ↦
          let own : (n ≡ k.0) × (r.tx ≡ k.1.tx) = elim (Contains-append_cases (row_choices n r C) (row_choices n r A) k here) [ inl c ↦ in-row n r C k c | inr a ↦ in-row n r A k a ] in
          let zero_on : n + 0 ≡ n = omega arith in
          (0, (r, (zero_on ∙ own.0, refl, own.1)))
      | inr later ↦
          let (j, (x, (place, at, tx))) = of-row (suc n) rs k later in
          let up : n + suc j ≡ suc n + j = omega arith in
          (suc j, (x, (up ∙ place, at, tx)))
    ]

there-row : (n : ℕ) (r : RowOf) (d : Decision) → r.tx ≡ d.tx → status_allows r.status d.fate ≡ true → Contains (both_choices n r) (n, d)
there-row n r d tx allowed = go d.fate refl
  where
    key_at : Fate → Key
    key_at f = (n, record { tx = r.tx; fate = f })

    single : (f : Fate) → d.fate ≡ f → Contains (row_choices n r f) (n, d)
    single f is =
        let own : status_allows r.status f ≡ true = ap (status_allows r.status) (sym is) ∙ allowed in
        let key : Key = (n, d) in
        let there : Contains {X = Key} (key_at f ∷ []) key = (0, omega arith, λ i. (n, record { tx = tx i; fate = sym is i })) in
        subst (λ b. Contains {X = Key} (cond b (key_at f ∷ []) []) key) (sym own) there

    go : (f : Fate) → d.fate ≡ f → Contains (both_choices n r) (n, d)
    go C is = Contains-append_left (row_choices n r C) (row_choices n r A) (n, d) (single C is)
    go A is = Contains-append_right (row_choices n r C) (row_choices n r A) (n, d) (single A is)

there-from : (n : ℕ) (rs : List RowOf) (i : ℕ) (r : RowOf) (d : Decision) → slice_get rs i ≡ Some r → r.tx ≡ d.tx → status_allows r.status d.fate ≡ true → Contains (choices_from n rs) (n + i, d)
there-from n [] i r d at tx allowed = absurd (cc)
there-from n (x ∷ rs) zero r d at tx allowed =
    let same : x ≡ r = cc in
    let zero_on : n ≡ n + 0 = omega arith in
    subst (λ m. Contains (choices_from n (x ∷ rs)) (m, d)) zero_on
    (Contains-append_left (both_choices n x) (choices_from (suc n) rs) (n, d) (subst (λ (y : RowOf). Contains (both_choices n y) (n, d)) (sym same) (there-row n r d tx allowed)))
there-from n (x ∷ rs) (suc i) r d at tx allowed =
    let up : suc n + i ≡ n + suc i = omega arith in
    subst (λ m. Contains (choices_from n (x ∷ rs)) (m, d)) up
    (Contains-append_right (both_choices n x) (choices_from (suc n) rs) (suc n + i, d) (there-from (suc n) rs i r d at tx allowed))

-- # Each once

abbrev same_fate : Fate → Fate → Bool
same_fate C C = true
same_fate C A = false
same_fate A C = false
same_fate A A = true

same_fate-itself : (f : Fate) → same_fate f f ≡ true
same_fate-itself C = refl
same_fate-itself A = refl

-- one for each key of the decision
abbrev hits : Decision → Key → ℕ
hits d k = if nat_eq d.tx k.1.tx && same_fate d.fate k.1.fate then 1 else 0

abbrev hits_by : Bool → Bool → ℕ
hits_by same fate = if same && fate then 1 else 0

row-total : (d : Decision) (n : ℕ) (r : RowOf) → sum_by (hits d) (both_choices n r) ≤ 1
row-total d n r = go (status_allows r.status C) (status_allows r.status A) (nat_eq d.tx r.tx) refl d.fate refl
  where
    key : Fate → Key
    key f = (n, record { tx = r.tx; fate = f })

    tests : (b : Bool) → nat_eq d.tx r.tx ≡ b → (f : Fate) → d.fate ≡ f → (hits d (key C) ≡ hits_by b (same_fate f C)) × (hits d (key A) ≡ hits_by b (same_fate f A))
    tests b is f own = ((λ i. hits_by (is i) (same_fate (own i) C)), (λ i. hits_by (is i) (same_fate (own i) A)))

    go : (c a b : Bool) → nat_eq d.tx r.tx ≡ b → (f : Fate) → d.fate ≡ f → sum_by (hits d) (cond c (key C ∷ []) [] ++ cond a (key A ∷ []) []) ≤ 1
    go true true true is C own = let both = tests true is C own in omega (arith, both.0, both.1)
    go true true true is A own = let both = tests true is A own in omega (arith, both.0, both.1)
    go true true false is f own = let both = tests false is f own in omega (arith, both.0, both.1)
    go true false true is C own = let both = tests true is C own in omega (arith, both.0, both.1)
    go true false true is A own = let both = tests true is A own in omega (arith, both.0, both.1)
    go true false false is f own = let both = tests false is f own in omega (arith, both.0, both.1)
    go false true true is C own = let both = tests true is C own in omega (arith, both.0, both.1)
    go false true true is A own = let both = tests true is A own in omega (arith, both.0, both.1)
    go false true false is f own = let both = tests false is f own in omega (arith, both.0, both.1)
    go false false b is f own = omega arith

row-none : (d : Decision) (n : ℕ) (r : RowOf) → nat_eq d.tx r.tx ≡ false → sum_by (hits d) (both_choices n r) ≡ 0
row-none d n r other = go (status_allows r.status C) (status_allows r.status A)
  where
    none : (f : Fate) → hits d (n, record { tx = r.tx; fate = f }) ≡ 0
    none f = ap (λ b. hits_by b (same_fate d.fate f)) other

    go : (c a : Bool) → sum_by (hits d) (cond c ((n, record { tx = r.tx; fate = C }) ∷ []) [] ++ cond a ((n, record { tx = r.tx; fate = A }) ∷ []) []) ≡ 0
    go true true = omega (arith, none C, none A)
    go true false = omega (arith, none C)
    go false true = omega (arith, none A)
    go false false = refl

abbrev numbers : List RowOf → List ℕ
numbers rs = map (λ (r : RowOf). r.tx) rs

total-none : (d : Decision) (n : ℕ) (rs : List RowOf) → list_any (nat_eq d.tx) (numbers rs) ≡ false → sum_by (hits d) (choices_from n rs) ≡ 0
total-none d n [] none = refl
total-none d n (r ∷ rs) none =
    let both = or_false (nat_eq d.tx r.tx) (list_any (nat_eq d.tx) (numbers rs)) none in
    let here : sum_by (hits d) (both_choices n r) ≡ 0 = row-none d n r both.0 in
    let rest : sum_by (hits d) (choices_from (suc n) rs) ≡ 0 = total-none d (suc n) rs both.1 in
    let whole : sum_by (hits d) (choices_from n (r ∷ rs)) ≡ sum_by (hits d) (both_choices n r) + sum_by (hits d) (choices_from (suc n) rs) = sum_by-append (hits d) (both_choices n r) (choices_from (suc n) rs) in
    omega arith

total-few : (d : Decision) (n : ℕ) (rs : List RowOf) → are_different (numbers rs) ≡ true → sum_by (hits d) (choices_from n rs) ≤ 1
total-few d n [] differ = omega arith
total-few d n (r ∷ rs) differ =
    let parts = and_true (not (list_any (nat_eq r.tx) (numbers rs))) (are_different (numbers rs)) differ in
    let whole : sum_by (hits d) (choices_from n (r ∷ rs)) ≡ sum_by (hits d) (both_choices n r) + sum_by (hits d) (choices_from (suc n) rs) = sum_by-append (hits d) (both_choices n r) (choices_from (suc n) rs) in
    elim (split (nat_eq d.tx r.tx)) [
      | inl same ↦
          let alone : list_any (nat_eq d.tx) (numbers rs) ≡ false = subst (λ t. list_any (nat_eq t) (numbers rs) ≡ false) (sym (nat_eq-is d.tx r.tx same)) (not_true (list_any (nat_eq r.tx) (numbers rs)) parts.0) in
          let here : sum_by (hits d) (both_choices n r) ≤ 1 = row-total d n r in
          let rest : sum_by (hits d) (choices_from (suc n) rs) ≡ 0 = total-none d (suc n) rs alone in
          omega arith
      | inr other ↦
          let here : sum_by (hits d) (both_choices n r) ≡ 0 = row-none d n r other in
          let rest : sum_by (hits d) (choices_from (suc n) rs) ≤ 1 = total-few d (suc n) rs parts.1 in
          omega arith
    ]

hit-itself : (d : Decision) (c : Choice) → c.decision ≡ d → hits d (key_of c) ≡ 1
hit-itself d c is =
    subst (λ (e : Decision). hits d (c.place, e) ≡ 1) (sym is) (λ i. hits_by (nat_eq-refl d.tx i) (same_fate-itself d.fate i))

total-cons : (d : Decision) (x : Choice) (cs : List Choice) → sum_by (hits d) (map key_of (x ∷ cs)) ≡ hits d (key_of x) + sum_by (hits d) (map key_of cs)
total-cons d x cs =
    let one : 0 + hits d (key_of x) ≡ hits d (key_of x) = omega arith in
    sum_by-append (hits d) (key_of x ∷ []) (map key_of cs) ∙ ap (λ n. n + sum_by (hits d) (map key_of cs)) one

one-hit : (d : Decision) (cs : List Choice) (k : ℕ) (c : Choice) → slice_get cs k ≡ Some c → c.decision ≡ d → 1 ≤ sum_by (hits d) (map key_of cs)
one-hit d [] k c at is = absurd (cc)
one-hit d (x ∷ cs) zero c at is =
    let same : x ≡ c = cc in
    let here : hits d (key_of x) ≡ 1 = hit-itself d x (ap (λ (y : Choice). y.decision) same ∙ is) in
    let whole : sum_by (hits d) (map key_of (x ∷ cs)) ≡ hits d (key_of x) + sum_by (hits d) (map key_of cs) = total-cons d x cs in
    omega (arith, here, whole)
one-hit d (x ∷ cs) (suc k) c at is =
    let rest : 1 ≤ sum_by (hits d) (map key_of cs) = one-hit d cs k c at is in
    let whole : sum_by (hits d) (map key_of (x ∷ cs)) ≡ hits d (key_of x) + sum_by (hits d) (map key_of cs) = total-cons d x cs in
    omega (arith, rest, whole)

two-hits : (d : Decision) (cs : List Choice) (j k : ℕ) (c e : Choice) → j < k → slice_get cs j ≡ Some c → slice_get cs k ≡ Some e → c.decision ≡ d → e.decision ≡ d → 2 ≤ sum_by (hits d) (map key_of cs)
two-hits d [] j k c e below at there is so = absurd (cc)
two-hits d (x ∷ cs) j zero c e below at there is so = absurd (omega arith)
two-hits d (x ∷ cs) zero (suc k) c e below at there is so =
    let same : x ≡ c = cc in
    let here : hits d (key_of x) ≡ 1 = hit-itself d x (ap (λ (y : Choice). y.decision) same ∙ is) in
    let rest : 1 ≤ sum_by (hits d) (map key_of cs) = one-hit d cs k e there so in
    let whole : sum_by (hits d) (map key_of (x ∷ cs)) ≡ hits d (key_of x) + sum_by (hits d) (map key_of cs) = total-cons d x cs in
    omega (arith, here, rest, whole)
two-hits d (x ∷ cs) (suc j) (suc k) c e below at there is so =
    let rest : 2 ≤ sum_by (hits d) (map key_of cs) = two-hits d cs j k c e (omega arith) at there is so in
    let whole : sum_by (hits d) (map key_of (x ∷ cs)) ≡ hits d (key_of x) + sum_by (hits d) (map key_of cs) = total-cons d x cs in
    omega (arith, rest, whole)

-- # All of them

key-there : (cs : List Choice) (k : ℕ) (c : Choice) → slice_get cs k ≡ Some c → Contains (map key_of cs) (key_of c)
key-there [] k c at = absurd (cc)
key-there (x ∷ cs) zero c at = let same : x ≡ c = cc in (0, omega arith, ap key_of same)
key-there (x ∷ cs) (suc k) c at = let (i, inside, is) = key-there cs k c at in (suc i, omega arith, is)

there-key : (cs : List Choice) (key : Key) → Contains (map key_of cs) key → (k : ℕ) × ((c : Choice) × ((slice_get cs k ≡ Some c) × (key_of c ≡ key)))
there-key [] key (i, inside, is) = absurd (omega arith)
there-key (x ∷ cs) key (zero, inside, is) = (0, (x, (refl, is)))
there-key (x ∷ cs) key (suc i, inside, is) = let (k, (c, (at, so))) = there-key cs key (i, omega arith, is) in (suc k, (c, (at, so)))

place-there : (ts : List ℕ) (t : ℕ) → list_any (nat_eq t) ts ≡ true → (i : ℕ) × ((i < length ts) × (get_or ts i 0 ≡ t))
place-there [] t there = absurd (cc)
place-there (x ∷ ts) t there =
    elim (split (nat_eq t x)) [
      | inl same ↦ (0, (omega arith, sym (nat_eq-is t x same)))
      | inr other ↦
          let (i, (inside, is)) = place-there ts t (sym (ap (λ b. b || list_any (nat_eq t) ts) other) ∙ there) in
          (suc i, (omega arith, is))
    ]

there-at : (cs : List Choice) (k : ℕ) (c : Choice) → slice_get cs k ≡ Some c → Contains cs c
there-at [] k c at = absurd (cc)
there-at (x ∷ cs) zero c at = let same : x ≡ c = cc in (0, omega arith, same)
there-at (x ∷ cs) (suc k) c at = let (i, inside, is) = there-at cs k c at in (suc i, omega arith, is)

-- # What is marked as silent

pub marked-none : (h : History) (cs : List Choice) → cs ≡ [] → AreMarkedSilent h cs
marked-none h cs none c there mark = let (i, inside, is) = subst (λ l. Contains l c) none there in absurd (omega arith)

pub marked-same : (old new : List Choice) (t : ℕ) (silent : Option Fate) → new ≡ old → AreMarkedFrom old new t silent
marked-same old new t silent same c there = inl (subst (λ l. Contains l c) same there)

pub marked-push : (old new : List Choice) (t : ℕ) (silent : Option Fate) (x : Choice) → new ≡ old ++ x ∷ [] → (x.visibility ≡ Silent → silent ≡ Some x.decision.fate) → x.decision.tx ≡ t → AreMarkedFrom old new t silent
marked-push old new t silent x grown mark of c there =
    elim (Contains-push_cases old x c (subst (λ l. Contains l c) grown there)) [
      | inl before ↦ inl before
      | inr is ↦ inr (λ is_silent. (mark (ap (λ (y : Choice). y.visibility) is ∙ is_silent) ∙ ap (λ (y : Choice). Some y.decision.fate) is, sym (ap (λ (y : Choice). y.decision.tx) is) ∙ of))
    ]

pub marked-more : (h : History) (old mid new : List Choice) (t : ℕ) (silent : Option Fate) → AreMarkedSilent h old → AreMarkedFrom old mid t silent → AreMarkedFrom mid new t silent → silent ≡ silent_fate h t → AreMarkedSilent h new
marked-more h old mid new t silent marked first second is c there mark =
    elim (second c there) [
      | inl before ↦ elim (first c before) [ inl earlier ↦ marked c earlier mark | inr reported ↦ by (reported mark) ]
      | inr reported ↦ by (reported mark)
    ]
  where
    by : (silent ≡ Some c.decision.fate) × (c.decision.tx ≡ t) → silent_fate h c.decision.tx ≡ Some c.decision.fate
    by (some, of) = ap (silent_fate h) of ∙ sym is ∙ some

pub choices-sorted : (h : History) (gathered sorted : List Choice) → IsWellFormed h → AreMarkedSilent h gathered → map key_of gathered ≡ choices_from 0 (table_of h) → IsPermutation gathered sorted → AreChoices h sorted
choices-sorted h gathered sorted fine marked is permuted = record {
  rows = λ k c at.
      let member : Contains (choices_from 0 (table_of h)) (key_of c) = Contains-permutation (map key_of sorted) (choices_from 0 (table_of h)) (key_of c) (IsPermutation-sym (choices_from 0 (table_of h)) (map key_of sorted) keys) (key-there sorted k c at) in
      let (j, (r, (place, got, tx))) = of-row 0 (table_of h) (key_of c) member in
      let zero_on : j ≡ 0 + j = omega arith in
      (r, (ap (slice_get (table_of h)) (sym (zero_on ∙ place)) ∙ got, tx));
  whole = λ d there allowed.
      let (i, (inside, is_tx)) = place-there (transactions h) d.tx (any-transactions h d.tx ∙ there) in
      let row : slice_get (table_of h) i ≡ Some (row_of h d.tx) = row-at h (transactions h) i 0 inside ∙ ap (λ t. Some (row_of h t)) is_tx in
      let member : Contains (choices_from 0 (table_of h)) (0 + i, d) = there-from 0 (table_of h) i (row_of h d.tx) d row refl (status-allowed h d.tx d.fate fine ∙ allowed) in
      let (k, (c, (at, key))) = there-key sorted (0 + i, d) (Contains-permutation (choices_from 0 (table_of h)) (map key_of sorted) (0 + i, d) keys member) in
      (k, (c, (at, ap (λ (x : Key). x.1) key)));
  once = λ j k c e below at there same.
      let many : 2 ≤ sum_by (hits e.decision) (map key_of sorted) = two-hits e.decision sorted j k c e below at there same refl in
      let few : sum_by (hits e.decision) (choices_from 0 (table_of h)) ≤ 1 = total-few e.decision 0 (table_of h) (subst (λ l. are_different l ≡ true) (sym (tx-rows h (transactions h))) (different-transactions h)) in
      let total : sum_by (hits e.decision) (map key_of sorted) ≡ sum_by (hits e.decision) (choices_from 0 (table_of h)) = sum_by-IsPermutation (hits e.decision) (choices_from 0 (table_of h)) (map key_of sorted) keys in
      omega arith;
  silent = λ k c at mark. marked c (Contains-permutation sorted gathered c (IsPermutation-sym gathered sorted permuted) (there-at sorted k c at)) mark;
}
  where
    keys : IsPermutation (choices_from 0 (table_of h)) (map key_of sorted)
    keys = subst (λ l. IsPermutation l (map key_of sorted)) is (IsPermutation-map key_of gathered sorted permuted)
