-- The kids of a list, row by row of the table.
use Rattle.std.specs.Prelude.{◌≡◌, ◌↔◌, ℕ, zero, suc, ◌<◌, ◌≤◌, Bool, true, false, not, ◌&&◌, ◌||◌, nat_eq, nat_lt, List, [], ◌∷◌, ◌++◌, map, filter, length, Option, Some, None, refl}
use Rattle.std.specs.List.{Contains, list_any, flat_map}
use Rattle.std.specs.List.Sorted.{IsSorted, IsPermutation}
use Rattle.std.proofs.Common.{sym, ◌∙◌, ap, subst, cond, inl, inr, arith, get_or, ◌⊎◌}
use Rattle.std.proofs.lemmas.Bool.Decides.{nat_tests}
use Rattle.std.proofs.lemmas.Grind.{flat_map-append}
use Rattle.std.proofs.lemmas.List.Elements.{filter-append}
use Rattle.std.proofs.lemmas.List.Sorted.{Contains-permutation, IsPermutation-sym}
use Rattle.aud_event.specs.Meanings.{Declared}
use Rattle.base_values.proofs.Bools.{or_true, and_true, true_and, true_or, or_right, not_true, is_false, nat_eq-is, nat_eq-refl, nat_eq-sym}
use Rattle.aud_history.specs.Histories.{History, is_in}
use Rattle.aud_history.specs.Table.{RowOf, transactions, first_stamp, table_of}
use Rattle.aud_history.proofs.Tables.{any-transactions}
use Rattle.aud_witness.specs.declared.decision.Fate.{Fate}
use Rattle.aud_witness.specs.declared.decision.Fate.TheVariants.{C, A}
use Rattle.aud_witness.specs.declared.decision.Decision.{Decision}
use Rattle.aud_witness.specs.declared.fault.OrderFault.{OrderFault}
use Rattle.aud_witness.specs.declared.fault.OrderFault.TheVariants.{UnknownTx, Twice, FateNotAllowed, RealTime, Illegal}
use Rattle.aud_witness.specs.DecisionOrder.{decision_cmp}
use Rattle.aud_witness.specs.Orders.{is_allowed, is_named, kept, block, IsGoodNext}
use Rattle.aud_witness.specs.Enumeration.{is_legal_from}
use Rattle.aud_witness.specs.OrderFaults.{is_enabled, place_fault, is_good_next, kids}
use Rattle.aud_witness.specs.Configurations.{is_ended, are_earlier_placed}
use Rattle.aud_witness.proofs.Faults.{IsGoodNext-from_no_fault, no_fault-from_IsGoodNext}
use Rattle.aud_witness.proofs.Bridge.{enabled-by_rows}
use Rattle.aud_order.specs.Kids.{both_fates, goods, AreKids}

-- # A decision is good where nothing is wrong with it

abbrev fault_by : Bool → Bool → Bool → Bool → Bool → ℕ → Option OrderFault
fault_by there named allowed enabled legal t =
    cond (not there) (Some (UnknownTx t)) (cond named (Some (Twice t)) (cond (not allowed) (Some (FateNotAllowed t)) (cond (not enabled) (Some (RealTime t)) (cond (not legal) (Some (Illegal t)) None))))

abbrev is_fine : Option OrderFault → Bool
is_fine None = true
is_fine (Some fault) = false

good_by : (there named allowed enabled legal : Bool) (t : ℕ) → (there && not named && allowed && enabled && legal) ≡ is_fine (fault_by there named allowed enabled legal t)
good_by false named allowed enabled legal t = refl
good_by true true allowed enabled legal t = refl
good_by true false false enabled legal t = refl
good_by true false true false legal t = refl
good_by true false true true false t = refl
good_by true false true true true t = refl

pub good-fine : (objects : List Declared) (h : History) (p : List Decision) (d : Decision) → is_good_next objects h p d ≡ is_fine (place_fault objects h p d)
good-fine objects h p d = good_by (is_in h d.tx) (is_named p d.tx) (is_allowed h d.tx d.fate) (is_enabled h p d.tx) (is_legal_from 0 objects (kept h p ++ block h d)) d.tx

pub good-from_none : (objects : List Declared) (h : History) (p : List Decision) (d : Decision) → place_fault objects h p d ≡ None → is_good_next objects h p d ≡ true
good-from_none objects h p d none = good-fine objects h p d ∙ ap is_fine none

pub bad-from_fault : (objects : List Declared) (h : History) (p : List Decision) (d : Decision) (fault : OrderFault) → place_fault objects h p d ≡ Some fault → is_good_next objects h p d ≡ false
bad-from_fault objects h p d fault some = good-fine objects h p d ∙ ap is_fine some

pub next-from_good : (objects : List Declared) (h : History) (p : List Decision) (d : Decision) → is_good_next objects h p d ≡ true → IsGoodNext objects h p d
next-from_good objects h p d good = go (place_fault objects h p d) refl
  where
    go : (o : Option OrderFault) → place_fault objects h p d ≡ o → IsGoodNext objects h p d
    go None is = IsGoodNext-from_no_fault objects h p d is
    go (Some fault) is = let bad : is_good_next objects h p d ≡ false = bad-from_fault objects h p d fault is in absurd (cc)

pub good-from_next : (objects : List Declared) (h : History) (p : List Decision) (d : Decision) → IsGoodNext objects h p d → is_good_next objects h p d ≡ true
good-from_next objects h p d next = good-from_none objects h p d (no_fault-from_IsGoodNext objects h p d next)

-- # Transactions without kids

named_bad : (there allowed enabled legal : Bool) → (there && not true && allowed && enabled && legal) ≡ false
named_bad true allowed enabled legal = refl
named_bad false allowed enabled legal = refl

late_bad : (there named allowed legal : Bool) → (there && not named && allowed && false && legal) ≡ false
late_bad false named allowed legal = refl
late_bad true true allowed legal = refl
late_bad true false false legal = refl
late_bad true false true legal = refl

pub bad-named : (objects : List Declared) (h : History) (p : List Decision) (d : Decision) → is_named p d.tx ≡ true → is_good_next objects h p d ≡ false
bad-named objects h p d named =
    ap (λ k. is_in h d.tx && not k && is_allowed h d.tx d.fate && is_enabled h p d.tx && is_legal_from 0 objects (kept h p ++ block h d)) named
    ∙ named_bad (is_in h d.tx) (is_allowed h d.tx d.fate) (is_enabled h p d.tx) (is_legal_from 0 objects (kept h p ++ block h d))

pub bad-late : (objects : List Declared) (h : History) (p : List Decision) (d : Decision) → is_enabled h p d.tx ≡ false → is_good_next objects h p d ≡ false
bad-late objects h p d late =
    ap (λ k. is_in h d.tx && not (is_named p d.tx) && is_allowed h d.tx d.fate && k && is_legal_from 0 objects (kept h p ++ block h d)) late
    ∙ late_bad (is_in h d.tx) (is_named p d.tx) (is_allowed h d.tx d.fate) (is_legal_from 0 objects (kept h p ++ block h d))

-- neither fate is good
abbrev pub IsBarren : List Declared → History → List Decision → ℕ → Type 0
IsBarren objects h p t = (is_good_next objects h p (record { tx = t; fate = C }) ≡ false) × (is_good_next objects h p (record { tx = t; fate = A }) ≡ false)

pub barren-named : (objects : List Declared) (h : History) (p : List Decision) (t : ℕ) → is_named p t ≡ true → IsBarren objects h p t
barren-named objects h p t named = (bad-named objects h p (record { tx = t; fate = C }) named, bad-named objects h p (record { tx = t; fate = A }) named)

pub barren-late : (objects : List Declared) (h : History) (p : List Decision) (t : ℕ) → is_enabled h p t ≡ false → IsBarren objects h p t
barren-late objects h p t late = (bad-late objects h p (record { tx = t; fate = C }) late, bad-late objects h p (record { tx = t; fate = A }) late)

two-filtered : (g : Decision → Bool) (x y : Decision) (rest : List Decision) → g x ≡ false → g y ≡ false → filter g (x ∷ y ∷ rest) ≡ filter g rest
two-filtered g x y rest bad worse = λ i. cond (bad i) (x ∷ cond (worse i) (y ∷ filter g rest) (filter g rest)) (cond (worse i) (y ∷ filter g rest) (filter g rest))

pub goods-barren : (objects : List Declared) (h : History) (p : List Decision) (ts : List ℕ) → ((k d : ℕ) → k < length ts → IsBarren objects h p (get_or ts k d)) → goods objects h p ts ≡ []
goods-barren objects h p [] all = refl
goods-barren objects h p (t ∷ ts) all =
    let here = all 0 0 (omega arith) in
    two-filtered (is_good_next objects h p) (record { tx = t; fate = C }) (record { tx = t; fate = A }) (flat_map both_fates ts) here.0 here.1
    ∙ goods-barren objects h p ts (λ k d inside. all (suc k) d (omega arith))

pub goods-append : (objects : List Declared) (h : History) (p : List Decision) (ts us : List ℕ) → goods objects h p (ts ++ us) ≡ goods objects h p ts ++ goods objects h p us
goods-append objects h p ts us =
    ap (filter (is_good_next objects h p)) (flat_map-append both_fates ts us)
    ∙ filter-append (is_good_next objects h p) (flat_map both_fates ts) (flat_map both_fates us)

-- # The rows by their first events

-- no number of the list is below
abbrev AreAbove : ℕ → (ℕ → ℕ) → List ℕ → Type 0
AreAbove n f ts = (k d : ℕ) → k < length ts → n ≤ f (get_or ts k d)

abbrev Rise : (ℕ → ℕ) → List ℕ → Type 0
Rise f [] = Unit {0}
Rise f (t ∷ ts) = AreAbove (f t) f ts × Rise f ts

above-filtered : (n : ℕ) (f g : ℕ → ℕ) (q : ℕ → Bool) (ts : List ℕ) → ((t : ℕ) → q t ≡ true → f t ≤ g t) → AreAbove n f ts → AreAbove n g (filter q ts)
above-filtered n f g q [] up above = λ k d inside. absurd (omega arith)
above-filtered n f g q (t ∷ ts) up above =
    let rest : AreAbove n g (filter q ts) = above-filtered n f g q ts up (λ k d inside. above (suc k) d (omega arith)) in
    go (q t) refl rest
  where
    first : q t ≡ true → n ≤ g t
    first is = let low : n ≤ f t = above 0 0 (omega arith) in let high : f t ≤ g t = up t is in omega arith

    by : (k d : ℕ) → k < suc (length (filter q ts)) → n ≤ g t → AreAbove n g (filter q ts) → n ≤ g (get_or (t ∷ filter q ts) k d)
    by zero d inside low rest = low
    by (suc k) d inside low rest = rest k d (omega arith)

    go : (b : Bool) → q t ≡ b → AreAbove n g (filter q ts) → AreAbove n g (cond b (t ∷ filter q ts) (filter q ts))
    go true is rest = λ k d inside. by k d inside (first is) rest
    go false is rest = rest

rise-filtered : (f g : ℕ → ℕ) (q : ℕ → Bool) (ts : List ℕ) → ((t : ℕ) → q t ≡ true → g t ≡ suc (f t)) → Rise f ts → Rise g (filter q ts)
rise-filtered f g q [] up rise = tt
rise-filtered f g q (t ∷ ts) up rise = go (q t) refl (rise-filtered f g q ts up rise.1)
  where
    lifted : AreAbove (suc (f t)) (λ n. suc (f n)) ts
    lifted = λ k d inside. let low : f t ≤ f (get_or ts k d) = rise.0 k d inside in omega arith

    above : g t ≡ suc (f t) → AreAbove (g t) g (filter q ts)
    above here = subst (λ n. AreAbove n g (filter q ts)) (sym here) (above-filtered (suc (f t)) (λ n. suc (f n)) g q ts (λ u passes. let e : g u ≡ suc (f u) = up u passes in omega arith) lifted)

    go : (b : Bool) → q t ≡ b → Rise g (filter q ts) → Rise g (cond b (t ∷ filter q ts) (filter q ts))
    go true is rest = (above (up t is), rest)
    go false is rest = rest

stamps-rise : (h : History) → Rise (first_stamp h) (transactions h)
stamps-rise [] = tt
stamps-rise (e ∷ h) = (
  subst (λ n. AreAbove n (first_stamp (e ∷ h)) (filter (λ t. not (nat_eq t e.0)) (transactions h))) (sym (ap (λ k. cond k 0 (suc (first_stamp h e.0))) (nat_eq-refl e.0))) (λ k d inside. omega arith),
  rise-filtered (first_stamp h) (first_stamp (e ∷ h)) (λ t. not (nat_eq t e.0)) (transactions h) (λ t other. ap (λ k. cond k 0 (suc (first_stamp h t))) (nat_eq-sym e.0 t ∙ not_true (nat_eq t e.0) other)) (stamps-rise h),
)

rise-at : (f : ℕ → ℕ) (ts : List ℕ) → Rise f ts → (j k d : ℕ) → j ≤ k → k < length ts → f (get_or ts j d) ≤ f (get_or ts k d)
rise-at f [] rise j k d le inside = absurd (omega arith)
rise-at f (t ∷ ts) rise zero zero d le inside = omega arith
rise-at f (t ∷ ts) rise zero (suc k) d le inside = rise.0 k d (omega arith)
rise-at f (t ∷ ts) rise (suc j) zero d le inside = absurd (omega arith)
rise-at f (t ∷ ts) rise (suc j) (suc k) d le inside = rise-at f ts rise.1 j k d (omega arith) (omega arith)

lower_test : (e : Bool) (l s r : ℕ) → r ≤ s → not (e && nat_lt l s) ≡ true → not (e && nat_lt l r) ≡ true
lower_test false l s r le h = refl
lower_test true l s r le h = grind (arith, nat_tests)

lower_or : (e b : Bool) (l s r : ℕ) → r ≤ s → (not (e && nat_lt l s) || b) ≡ true → (not (e && nat_lt l r) || b) ≡ true
lower_or e b l s r le h =
    elim (or_true (not (e && nat_lt l s)) b h) [
      | inl early ↦ true_or (not (e && nat_lt l r)) b (lower_test e l s r le early)
      | inr placed ↦ or_right (not (e && nat_lt l r)) b placed
    ]

-- what is placed before a stamp is placed before an earlier one
earlier-lower : (rows : List RowOf) (placed : List Bool) (s r : ℕ) → r ≤ s → are_earlier_placed rows placed s ≡ true → are_earlier_placed rows placed r ≡ true
earlier-lower [] placed s r le h = refl
earlier-lower (x ∷ xs) [] s r le h =
    let both = and_true (not (is_ended x.status && nat_lt x.last s)) (are_earlier_placed xs [] s) h in
    true_and (not (is_ended x.status && nat_lt x.last r)) (are_earlier_placed xs [] r) (lower_test (is_ended x.status) x.last s r le both.0) (earlier-lower xs [] s r le both.1)
earlier-lower (x ∷ xs) (b ∷ bs) s r le h =
    let both = and_true (not (is_ended x.status && nat_lt x.last s) || b) (are_earlier_placed xs bs s) h in
    true_and (not (is_ended x.status && nat_lt x.last r) || b) (are_earlier_placed xs bs r) (lower_or (is_ended x.status) b x.last s r le both.0) (earlier-lower xs bs s r le both.1)

pub in-transactions : (h : History) (k d : ℕ) → k < length (transactions h) → is_in h (get_or (transactions h) k d) ≡ true
in-transactions h k d inside = sym (any-transactions h (get_or (transactions h) k d)) ∙ at (transactions h) k inside
  where
    at : (ts : List ℕ) (k : ℕ) → k < length ts → list_any (nat_eq (get_or ts k d)) ts ≡ true
    at [] k inside = absurd (omega arith)
    at (t ∷ ts) zero inside = true_or (nat_eq t t) (list_any (nat_eq t) ts) (nat_eq-refl t)
    at (t ∷ ts) (suc k) inside = or_right (nat_eq (get_or ts k d) t) (list_any (nat_eq (get_or ts k d)) ts) (at ts k (omega arith))

-- what began no earlier than one that is not enabled is not enabled
pub late-after : (h : History) (p : List Decision) (j k d : ℕ) → j ≤ k → k < length (transactions h) → is_enabled h p (get_or (transactions h) j d) ≡ false → is_enabled h p (get_or (transactions h) k d) ≡ false
late-after h p j k d le inside late =
    is_false (is_enabled h p u) (λ enabled.
    let wide : are_earlier_placed (table_of h) (map (is_named p) (transactions h)) (first_stamp h u) ≡ true = enabled-by_rows h p u (in-transactions h k d inside) ∙ enabled in
    let up : first_stamp h t ≤ first_stamp h u = rise-at (first_stamp h) (transactions h) (stamps-rise h) j k d le inside in
    let low : are_earlier_placed (table_of h) (map (is_named p) (transactions h)) (first_stamp h t) ≡ true = earlier-lower (table_of h) (map (is_named p) (transactions h)) (first_stamp h u) (first_stamp h t) up wide in
    let clash : is_enabled h p t ≡ true = sym (enabled-by_rows h p t (in-transactions h j d (omega arith))) ∙ low in
    cc)
  where
    t : ℕ
    t = get_or (transactions h) j d

    u : ℕ
    u = get_or (transactions h) k d

-- # All kids

contains_cases : (x : Decision) (xs : List Decision) (y : Decision) → Contains (x ∷ xs) y → (x ≡ y) ⊎ Contains xs y
contains_cases x xs y (zero, inside, is) = inl is
contains_cases x xs y (suc k, inside, is) = inr (k, omega arith, is)

contains_after : (x : Decision) (xs : List Decision) (y : Decision) → Contains xs y → Contains (x ∷ xs) y
contains_after x xs y (k, inside, is) = (suc k, omega arith, is)

passes-filter : (g : Decision → Bool) (xs : List Decision) (d : Decision) → Contains (filter g xs) d → g d ≡ true
passes-filter g [] d (k, inside, is) = absurd (omega arith)
passes-filter g (x ∷ xs) d member = go (g x) refl (λ later. passes-filter g xs d later) member
  where
    go : (b : Bool) → g x ≡ b → (Contains (filter g xs) d → g d ≡ true) → Contains (cond b (x ∷ filter g xs) (filter g xs)) d → g d ≡ true
    go true is rest member = elim (contains_cases x (filter g xs) d member) [ inl same ↦ subst (λ (y : Decision). g y ≡ true) same is | inr later ↦ rest later ]
    go false is rest member = rest member

filter-passed : (g : Decision → Bool) (xs : List Decision) (d : Decision) → Contains xs d → g d ≡ true → Contains (filter g xs) d
filter-passed g [] d (k, inside, is) passes = absurd (omega arith)
filter-passed g (x ∷ xs) d member passes = go (g x) refl (λ later. filter-passed g xs d later passes) (contains_cases x xs d member)
  where
    go : (b : Bool) → g x ≡ b → (Contains xs d → Contains (filter g xs) d) → (x ≡ d) ⊎ Contains xs d → Contains (cond b (x ∷ filter g xs) (filter g xs)) d
    go true is rest (inl same) = (0, omega arith, same)
    go true is rest (inr later) = contains_after x (filter g xs) d (rest later)
    go false is rest (inl same) = let bad : g d ≡ false = subst (λ (y : Decision). g y ≡ false) same is in absurd (cc)
    go false is rest (inr later) = rest later

fates-there : (ts : List ℕ) (d : Decision) → list_any (nat_eq d.tx) ts ≡ true → Contains (flat_map both_fates ts) d
fates-there [] d there = absurd (cc)
fates-there (t ∷ ts) d there =
    elim (or_true (nat_eq d.tx t) (list_any (nat_eq d.tx) ts) there) [
      | inl same ↦ subst (λ n. Contains (record { tx = n; fate = C } ∷ record { tx = n; fate = A } ∷ flat_map both_fates ts) d) (nat_eq-is d.tx t same) (own d.fate refl)
      | inr later ↦ contains_after (record { tx = t; fate = C }) (record { tx = t; fate = A } ∷ flat_map both_fates ts) d (contains_after (record { tx = t; fate = A }) (flat_map both_fates ts) d (fates-there ts d later))
    ]
  where
    own : (f : Fate) → d.fate ≡ f → Contains (record { tx = d.tx; fate = C } ∷ record { tx = d.tx; fate = A } ∷ flat_map both_fates ts) d
    own C is = (0, omega arith, λ i. record { tx = d.tx; fate = sym is i })
    own A is = (1, omega arith, λ i. record { tx = d.tx; fate = sym is i })

pub kids-each : (objects : List Declared) (h : History) (p : List Decision) (ks : List Decision) (d : Decision) → IsPermutation (kids objects h p) ks → Contains ks d ↔ IsGoodNext objects h p d
kids-each objects h p ks d permuted = (
  (λ member. next-from_good objects h p d (passes-filter (is_good_next objects h p) (flat_map both_fates (transactions h)) d (Contains-permutation ks (kids objects h p) d (IsPermutation-sym (kids objects h p) ks permuted) member))),
  (λ next.
      let there : list_any (nat_eq d.tx) (transactions h) ≡ true = any-transactions h d.tx ∙ next.in_history in
      Contains-permutation (kids objects h p) ks d permuted (filter-passed (is_good_next objects h p) (flat_map both_fates (transactions h)) d (fates-there (transactions h) d there) (good-from_next objects h p d next))),
)

pub are-kids : (objects : List Declared) (h : History) (p : List Decision) (gathered ks : List Decision) → gathered ≡ kids objects h p → IsPermutation gathered ks → IsSorted decision_cmp ks → AreKids objects h p ks
are-kids objects h p gathered ks is permuted sorted =
    let once : IsPermutation (kids objects h p) ks = subst (λ l. IsPermutation l ks) is permuted in
    record { each = λ d. kids-each objects h p ks d once; once = once; rising = sorted }
