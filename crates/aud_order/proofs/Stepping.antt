-- One step from configuration to configuration, taken apart and put together, and what steps leave alone.
use Rattle.std.specs.Prelude.{◌≡◌, ◌≢◌, ℕ, zero, suc, ◌<◌, Bool, true, false, not, ◌&&◌, ◌||◌, nat_eq, nat_lt, List, [], ◌∷◌, ◌++◌, map, length, Option, Some, None, Result, Ok, Err, slice_get, slice_set, slice_index_or, refl}
use Rattle.std.specs.List.{list_all, position}
use Rattle.std.proofs.Common.{sym, ◌∙◌, ap, subst, cond, arith, get_or, set}
use Rattle.std.proofs.lemmas.List.{set_comm, get_or-set_other}
use Rattle.std.proofs.lemmas.List.Quantifiers.{position-Some}
use Rattle.aud_event.specs.declared.object.Op.{Op}
use Rattle.aud_event.specs.declared.object.Op.TheVariants.{Read, Get, Contains}
use Rattle.base_values.proofs.Bools.{and_true, true_and, or_right, nat_eq-is}
use Rattle.aud_event.specs.Objects.{is_observing}
use Rattle.aud_kinds.specs.Objects.{ObjState, after_op}
use Rattle.aud_kinds.specs.Kinds.{observing_stays}
use Rattle.aud_object.specs.declared.execution.Execution.{Execution}
use Rattle.aud_object.specs.Replayed.{answers, answer_at, after_at, executed, replayed}
use Rattle.aud_history.specs.Table.{RowOf}
use Rattle.aud_witness.specs.declared.decision.Fate.{Fate}
use Rattle.aud_witness.specs.declared.decision.Fate.TheVariants.{C, A}
use Rattle.aud_witness.specs.declared.decision.Decision.{Decision}
use Rattle.aud_witness.specs.declared.fault.OrderFault.{OrderFault}
use Rattle.aud_witness.specs.declared.fault.OrderFault.TheVariants.{UnknownTx, Twice, FateNotAllowed, RealTime, Illegal}
use Rattle.aud_witness.specs.Configurations.{Configuration, is_ended, status_allows, are_earlier_placed, states_with, early_fault, block_stepped, row_stepped, stepped}
use Rattle.aud_witness.specs.Walks.{walked, are_all_placed}
use Rattle.aud_order.specs.Silent.{silent_by, silent_row}
use Rattle.aud_order.specs.Moves.{without}

-- # One step

-- the configuration after a decision on the row at the place
abbrev pub configuration_after : Configuration → Fate → ℕ → List ObjState → Configuration
configuration_after s f k after = record { placed = slice_set s.placed k true; states = states_with f s.states after }

pub record Steps (rows : List RowOf) (s : Configuration) (d : Decision) (u : Configuration) : Type 0 where
  pub place : ℕ
  pub found : position (nat_eq d.tx) (map (λ (r : RowOf). r.tx) rows) ≡ Some place
  pub row : RowOf
  pub at : slice_get rows place ≡ Some row
  pub fresh : slice_index_or s.placed place false ≡ false
  pub allowed : status_allows row.status d.fate ≡ true
  pub ready : are_earlier_placed rows s.placed row.first ≡ true
  pub after : List ObjState
  pub ran : replayed s.states row.block ≡ Some after
  pub leads : u ≡ configuration_after s d.fate place after

early-none : (named allowed ready : Bool) (t : ℕ) →
    cond named (Some (Twice t)) (cond (not allowed) (Some (FateNotAllowed t)) (cond (not ready) (Some (RealTime t)) None)) ≡ None → (named ≡ false) × (allowed ≡ true) × (ready ≡ true)
early-none true allowed ready t e = cc
early-none false false ready t e = cc
early-none false true false t e = cc
early-none false true true t e = (refl, refl, refl)

pub steps-from : (rows : List RowOf) (s u : Configuration) (d : Decision) → stepped rows s d ≡ Ok u → Steps rows s d u
steps-from rows s u d = go (position (nat_eq d.tx) (map (λ (r : RowOf). r.tx) rows)) refl
  where
    ran : (k : ℕ) (r : RowOf) → position (nat_eq d.tx) (map (λ (x : RowOf). x.tx) rows) ≡ Some k → slice_get rows k ≡ Some r → early_fault rows s d k r ≡ None →
        (o : Option (List ObjState)) → replayed s.states r.block ≡ o →
        elim o as (λ (_ : Option (List ObjState)). Result Configuration OrderFault) [ None ↦ Err (Illegal d.tx) | Some after ↦ Ok (record { placed = slice_set s.placed k true; states = states_with d.fate s.states after }) ] ≡ Ok u → Steps rows s d u
    ran k r found at early None is e = absurd (cc)
    ran k r found at early (Some after) is e =
        let tests = early-none (slice_index_or s.placed k false) (status_allows r.status d.fate) (are_earlier_placed rows s.placed r.first) d.tx early in
        let leads : u ≡ configuration_after s d.fate k after = cc in
        record { place = k; found = found; row = r; at = at; fresh = tests.0; allowed = tests.1; ready = tests.2; after = after; ran = is; leads = leads }

    tested : (k : ℕ) (r : RowOf) → position (nat_eq d.tx) (map (λ (x : RowOf). x.tx) rows) ≡ Some k → slice_get rows k ≡ Some r → (o : Option OrderFault) → early_fault rows s d k r ≡ o →
        elim o as (λ (_ : Option OrderFault). Result Configuration OrderFault) [ Some fault ↦ Err fault | None ↦ block_stepped s d k r ] ≡ Ok u → Steps rows s d u
    tested k r found at None is e = ran k r found at is (replayed s.states r.block) refl e
    tested k r found at (Some fault) is e = absurd (cc)

    rowed : (k : ℕ) → position (nat_eq d.tx) (map (λ (x : RowOf). x.tx) rows) ≡ Some k → (o : Option RowOf) → slice_get rows k ≡ o →
        elim o as (λ (_ : Option RowOf). Result Configuration OrderFault) [ None ↦ Err (UnknownTx d.tx) | Some r ↦ row_stepped rows s d k r ] ≡ Ok u → Steps rows s d u
    rowed k found None is e = absurd (cc)
    rowed k found (Some r) is e = tested k r found is (early_fault rows s d k r) refl e

    go : (o : Option ℕ) → position (nat_eq d.tx) (map (λ (r : RowOf). r.tx) rows) ≡ o →
        elim o as (λ (_ : Option ℕ). Result Configuration OrderFault) [ None ↦ Err (UnknownTx d.tx) | Some k ↦ elim (slice_get rows k) as (λ (_ : Option RowOf). Result Configuration OrderFault) [ None ↦ Err (UnknownTx d.tx) | Some r ↦ row_stepped rows s d k r ] ] ≡ Ok u →
        Steps rows s d u
    go None is e = absurd (cc)
    go (Some k) is e = rowed k is (slice_get rows k) refl e

pub step-to : (rows : List RowOf) (s u : Configuration) (d : Decision) → Steps rows s d u → stepped rows s d ≡ Ok u
step-to rows s u d st =
    ap (λ (o : Option ℕ). elim o as (λ (_ : Option ℕ). Result Configuration OrderFault) [ None ↦ Err (UnknownTx d.tx) | Some k ↦ elim (slice_get rows k) as (λ (_ : Option RowOf). Result Configuration OrderFault) [ None ↦ Err (UnknownTx d.tx) | Some r ↦ row_stepped rows s d k r ] ]) st.found
    ∙ ap (λ (o : Option RowOf). elim o as (λ (_ : Option RowOf). Result Configuration OrderFault) [ None ↦ Err (UnknownTx d.tx) | Some r ↦ row_stepped rows s d st.place r ]) st.at
    ∙ ap (λ (o : Option OrderFault). elim o as (λ (_ : Option OrderFault). Result Configuration OrderFault) [ Some fault ↦ Err fault | None ↦ block_stepped s d st.place st.row ]) early
    ∙ ap (λ (o : Option (List ObjState)). elim o as (λ (_ : Option (List ObjState)). Result Configuration OrderFault) [ None ↦ Err (Illegal d.tx) | Some after ↦ Ok (record { placed = slice_set s.placed st.place true; states = states_with d.fate s.states after }) ]) st.ran
    ∙ ap (λ (x : Configuration). Ok x) (sym st.leads)
  where
    early : early_fault rows s d st.place st.row ≡ None
    early = λ i. cond (st.fresh i) (Some (Twice d.tx)) (cond (not (st.allowed i)) (Some (FateNotAllowed d.tx)) (cond (not (st.ready i)) (Some (RealTime d.tx)) None))

-- # Walks

pub walked-split : (rows : List RowOf) (s u : Configuration) (p q : List Decision) → walked rows s (p ++ q) ≡ Some u → (t : Configuration) × ((walked rows s p ≡ Some t) × (walked rows t q ≡ Some u))
walked-split rows s u [] q led = (s, (refl, led))
walked-split rows s u (d ∷ p) q led = go (λ v on. walked-split rows v u p q on) (stepped rows s d) led
  where
    go : ((v : Configuration) → walked rows v (p ++ q) ≡ Some u → (t : Configuration) × ((walked rows v p ≡ Some t) × (walked rows t q ≡ Some u))) → (r : Result Configuration OrderFault) → elim r as (λ (_ : Result Configuration OrderFault). Option Configuration) [ Err _ ↦ None | Ok v ↦ walked rows v (p ++ q) ] ≡ Some u →
        (t : Configuration) × ((elim r as (λ (_ : Result Configuration OrderFault). Option Configuration) [ Err _ ↦ None | Ok v ↦ walked rows v p ] ≡ Some t) × (walked rows t q ≡ Some u))
    go rest (Err fault) none = absurd (cc)
    go rest (Ok v) on = rest v on

pub walked-join : (rows : List RowOf) (s t : Configuration) (p q : List Decision) → walked rows s p ≡ Some t → walked rows s (p ++ q) ≡ walked rows t q
walked-join rows s t [] q led = let same : s ≡ t = cc in ap (λ (x : Configuration). walked rows x q) same
walked-join rows s t (d ∷ p) q led = go (λ v on. walked-join rows v t p q on) (stepped rows s d) led
  where
    go : ((v : Configuration) → walked rows v p ≡ Some t → walked rows v (p ++ q) ≡ walked rows t q) → (r : Result Configuration OrderFault) → elim r as (λ (_ : Result Configuration OrderFault). Option Configuration) [ Err _ ↦ None | Ok v ↦ walked rows v p ] ≡ Some t →
        elim r as (λ (_ : Result Configuration OrderFault). Option Configuration) [ Err _ ↦ None | Ok v ↦ walked rows v (p ++ q) ] ≡ walked rows t q
    go rest (Err fault) none = absurd (cc)
    go rest (Ok v) on = rest v on

pub walked-one : (rows : List RowOf) (s u : Configuration) (d : Decision) → walked rows s (d ∷ []) ≡ Some u → stepped rows s d ≡ Ok u
walked-one rows s u d = go (stepped rows s d) refl
  where
    go : (r : Result Configuration OrderFault) → stepped rows s d ≡ r → elim r as (λ (_ : Result Configuration OrderFault). Option Configuration) [ Err _ ↦ None | Ok v ↦ Some v ] ≡ Some u → stepped rows s d ≡ Ok u
    go (Err fault) is none = absurd (cc)
    go (Ok v) is on = let same : v ≡ u = cc in is ∙ ap (λ (x : Configuration). Ok x) same

-- # Blocks that only observe

stays-at : (states : List ObjState) (ob : ℕ) (op : Op) → is_observing op ≡ true → after_at states ob op ≡ states
stays-at [] ob op h = refl
stays-at (s ∷ ss) zero op h = ap (λ x. x ∷ ss) (observing_stays s op h)
stays-at (s ∷ ss) (suc ob) op h = ap (λ l. s ∷ l) (stays-at ss ob op h)

executed-stays : (xs : List Execution) (states after : List ObjState) → list_all (λ (x : Execution). is_observing x.op) xs ≡ true → executed states xs ≡ Some after → after ≡ states
executed-stays [] states after all ran = let same : states ≡ after = cc in sym same
executed-stays (x ∷ xs) states after all ran =
    let both = and_true (is_observing x.op) (list_all (λ (x : Execution). is_observing x.op) xs) all in
    go (λ on. executed-stays xs (after_at states x.object x.op) after both.1 on ∙ stays-at states x.object x.op both.0) (answers (answer_at states x.object x.op) x.answer) ran
  where
    go : (executed (after_at states x.object x.op) xs ≡ Some after → after ≡ states) → (b : Bool) → cond b (executed (after_at states x.object x.op) xs) None ≡ Some after → after ≡ states
    go rest true on = rest on
    go rest false on = absurd (cc)

-- what a silent transaction leaves, whatever its fate
pub silent-leaves : (r : RowOf) (f g : Fate) (states after : List ObjState) → silent_row r ≡ Some f → status_allows r.status g ≡ true → replayed states r.block ≡ Some after → states_with g states after ≡ states
silent-leaves r f A states after silent allowed ran = refl
silent-leaves r f C states after silent allowed ran = go (list_all (λ (x : Execution). is_observing x.op) r.block.executions) refl (sym (ap (λ b. silent_by b (list_all (λ (x : Execution). is_observing x.op) r.block.executions)) allowed) ∙ silent)
  where
    go : (b : Bool) → list_all (λ (x : Execution). is_observing x.op) r.block.executions ≡ b → cond b (Some C) None ≡ Some f → after ≡ states
    go true is some = executed-stays r.block.executions states after is ran
    go false is none = absurd (cc)

-- # A step that may be taken at once

-- the configuration with one more row placed
abbrev pub marked : ℕ → Configuration → Configuration
marked k s = record { placed = slice_set s.placed k true; states = s.states }

earlier-more : (rows : List RowOf) (placed : List Bool) (k stamp : ℕ) → are_earlier_placed rows placed stamp ≡ true → are_earlier_placed rows (set placed k true) stamp ≡ true
earlier-more [] placed k stamp h = refl
earlier-more (r ∷ rs) [] k stamp h = h
earlier-more (r ∷ rs) (b ∷ bs) zero stamp h =
    let both = and_true (not (is_ended r.status && nat_lt r.last stamp) || b) (are_earlier_placed rs bs stamp) h in
    true_and (not (is_ended r.status && nat_lt r.last stamp) || true) (are_earlier_placed rs bs stamp) (or_right (not (is_ended r.status && nat_lt r.last stamp)) true refl) both.1
earlier-more (r ∷ rs) (b ∷ bs) (suc k) stamp h =
    let both = and_true (not (is_ended r.status && nat_lt r.last stamp) || b) (are_earlier_placed rs bs stamp) h in
    true_and (not (is_ended r.status && nat_lt r.last stamp) || b) (are_earlier_placed rs (set bs k true) stamp) both.0 (earlier-more rs bs k stamp both.1)

-- the row of another transaction is another row
other-row : (rows : List RowOf) (t u k j : ℕ) → position (nat_eq t) (map (λ (r : RowOf). r.tx) rows) ≡ Some k → position (nat_eq u) (map (λ (r : RowOf). r.tx) rows) ≡ Some j → nat_eq u t ≡ false → j ≢ k
other-row rows t u k j found there differ same =
    let a = position-Some (nat_eq t) (map (λ (r : RowOf). r.tx) rows) k 0 found in
    let b = position-Some (nat_eq u) (map (λ (r : RowOf). r.tx) rows) j 0 there in
    let first : t ≡ get_or (map (λ (r : RowOf). r.tx) rows) k 0 = nat_eq-is t (get_or (map (λ (r : RowOf). r.tx) rows) k 0) a.1 in
    let second : u ≡ get_or (map (λ (r : RowOf). r.tx) rows) j 0 = nat_eq-is u (get_or (map (λ (r : RowOf). r.tx) rows) j 0) b.1 in
    let one : u ≡ t = second ∙ ap (λ n. get_or (map (λ (r : RowOf). r.tx) rows) n 0) same ∙ sym first in
    let clash : nat_eq u u ≡ false = ap (nat_eq u) one ∙ differ in
    let itself : nat_eq u u ≡ true = grind arith in
    cc

-- no other step sees that the row is placed
step-other : (rows : List RowOf) (t k : ℕ) (s u : Configuration) (d : Decision) → position (nat_eq t) (map (λ (r : RowOf). r.tx) rows) ≡ Some k → nat_eq d.tx t ≡ false → stepped rows s d ≡ Ok u →
    stepped rows (marked k s) d ≡ Ok (marked k u)
step-other rows t k s u d found differ step =
    let st = steps-from rows s u d step in
    let ne : st.place ≢ k = other-row rows t d.tx k st.place found st.found differ in
    step-to rows (marked k s) (marked k u) d (record {
      place = st.place;
      found = st.found;
      row = st.row;
      at = st.at;
      fresh = get_or-set_other s.placed k st.place true false ne ∙ st.fresh;
      allowed = st.allowed;
      ready = earlier-more rows s.placed k st.row.first st.ready;
      after = st.after;
      ran = st.ran;
      leads = ap (marked k) st.leads ∙ (λ i. record { placed = set_comm s.placed st.place k true true ne i; states = states_with d.fate s.states st.after });
    })

-- nor does it place the row
step-keeps : (rows : List RowOf) (t k : ℕ) (s u : Configuration) (d : Decision) → position (nat_eq t) (map (λ (r : RowOf). r.tx) rows) ≡ Some k → nat_eq d.tx t ≡ false → stepped rows s d ≡ Ok u →
    (slice_index_or u.placed k false ≡ slice_index_or s.placed k false) × (length u.placed ≡ length s.placed)
step-keeps rows t k s u d found differ step =
    let st = steps-from rows s u d step in
    let ne : k ≢ st.place = (λ same. other-row rows t d.tx k st.place found st.found differ (sym same)) in (
      ap (λ (x : Configuration). get_or x.placed k false) st.leads ∙ get_or-set_other s.placed st.place k true false ne,
      ap (λ (x : Configuration). length x.placed) st.leads ∙ set-length s.placed st.place,
    )
  where
    set-length : (bs : List Bool) (i : ℕ) → length (set bs i true) ≡ length bs
    set-length [] i = refl
    set-length (b ∷ bs) zero = refl
    set-length (b ∷ bs) (suc i) = ap suc (set-length bs i)

all-at : (bs : List Bool) (k : ℕ) → list_all (λ b. b) bs ≡ true → k < length bs → get_or bs k false ≡ true
all-at [] k all inside = absurd (omega arith)
all-at (b ∷ bs) zero all inside = (and_true b (list_all (λ b. b) bs) all).0
all-at (b ∷ bs) (suc k) all inside = all-at bs k (and_true b (list_all (λ b. b) bs) all).1 (omega arith)

-- what a list reaches is reached with the step taken at once
pub moved : (rows : List RowOf) (t k : ℕ) (row : RowOf) (f : Fate) → position (nat_eq t) (map (λ (r : RowOf). r.tx) rows) ≡ Some k → slice_get rows k ≡ Some row → silent_row row ≡ Some f →
    (q : List Decision) (s u : Configuration) → k < length s.placed → slice_index_or s.placed k false ≡ false → walked rows s q ≡ Some u → are_all_placed u ≡ true → walked rows (marked k s) (without t q) ≡ Some u
moved rows t k row f found at silent [] s u inside absent led all =
    let same : s ≡ u = cc in
    let there : get_or s.placed k false ≡ true = all-at s.placed k (subst (λ (x : Configuration). are_all_placed x ≡ true) (sym same) all) inside in
    absurd (cc)
moved rows t k row f found at silent (d ∷ q) s u inside absent led all =
    go (λ v inside absent on. moved rows t k row f found at silent q v u inside absent on all) (stepped rows s d) refl led (nat_eq d.tx t) refl
  where
    go : ((v : Configuration) → k < length v.placed → slice_index_or v.placed k false ≡ false → walked rows v q ≡ Some u → walked rows (marked k v) (without t q) ≡ Some u) → (r : Result Configuration OrderFault) → stepped rows s d ≡ r → elim r as (λ (_ : Result Configuration OrderFault). Option Configuration) [ Err _ ↦ None | Ok v ↦ walked rows v q ] ≡ Some u →
        (b : Bool) → nat_eq d.tx t ≡ b → walked rows (marked k s) (cond b q (d ∷ without t q)) ≡ Some u
    go later (Err fault) is none b same = absurd (cc)
    go later (Ok v) is on true same =
        let st = steps-from rows s v d is in
        let place : st.place ≡ k = (let a = st.found in let b = ap (λ n. position (nat_eq n) (map (λ (r : RowOf). r.tx) rows)) (nat_eq-is d.tx t same) ∙ found in cc) in
        let own : st.row ≡ row = (let a = st.at in let b = ap (slice_get rows) place ∙ at in cc) in
        let left : states_with d.fate s.states st.after ≡ s.states = silent-leaves st.row f d.fate s.states st.after (ap silent_row own ∙ silent) st.allowed st.ran in
        let same_configuration : v ≡ marked k s = st.leads ∙ (λ i. record { placed = set s.placed (place i) true; states = left i }) in
        subst (λ (x : Configuration). walked rows x q ≡ Some u) same_configuration on
    go later (Ok v) is on false same =
        let keeps = step-keeps rows t k s v d found same is in
        let rest : walked rows (marked k v) (without t q) ≡ Some u = later v (omega (arith, keeps.1, inside)) (keeps.0 ∙ absent) on in
        ap (λ (r : Result Configuration OrderFault). elim r as (λ (_ : Result Configuration OrderFault). Option Configuration) [ Err _ ↦ None | Ok v ↦ walked rows v (without t q) ]) (step-other rows t k s v d found same is) ∙ rest
