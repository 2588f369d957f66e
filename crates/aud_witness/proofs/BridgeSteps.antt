-- One decision placed by the rows of the table is one decision placed by the definition.
use Rattle.std.specs.Prelude.{◌≡◌, ℕ, suc, zero, ◌<◌, Bool, true, false, not, ◌||◌, if◌then◌else◌, nat_eq, nat_lt, List, [], ◌∷◌, ◌++◌, map, length, replicate, Option, Some, None, Result, Ok, Err, MatchOption, slice_get, slice_set, slice_index_or, All, refl}
use Rattle.std.specs.List.{list_any, position, position_or_len}
use Rattle.std.proofs.Common.{sym, ◌∙◌, ap, subst, cond, inl, inr, arith, get_or, set, append_assoc}
use Rattle.std.proofs.Math.ListN.{length-map}
use Rattle.std.proofs.lemmas.List.{append-nil}
use Rattle.std.proofs.lemmas.List.Quantifiers.{position-Some}
use Rattle.aud_event.specs.declared.object.OpName.{OpName}
use Rattle.aud_event.specs.declared.fact.Event.{Event}
use Rattle.aud_event.specs.declared.fact.Event.TheVariants.{Inv, Ret, TryC, TryA, Commit, Abort}
use Rattle.aud_event.specs.Meanings.{Declared, PlanOf}
use Rattle.aud_event.specs.Objects.{name_of}
use Rattle.aud_event.specs.Facts.{first_event_fault, first_use_fault, or_else_fault}
use Rattle.aud_event.specs.declared.fact.FactFault.{FactFault}
use Rattle.aud_event.specs.declared.signature.Format.{Format}
use Rattle.base_values.proofs.Bools.{or_true, and_true, or_right, true_or, not_true, split, is_false, nat_eq-is, nat_eq-refl, nat_eq-sym}
use Rattle.aud_kinds.specs.Objects.{ObjState, opening_of, on_object, IsInSeq}
use Rattle.aud_object.specs.Executions.{AreExecutions, no_execution, execution, states_after, states_after_from, state_after, IsLegalFrom}
use Rattle.aud_object.specs.Blocks.{BlockOf, events_of_block, AreThere}
use Rattle.aud_object.specs.Replayed.{replayed}
use Rattle.aud_object.specs.Laws.{AreExecutionsOnEach}
use Rattle.aud_object.proofs.Replays.{on_object-append}
use Rattle.aud_object.proofs.Legality.{opening_is_legality, blocks_replay_in_turn}
use Rattle.aud_history.proofs.Numbers.{lt-any, tx-rows}
use Rattle.aud_history.specs.declared.state.TxState.TheVariants.{Idle}
use Rattle.aud_history.specs.Histories.{History, events_of, is_in, is_commit, is_try_commit, is_committed, is_live, is_commit_pending}
use Rattle.aud_history.specs.WellFormed.{IsWellFormed}
use Rattle.aud_history.specs.ByState.{is_match, Passes}
use Rattle.aud_history.specs.FirstFault.{FitsPlan}
use Rattle.aud_history.specs.Table.{RowOf, transactions, tx_status, block_of, first_stamp, row_of, table_of}
use Rattle.aud_history.proofs.StateTable.{Passes-from_IsTransaction, matched_passes, matched}
use Rattle.aud_history.proofs.Tables.{any-transactions, are_different, different-transactions}
use Rattle.aud_history.proofs.RowLaws.{on_object-block_of, off_objects-tried, off_objects-given_up, nothing_else}
use Rattle.aud_witness.specs.declared.decision.Fate.{Fate}
use Rattle.aud_witness.specs.declared.decision.Fate.TheVariants.{C, A}
use Rattle.aud_witness.specs.declared.decision.Decision.{Decision}
use Rattle.aud_witness.specs.declared.fault.OrderFault.{OrderFault}
use Rattle.aud_witness.specs.declared.fault.OrderFault.TheVariants.{UnknownTx, Twice, FateNotAllowed, RealTime, Illegal}
use Rattle.aud_witness.specs.Orders.{is_allowed, is_named, is_kept, block, kept}
use Rattle.aud_witness.specs.Enumeration.{is_legal_from}
use Rattle.aud_witness.specs.OrderFaults.{is_enabled, place_fault}
use Rattle.aud_witness.specs.Configurations.{Configuration, first_configuration, status_allows, are_earlier_placed, states_with, early_fault, block_stepped, row_stepped, stepped}
use Rattle.aud_witness.proofs.Tested.{IsLegal-from_test, test-from_IsLegal}
use Rattle.aud_witness.proofs.Beginnings.{is_named-append}
use Rattle.aud_witness.proofs.Endings.{on_object-block}
use Rattle.aud_witness.proofs.Bridge.{row-at, named-at, status-allowed, enabled-by_rows}

-- # Legality

legal-same : (states : List ObjState) (a b : List Event) → ((ob : ℕ) → on_object ob a ≡ on_object ob b) → IsLegalFrom states a → IsLegalFrom states b
legal-same states a b same legal = λ ob s at. subst (λ l. IsInSeq s l) (same ob) (legal ob s at)

after-same : (n : ℕ) (states : List ObjState) (a b : List Event) → ((ob : ℕ) → on_object ob a ≡ on_object ob b) → states_after_from n states a ≡ states_after_from n states b
after-same n [] a b same = refl
after-same n (s ∷ ss) a b same =
    ap (λ l. state_after s l ∷ states_after_from (suc n) ss a) (same n) ∙ ap (λ l. state_after s (on_object n b) ∷ l) (after-same (suc n) ss a b same)

-- a row's block, after other events, does on each object what the definition's block does
block-same : (h : History) (d : Decision) (es : List Event) → IsWellFormed h → (ob : ℕ) →
    on_object ob (es ++ events_of_block (block_of (events_of d.tx h))) ≡ on_object ob (es ++ block h d)
block-same h d es fine ob =
    on_object-append ob es (events_of_block (block_of (events_of d.tx h)))
    ∙ ap (λ l. on_object ob es ++ l) (on_object-block_of (events_of d.tx h) (Passes-from_IsTransaction (events_of d.tx h) (fine d.tx)) ob ∙ sym (on_object-block ob h d))
    ∙ sym (on_object-append ob es (block h d))

unreported : (o : Option FactFault) (fits : Bool) (last : FactFault) → or_else_fault o fits last ≡ None → o ≡ None
unreported None fits last e = refl
unreported (Some fault) fits last e = cc

used : (format : Format) (objects : List Declared) (ob : ℕ) (name : OpName) → first_use_fault format (slice_get objects ob) name ≡ None → ob < length objects
used format [] ob name fits = cc
used format (d ∷ ds) zero name fits = omega arith
used format (d ∷ ds) (suc ob) name fits = let below : ob < length ds = used format ds ob name fits in omega arith

-- an invocation is on an object that is there
abbrev IsOnObject : List Declared → Event → Type 0
IsOnObject objects (Inv ob op) = ob < length objects
IsOnObject objects _ = Unit {0}

on_object-from_fit : (plan : PlanOf) (e : Event) → first_event_fault plan e ≡ None → IsOnObject plan.objects e
on_object-from_fit plan (Inv ob op) fit = used plan.format plan.objects ob (name_of op) (unreported _ _ _ fit)
on_object-from_fit plan (Ret _ _ _) fit = tt
on_object-from_fit plan TryC fit = tt
on_object-from_fit plan TryA fit = tt
on_object-from_fit plan Commit fit = tt
on_object-from_fit plan Abort fit = tt

-- each invocation is on an object that is there
abbrev pub AllFit : List Declared → List Event → Type 0
AllFit objects [] = Unit {0}
AllFit objects (e ∷ es) = IsOnObject objects e × AllFit objects es

pub fit-from_plan : (plan : PlanOf) (t : ℕ) (h : History) → All (FitsPlan plan) h → AllFit plan.objects (events_of t h)
fit-from_plan plan t [] all = tt
fit-from_plan plan t (e ∷ h) all =
    let rest = fit-from_plan plan t h (λ k d inside. all (suc k) d (omega arith)) in
    let here = on_object-from_fit plan e.1 (all 0 e (omega arith)).1 in
    elim (nat_eq e.0 t) as (λ k. AllFit plan.objects (cond k (e.1 ∷ events_of t h) (events_of t h))) [ true ↦ (here, rest) | false ↦ rest ]

there-from_fit : (objects : List Declared) (states : List ObjState) (es : List Event) → length states ≡ length objects → AllFit objects es → AreThere states (block_of es).executions
there-from_fit objects states [] same fit = tt
there-from_fit objects states (Inv o op ∷ []) same fit = tt
there-from_fit objects states (Inv o op ∷ Ret o' name answer ∷ es) same fit =
    let below : o < length objects = fit.0 in
    (omega arith, there-from_fit objects states es same fit.1.1)
there-from_fit objects states (Inv o op ∷ Inv _ _ ∷ es) same fit = tt
there-from_fit objects states (Inv o op ∷ TryC ∷ es) same fit = tt
there-from_fit objects states (Inv o op ∷ TryA ∷ es) same fit = tt
there-from_fit objects states (Inv o op ∷ Commit ∷ es) same fit = tt
there-from_fit objects states (Inv o op ∷ Abort ∷ es) same fit = tt
there-from_fit objects states (Ret _ _ _ ∷ es) same fit = tt
there-from_fit objects states (TryC ∷ es) same fit = tt
there-from_fit objects states (TryA ∷ es) same fit = tt
there-from_fit objects states (Commit ∷ es) same fit = tt
there-from_fit objects states (Abort ∷ es) same fit = tt

-- the test of legality is legality from the opening states
test-is : (objects : List Declared) (es : List Event) → IsLegalFrom (map opening_of objects) es → is_legal_from 0 objects es ≡ true
test-is objects es legal = test-from_IsLegal objects es ((opening_is_legality objects es).1 legal)

test-from : (objects : List Declared) (es : List Event) → is_legal_from 0 objects es ≡ true → IsLegalFrom (map opening_of objects) es
test-from objects es test = (opening_is_legality objects es).0 (IsLegal-from_test objects es test)

-- what a replay of a row's block says
abbrev Replays : List Declared → List Event → Option (List ObjState) → Type 0
Replays objects es None = is_legal_from 0 objects es ≡ false
Replays objects es (Some after) = (is_legal_from 0 objects es ≡ true) × (IsLegalFrom (map opening_of objects) es × (after ≡ states_after (map opening_of objects) es))

replays : (objects : List Declared) (h : History) (es : List Event) (d : Decision) → IsWellFormed h → AllFit objects (events_of d.tx h) → AreExecutionsOnEach es → IsLegalFrom (map opening_of objects) es →
    Replays objects (es ++ block h d) (replayed (states_after (map opening_of objects) es) (block_of (events_of d.tx h)))
replays objects h es d fine fit whole legal =
    go (replayed (states_after openings es) b) (blocks_replay_in_turn openings es b whole legal (there-from_fit objects openings (events_of d.tx h) (length-map objects opening_of) fit))
  where
    openings : List ObjState
    openings = map opening_of objects

    b : BlockOf
    b = block_of (events_of d.tx h)

    go : (o : Option (List ObjState)) →
        MatchOption o (IsLegalFrom openings (es ++ events_of_block b) → ⊥) (λ after. IsLegalFrom openings (es ++ events_of_block b) × (after ≡ states_after openings (es ++ events_of_block b))) →
        Replays objects (es ++ block h d) o
    go None none = is_false (is_legal_from 0 objects (es ++ block h d)) (λ test. none (legal-same openings (es ++ block h d) (es ++ events_of_block b) (λ ob. sym (block-same h d es fine ob)) (test-from objects (es ++ block h d) test)))
    go (Some after) (right, is) =
        let all = legal-same openings (es ++ events_of_block b) (es ++ block h d) (block-same h d es fine) right in
        (test-is objects (es ++ block h d) all, (all, is ∙ after-same 0 openings (es ++ events_of_block b) (es ++ block h d) (block-same h d es fine)))

-- # Whole executions

-- a transaction that commits, or asked to, has no invocation without response
executions-on : (es : List Event) → Passes Idle es → (list_any is_commit es || list_any is_try_commit es) ≡ true → (ob : ℕ) → AreExecutions (on_object ob es)
executions-on [] p asked ob = no_execution
executions-on (Inv o op ∷ []) p asked ob = absurd (let wrong : false ≡ true = asked in cc)
executions-on (Inv o op ∷ Ret o' name answer ∷ es) p asked ob =
    let q = matched_passes (is_match o op o' name) es p in
    let m : (o' ≡ o) × (name ≡ name_of op) = matched o op o' name q.0 in
    let rest = executions-on es q.1 asked ob in
    subst (λ n. AreExecutions (on_object ob (Inv o op ∷ Ret n name answer ∷ es))) (sym m.0)
    (subst (λ n. AreExecutions (on_object ob (Inv o op ∷ Ret o n answer ∷ es))) (sym m.1)
    (elim (nat_eq o ob) as (λ k. AreExecutions (cond k (Inv o op ∷ cond k (Ret o (name_of op) answer ∷ on_object ob es) (on_object ob es)) (cond k (Ret o (name_of op) answer ∷ on_object ob es) (on_object ob es)))) [
      | true ↦ execution rest
      | false ↦ rest
    ]))
executions-on (Inv o op ∷ Inv _ _ ∷ es) p asked ob = absurd p
executions-on (Inv o op ∷ TryC ∷ es) p asked ob = absurd p
executions-on (Inv o op ∷ TryA ∷ es) p asked ob = absurd p
executions-on (Inv o op ∷ Commit ∷ es) p asked ob = absurd p
executions-on (Inv o op ∷ Abort ∷ es) p asked ob =
    let none : es ≡ [] = nothing_else es p in
    absurd (let wrong : false ≡ true = subst (λ l. (list_any is_commit l || list_any is_try_commit l) ≡ true) none asked in cc)
executions-on (Ret _ _ _ ∷ es) p asked ob = absurd p
executions-on (TryC ∷ es) p asked ob = subst (λ l. AreExecutions l) (sym (off_objects-tried ob es p)) no_execution
executions-on (TryA ∷ es) p asked ob = subst (λ l. AreExecutions l) (sym (off_objects-given_up ob es p)) no_execution
executions-on (Commit ∷ es) p asked ob = absurd p
executions-on (Abort ∷ es) p asked ob = absurd p

executions-append : {a b : List Event} → AreExecutions a → AreExecutions b → AreExecutions (a ++ b)
executions-append no_execution more = more
executions-append (execution are) more = execution (executions-append are more)

pub asked-from_allowed : (h : History) (t : ℕ) → is_allowed h t C ≡ true → (list_any is_commit (events_of t h) || list_any is_try_commit (events_of t h)) ≡ true
asked-from_allowed h t allowed =
    elim (or_true (is_committed h t) (is_commit_pending h t) allowed) [
      | inl commits ↦ true_or (is_committed h t) (list_any is_try_commit (events_of t h)) commits
      | inr pending ↦ or_right (is_committed h t) (list_any is_try_commit (events_of t h)) (and_true (is_live h t) (list_any is_try_commit (events_of t h)) pending).1
    ]

whole-kept : (h : History) (es : List Event) (d : Decision) → IsWellFormed h → is_allowed h d.tx C ≡ true → AreExecutionsOnEach es → AreExecutionsOnEach (es ++ block h d)
whole-kept h es d fine allowed whole = λ ob.
    let own : AreExecutions (on_object ob (block h d)) =
    subst (λ l. AreExecutions l) (sym (on_object-block ob h d))
    (executions-on (events_of d.tx h) (Passes-from_IsTransaction (events_of d.tx h) (fine d.tx)) (asked-from_allowed h d.tx allowed) ob) in
    subst (λ l. AreExecutions l) (sym (on_object-append ob es (block h d))) (executions-append (whole ob) own)

abbrev kept_fate : Fate → Bool
kept_fate f = elim f [ C ↦ true | A ↦ false ]

kept-push : (h : History) (p : List Decision) (d : Decision) → kept h (p ++ d ∷ []) ≡ (if is_kept d then kept h p ++ block h d else kept h p)
kept-push h [] d = elim (is_kept d) as (λ k. cond k (block h d ++ []) [] ≡ cond k (block h d) []) [ true ↦ append-nil (block h d) | false ↦ refl ]
kept-push h (x ∷ p) d =
    ap (λ l. cond (is_kept x) (block h x ++ l) l) (kept-push h p d)
    ∙ elim (is_kept x) as (λ j. cond j (block h x ++ cond (is_kept d) (kept h p ++ block h d) (kept h p)) (cond (is_kept d) (kept h p ++ block h d) (kept h p)) ≡ cond (is_kept d) (cond j (block h x ++ kept h p) (kept h p) ++ block h d) (cond j (block h x ++ kept h p) (kept h p))) [
      | true ↦ elim (is_kept d) as (λ k. block h x ++ cond k (kept h p ++ block h d) (kept h p) ≡ cond k ((block h x ++ kept h p) ++ block h d) (block h x ++ kept h p)) [
        | true ↦ sym (append_assoc (block h x) (kept h p) (block h d))
        | false ↦ refl
      ]
      | false ↦ refl
    ]

-- # Where a prefix has led

-- a configuration is the one to which the prefix led
pub record Stands (objects : List Declared) (h : History) (p : List Decision) (s : Configuration) : Type 0 where
  pub placed : s.placed ≡ map (is_named p) (transactions h)
  pub states : s.states ≡ states_after (map opening_of objects) (kept h p)
  pub whole : AreExecutionsOnEach (kept h p)
  pub legal : IsLegalFrom (map opening_of objects) (kept h p)

none-named : (ts : List ℕ) → replicate (length ts) false ≡ map (is_named []) ts
none-named [] = refl
none-named (t ∷ ts) = ap (λ l. false ∷ l) (none-named ts)

after-nothing : (n : ℕ) (states : List ObjState) → states ≡ states_after_from n states []
after-nothing n [] = refl
after-nothing n (s ∷ ss) = ap (λ l. s ∷ l) (after-nothing (suc n) ss)

pub Stands-root : (objects : List Declared) (h : History) → Stands objects h [] (first_configuration (table_of h) objects)
Stands-root objects h = record {
  placed = ap (λ n. replicate n false) (length-map (transactions h) (row_of h)) ∙ none-named (transactions h);
  states = after-nothing 0 (map opening_of objects);
  whole = λ ob. no_execution;
  legal = λ ob s at. tt;
}

pub absent-from_position : (q : ℕ → Bool) (ts : List ℕ) → position q ts ≡ None → list_any q ts ≡ false
absent-from_position q ts none = sym (lt-any q ts) ∙ by_test (nat_lt (position_or_len q ts) (length ts)) none
  where
    by_test : (k : Bool) → cond k (Some (position_or_len q ts)) None ≡ None → k ≡ false
    by_test true e = cc
    by_test false e = refl

pub any-at : (u : ℕ) (ts : List ℕ) (k : ℕ) (d : ℕ) → k < length ts → nat_eq u (get_or ts k d) ≡ true → list_any (nat_eq u) ts ≡ true
any-at u [] k d inside same = absurd (omega arith)
any-at u (t ∷ ts) zero d inside same = true_or (nat_eq u t) (list_any (nat_eq u) ts) same
any-at u (t ∷ ts) (suc k) d inside same = or_right (nat_eq u t) (list_any (nat_eq u) ts) (any-at u ts k d (omega arith) same)

map-same : (f g : ℕ → Bool) (ts : List ℕ) → ((u : ℕ) → list_any (nat_eq u) ts ≡ true → g u ≡ f u) → map f ts ≡ map g ts
map-same f g [] same = refl
map-same f g (t ∷ ts) same =
    ap (λ b. b ∷ map f ts) (sym (same t (true_or (nat_eq t t) (list_any (nat_eq t) ts) (nat_eq-refl t))))
    ∙ ap (λ l. g t ∷ l) (map-same f g ts (λ u there. same u (or_right (nat_eq u t) (list_any (nat_eq u) ts) there)))

apart : (t u : ℕ) (ts : List ℕ) → list_any (nat_eq t) ts ≡ false → list_any (nat_eq u) ts ≡ true → nat_eq t u ≡ false
apart t u ts none there =
    is_false (nat_eq t u) (λ same. let clash : list_any (nat_eq u) ts ≡ false = subst (λ n. list_any (nat_eq n) ts ≡ false) (nat_eq-is t u same) none in cc)

-- one more transaction placed, of those that stand once each
pub set-named : (f g : ℕ → Bool) (ts : List ℕ) (k : ℕ) (t : ℕ) (d : ℕ) → are_different ts ≡ true → k < length ts → get_or ts k d ≡ t → g t ≡ true →
    ((u : ℕ) → nat_eq t u ≡ false → g u ≡ f u) → set (map f ts) k true ≡ map g ts
set-named f g [] k t d differ inside at placed others = absurd (omega arith)
set-named f g (x ∷ ts) zero t d differ inside at placed others =
    let parts = and_true (not (list_any (nat_eq x) ts)) (are_different ts) differ in
    let none : list_any (nat_eq t) ts ≡ false = subst (λ n. list_any (nat_eq n) ts ≡ false) at (not_true (list_any (nat_eq x) ts) parts.0) in
    ap (λ b. b ∷ map f ts) (sym (subst (λ n. g n ≡ true) (sym at) placed))
    ∙ ap (λ l. g x ∷ l) (map-same f g ts (λ u there. others u (apart t u ts none there)))
set-named f g (x ∷ ts) (suc k) t d differ inside at placed others =
    let parts = and_true (not (list_any (nat_eq x) ts)) (are_different ts) differ in
    let below : k < length ts = omega arith in
    let there : list_any (nat_eq t) ts ≡ true = any-at t ts k d below (subst (λ n. nat_eq t n ≡ true) (sym at) (nat_eq-refl t)) in
    let other : nat_eq x t ≡ false = apart x t ts (not_true (list_any (nat_eq x) ts) parts.0) there in
    ap (λ b. b ∷ set (map f ts) k true) (sym (others x (nat_eq-sym t x ∙ other)))
    ∙ ap (λ l. g x ∷ l) (set-named f g ts k t d parts.1 below at placed others)

-- # One decision

-- what a step says of a decision after a prefix
abbrev pub Reported : List Declared → History → List Decision → Decision → Result Configuration OrderFault → Type 0
Reported objects h p d (Ok s) = (place_fault objects h p d ≡ None) × Stands objects h (p ++ d ∷ []) s
Reported objects h p d (Err fault) = place_fault objects h p d ≡ Some fault

-- the tests of a decision in turn, and what is reported of the first that fails
abbrev fault_by : Bool → Bool → Bool → Bool → Bool → ℕ → Option OrderFault
fault_by there named allowed enabled legal t =
    if not there then Some (UnknownTx t)
    else (if named then Some (Twice t)
    else (if not allowed then Some (FateNotAllowed t)
    else (if not enabled then Some (RealTime t)
    else (if not legal then Some (Illegal t)
    else None))))

place-by : (objects : List Declared) (h : History) (p : List Decision) (d : Decision) (there named allowed enabled legal : Bool) →
    is_in h d.tx ≡ there → is_named p d.tx ≡ named → is_allowed h d.tx d.fate ≡ allowed → is_enabled h p d.tx ≡ enabled → is_legal_from 0 objects (kept h p ++ block h d) ≡ legal →
    place_fault objects h p d ≡ fault_by there named allowed enabled legal d.tx
place-by objects h p d there named allowed enabled legal a b c e l = λ i. fault_by (a i) (b i) (c i) (e i) (l i) d.tx

-- the configuration after a decision whose block could run
Stands-next : (objects : List Declared) (h : History) (p : List Decision) (s : Configuration) (d : Decision) (k d0 : ℕ) (after : List ObjState) → IsWellFormed h → Stands objects h p s →
    k < length (transactions h) → get_or (transactions h) k d0 ≡ d.tx → is_allowed h d.tx d.fate ≡ true →
    IsLegalFrom (map opening_of objects) (kept h p ++ block h d) → after ≡ states_after (map opening_of objects) (kept h p ++ block h d) →
    Stands objects h (p ++ d ∷ []) (record { placed = set s.placed k true; states = states_with d.fate s.states after })
Stands-next objects h p s d k d0 after fine stands inside at allowed legal is =
    by_fate d.fate refl
  where
    openings : List ObjState
    openings = map opening_of objects

    own : is_named (p ++ d ∷ []) d.tx ≡ true
    own = is_named-append p (d ∷ []) d.tx ∙ or_right (is_named p d.tx) (nat_eq d.tx d.tx || false) (true_or (nat_eq d.tx d.tx) false (nat_eq-refl d.tx))

    or_nothing : (a : Bool) → (a || false) ≡ a
    or_nothing true = refl
    or_nothing false = refl

    others : (u : ℕ) → nat_eq d.tx u ≡ false → is_named (p ++ d ∷ []) u ≡ is_named p u
    others u other = is_named-append p (d ∷ []) u ∙ ap (λ b. is_named p u || (b || false)) other ∙ or_nothing (is_named p u)

    now_placed : set s.placed k true ≡ map (is_named (p ++ d ∷ [])) (transactions h)
    now_placed =
        ap (λ l. set l k true) stands.placed
        ∙ set-named (is_named p) (is_named (p ++ d ∷ [])) (transactions h) k d.tx d0 (different-transactions h) inside at own others

    by_fate : (fate : Fate) → d.fate ≡ fate → Stands objects h (p ++ d ∷ []) (record { placed = set s.placed k true; states = states_with d.fate s.states after })
    by_fate C e =
        let grown : kept h (p ++ d ∷ []) ≡ kept h p ++ block h d =
        kept-push h p d ∙ ap (λ f. cond (kept_fate f) (kept h p ++ block h d) (kept h p)) e in
        let allowed_c : is_allowed h d.tx C ≡ true = ap (is_allowed h d.tx) (sym e) ∙ allowed in
        record {
          placed = now_placed;
          states = ap (λ f. states_with f s.states after) e ∙ is ∙ ap (states_after openings) (sym grown);
          whole = subst (λ l. AreExecutionsOnEach l) (sym grown) (whole-kept h (kept h p) d fine allowed_c stands.whole);
          legal = subst (λ l. IsLegalFrom openings l) (sym grown) legal;
        }
    by_fate A e =
        let same : kept h (p ++ d ∷ []) ≡ kept h p = kept-push h p d ∙ ap (λ f. cond (kept_fate f) (kept h p ++ block h d) (kept h p)) e in
        record {
          placed = now_placed;
          states = ap (λ f. states_with f s.states after) e ∙ stands.states ∙ ap (states_after openings) (sym same);
          whole = subst (λ l. AreExecutionsOnEach l) (sym same) stands.whole;
          legal = subst (λ l. IsLegalFrom openings l) (sym same) stands.legal;
        }

-- a decision of which nothing is wrong but perhaps its block
reported-block : (objects : List Declared) (h : History) (p : List Decision) (s : Configuration) (d : Decision) (k d0 : ℕ) → IsWellFormed h → AllFit objects (events_of d.tx h) → Stands objects h p s →
    k < length (transactions h) → get_or (transactions h) k d0 ≡ d.tx → is_in h d.tx ≡ true → is_named p d.tx ≡ false → is_allowed h d.tx d.fate ≡ true → is_enabled h p d.tx ≡ true →
    Reported objects h p d (block_stepped s d k (row_of h d.tx))
reported-block objects h p s d k d0 fine fit stands inside at there new allowed enabled =
    go (replayed s.states (block_of (events_of d.tx h)))
    (subst (λ l. Replays objects (kept h p ++ block h d) (replayed l (block_of (events_of d.tx h)))) (sym stands.states) (replays objects h (kept h p) d fine fit stands.whole stands.legal))
  where
    go : (o : Option (List ObjState)) → Replays objects (kept h p ++ block h d) o →
        Reported objects h p d (elim o as (λ (_ : Option (List ObjState)). Result Configuration OrderFault) [ None ↦ Err (Illegal d.tx) | Some after ↦ Ok (record { placed = slice_set s.placed k true; states = states_with d.fate s.states after }) ])
    go None illegal = place-by objects h p d true false true true false there new allowed enabled illegal
    go (Some after) (legal, (all, is)) =
        (place-by objects h p d true false true true true there new allowed enabled legal, Stands-next objects h p s d k d0 after fine stands inside at allowed all is)

abbrev early_by : Bool → Bool → Bool → ℕ → Option OrderFault
early_by named allowed enabled t =
    if named then Some (Twice t) else (if not allowed then Some (FateNotAllowed t) else (if not enabled then Some (RealTime t) else None))

-- a decision on the row of its transaction
reported-row : (objects : List Declared) (h : History) (p : List Decision) (s : Configuration) (d : Decision) (k d0 : ℕ) → IsWellFormed h → AllFit objects (events_of d.tx h) → Stands objects h p s →
    k < length (transactions h) → get_or (transactions h) k d0 ≡ d.tx → is_in h d.tx ≡ true → Reported objects h p d (row_stepped (table_of h) s d k (row_of h d.tx))
reported-row objects h p s d k d0 fine fit stands inside at there =
    elim (split (is_named p d.tx)) [
      | inl named ↦ reported (Twice d.tx) (λ i. early_by (named i) (is_allowed h d.tx d.fate) (is_enabled h p d.tx) d.tx)
          (λ i. fault_by (there i) (named i) (is_allowed h d.tx d.fate) (is_enabled h p d.tx) (is_legal_from 0 objects (kept h p ++ block h d)) d.tx)
      | inr new ↦
          elim (split (is_allowed h d.tx d.fate)) [
            | inr refused ↦ reported (FateNotAllowed d.tx) (λ i. early_by (new i) (refused i) (is_enabled h p d.tx) d.tx)
                (λ i. fault_by (there i) (new i) (refused i) (is_enabled h p d.tx) (is_legal_from 0 objects (kept h p ++ block h d)) d.tx)
            | inl allowed ↦
                elim (split (is_enabled h p d.tx)) [
                  | inr early ↦ reported (RealTime d.tx) (λ i. early_by (new i) (allowed i) (early i) d.tx)
                      (λ i. fault_by (there i) (new i) (allowed i) (early i) (is_legal_from 0 objects (kept h p ++ block h d)) d.tx)
                  | inl enabled ↦
                      subst (λ o. Reported objects h p d (row_by o)) (sym (is_early ∙ (λ i. early_by (new i) (allowed i) (enabled i) d.tx)))
                      (reported-block objects h p s d k d0 fine fit stands inside at there new allowed enabled)
                ]
          ]
    ]
  where
    row_by : Option OrderFault → Result Configuration OrderFault
    row_by o = elim o as (λ (_ : Option OrderFault). Result Configuration OrderFault) [ Some fault ↦ Err fault | None ↦ block_stepped s d k (row_of h d.tx) ]

    at_row : slice_index_or s.placed k false ≡ is_named p d.tx
    at_row = ap (λ l. get_or l k false) stands.placed ∙ named-at (is_named p) (transactions h) k d0 inside ∙ ap (is_named p) at

    by_status : status_allows (tx_status (events_of d.tx h)) d.fate ≡ is_allowed h d.tx d.fate
    by_status = status-allowed h d.tx d.fate fine

    by_time : are_earlier_placed (table_of h) s.placed (first_stamp h d.tx) ≡ is_enabled h p d.tx
    by_time = ap (λ l. are_earlier_placed (table_of h) l (first_stamp h d.tx)) stands.placed ∙ enabled-by_rows h p d.tx there

    is_early : early_fault (table_of h) s d k (row_of h d.tx) ≡ early_by (is_named p d.tx) (is_allowed h d.tx d.fate) (is_enabled h p d.tx) d.tx
    is_early = λ i. early_by (at_row i) (by_status i) (by_time i) d.tx

    reported : (fault : OrderFault) → early_by (is_named p d.tx) (is_allowed h d.tx d.fate) (is_enabled h p d.tx) d.tx ≡ Some fault → place_fault objects h p d ≡ Some fault →
        Reported objects h p d (row_stepped (table_of h) s d k (row_of h d.tx))
    reported fault early is = subst (λ o. Reported objects h p d (row_by o)) (sym (is_early ∙ early)) is

-- a step by the rows of the table is a step by the definition
pub stepped-reported : (objects : List Declared) (h : History) (p : List Decision) (s : Configuration) (d : Decision) → IsWellFormed h → AllFit objects (events_of d.tx h) → Stands objects h p s →
    Reported objects h p d (stepped (table_of h) s d)
stepped-reported objects h p s d fine fit stands = go (position (nat_eq d.tx) (map (λ (r : RowOf). r.tx) (table_of h))) refl
  where
    keys : map (λ (r : RowOf). r.tx) (table_of h) ≡ transactions h
    keys = tx-rows h (transactions h)

    go : (o : Option ℕ) → position (nat_eq d.tx) (map (λ (r : RowOf). r.tx) (table_of h)) ≡ o →
        Reported objects h p d (elim o as (λ (_ : Option ℕ). Result Configuration OrderFault) [ None ↦ Err (UnknownTx d.tx) | Some k ↦ elim (slice_get (table_of h) k) as (λ (_ : Option RowOf). Result Configuration OrderFault) [ None ↦ Err (UnknownTx d.tx) | Some r ↦ row_stepped (table_of h) s d k r ] ])
    go None none =
        let absent : is_in h d.tx ≡ false = sym (any-transactions h d.tx) ∙ absent-from_position (nat_eq d.tx) (transactions h) (ap (position (nat_eq d.tx)) (sym keys) ∙ none) in
        λ i. fault_by (absent i) (is_named p d.tx) (is_allowed h d.tx d.fate) (is_enabled h p d.tx) (is_legal_from 0 objects (kept h p ++ block h d)) d.tx
    go (Some k) found =
        let place = position-Some (nat_eq d.tx) (transactions h) k 0 (ap (position (nat_eq d.tx)) (sym keys) ∙ found) in
        let at : get_or (transactions h) k 0 ≡ d.tx = sym (nat_eq-is d.tx (get_or (transactions h) k 0) place.1) in
        let there : is_in h d.tx ≡ true = sym (any-transactions h d.tx) ∙ any-at d.tx (transactions h) k 0 place.0 place.1 in
        let row : slice_get (table_of h) k ≡ Some (row_of h d.tx) = row-at h (transactions h) k 0 place.0 ∙ ap (λ t. Some (row_of h t)) at in
        subst (λ o. Reported objects h p d (elim o as (λ (_ : Option RowOf). Result Configuration OrderFault) [ None ↦ Err (UnknownTx d.tx) | Some r ↦ row_stepped (table_of h) s d k r ])) (sym row)
        (reported-row objects h p s d k 0 fine fit stands place.0 at there)
