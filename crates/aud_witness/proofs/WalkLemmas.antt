-- Decisions placed in turn by the rows of the table: what can be placed is good, and an order is judged exactly.
use Rattle.std.specs.Prelude.{◌≡◌, ◌↔◌, ℕ, ◌+◌, ◌<◌, ◌≤◌, Bool, true, false, not, nat_eq, List, [], ◌∷◌, ◌++◌, map, filter, length, drop, Option, Some, None, is_some, Result, Ok, Err, MatchResult, IsOk, refl}
use Rattle.std.specs.List.{list_any, list_all}
use Rattle.std.proofs.Common.{sym, ◌∙◌, ap, subst, cond, inl, inr, get_or, append_assoc}
use Rattle.std.proofs.lemmas.List.{drop_more, drop_all, append-nil}
use Rattle.aud_event.specs.Meanings.{Declared, PlanOf}
use Rattle.base_values.proofs.Bools.{and_true, true_and, or_true, or_right, true_or, nat_eq-is, nat_eq-refl}
use Rattle.aud_history.specs.Histories.{History, events_of}
use Rattle.aud_history.specs.WellFormed.{IsWellFormed}
use Rattle.aud_history.specs.FirstFault.{IsWithinLimits}
use Rattle.aud_history.specs.Table.{RowOf, transactions, row_of, table_of}
use Rattle.aud_history.proofs.Tables.{any-transactions}
use Rattle.aud_witness.specs.declared.decision.Decision.{Decision}
use Rattle.aud_witness.specs.declared.fault.OrderFault.{OrderFault}
use Rattle.aud_witness.specs.declared.fault.OrderFault.TheVariants.{Missing}
use Rattle.aud_witness.specs.Orders.{is_named, Shows, IsGood}
use Rattle.aud_witness.specs.OrderFaults.{place_fault, least_tx, fault_after, first_order_fault, ReportsOrderFault}
use Rattle.aud_witness.specs.Configurations.{Configuration, first_configuration, stepped, unplaced}
use Rattle.aud_witness.specs.Agendas.{AgendaOf}
use Rattle.aud_witness.specs.Placings.{PlacingOf, Advances}
use Rattle.aud_witness.specs.Walks.{walked, walk_fault, are_all_placed, WalksAreGood}
use Rattle.aud_witness.proofs.Beginnings.{IsGood-from_Shows}
use Rattle.aud_witness.proofs.Good.{IsGood-empty, IsGood-push, Shows-from_IsGood}
use Rattle.aud_witness.proofs.Faults.{IsGoodNext-from_no_fault, no_fault-from_IsGoodNext, IsFull-from_IsGood, Shows-from_no_fault, no_fault-from_Shows}
use Rattle.aud_witness.proofs.BridgeSteps.{AllFit, fit-from_plan, Stands, Stands-root, Reported, stepped-reported}

-- every event of every transaction fits the objects
abbrev pub Fits : List Declared → History → Type 0
Fits objects h = (t : ℕ) → AllFit objects (events_of t h)

pub fits-from_limits : (plan : PlanOf) (h : History) → IsWithinLimits plan h → Fits plan.objects h
fits-from_limits plan h within = λ t. fit-from_plan plan t h within.1

-- # Walks

-- what a walk places after a good prefix is good
pub walked-good : (objects : List Declared) (h : History) (p rest : List Decision) (s t : Configuration) → IsWellFormed h → Fits objects h → Stands objects h p s → IsGood objects h p →
    walked (table_of h) s rest ≡ Some t → IsGood objects h (p ++ rest) × Stands objects h (p ++ rest) t
walked-good objects h p [] s t fine fits stands good led =
    let same : s ≡ t = cc in
    subst (λ l. IsGood objects h l × Stands objects h l t) (sym (append-nil p)) (good, subst (λ u. Stands objects h p u) same stands)
walked-good objects h p (d ∷ rest) s t fine fits stands good led =
    elim (stepped (table_of h) s d) as (λ (r : Result Configuration OrderFault). Reported objects h p d r → (elim r as (λ (_ : Result Configuration OrderFault). Option Configuration) [ Err _ ↦ None | Ok u ↦ walked (table_of h) u rest ]) ≡ Some t → IsGood objects h (p ++ d ∷ rest) × Stands objects h (p ++ d ∷ rest) t) [
      | Err fault ↦ λ reported none. absurd (cc)
      | Ok u ↦ λ reported on.
          subst (λ l. IsGood objects h l × Stands objects h l t) (append_assoc p (d ∷ []) rest)
          (walked-good objects h (p ++ d ∷ []) rest u t fine fits reported.1 (IsGood-push objects h p d good (IsGoodNext-from_no_fault objects h p d reported.0)) on)
    ] (stepped-reported objects h p s d fine (fits d.tx) stands) led

-- a good prefix can be walked
pub good-walked : (objects : List Declared) (h : History) (p rest : List Decision) (s : Configuration) → IsWellFormed h → Fits objects h → Stands objects h p s →
    IsGood objects h (p ++ rest) → (t : Configuration) × (walked (table_of h) s rest ≡ Some t)
good-walked objects h p [] s fine fits stands good = (s, refl)
good-walked objects h p (d ∷ rest) s fine fits stands good =
    elim (stepped (table_of h) s d) as (λ (r : Result Configuration OrderFault). Reported objects h p d r → (t : Configuration) × ((elim r as (λ (_ : Result Configuration OrderFault). Option Configuration) [ Err _ ↦ None | Ok u ↦ walked (table_of h) u rest ]) ≡ Some t)) [
      | Err fault ↦ λ reported. let none : place_fault objects h p d ≡ None = no_fault-from_IsGoodNext objects h p d (good p d rest refl) in absurd (cc)
      | Ok u ↦ λ reported. good-walked objects h (p ++ d ∷ []) rest u fine fits reported.1 (subst (λ l. IsGood objects h l) (sym (append_assoc p (d ∷ []) rest)) good)
    ] (stepped-reported objects h p s d fine (fits d.tx) stands)

all-named : (f : ℕ → Bool) (ts : List ℕ) → list_all (λ b. b) (map f ts) ≡ true → (t : ℕ) → list_any (nat_eq t) ts ≡ true → f t ≡ true
all-named f [] all t there = absurd (cc)
all-named f (x ∷ ts) all t there =
    let both = and_true (f x) (list_all (λ b. b) (map f ts)) all in
    elim (or_true (nat_eq t x) (list_any (nat_eq t) ts) there) [
      | inl same ↦ subst (λ n. f n ≡ true) (sym (nat_eq-is t x same)) both.0
      | inr later ↦ all-named f ts both.1 t later
    ]

all-from : (f : ℕ → Bool) (ts : List ℕ) → ((t : ℕ) → list_any (nat_eq t) ts ≡ true → f t ≡ true) → list_all (λ b. b) (map f ts) ≡ true
all-from f [] each = refl
all-from f (x ∷ ts) each =
    true_and (f x) (list_all (λ b. b) (map f ts)) (each x (true_or (nat_eq x x) (list_any (nat_eq x) ts) (nat_eq-refl x)))
    (all-from f ts (λ t there. each t (or_right (nat_eq t x) (list_any (nat_eq t) ts) there)))

pub some-from : {X : Type 0} (o : Option X) → is_some o ≡ true → (x : X) × (o ≡ Some x)
some-from None none = absurd (cc)
some-from (Some x) there = (x, refl)

root-good : (objects : List Declared) (h : History) (p : List Decision) (t : Configuration) → IsWellFormed h → Fits objects h →
    walked (table_of h) (first_configuration (table_of h) objects) p ≡ Some t → IsGood objects h p × Stands objects h p t
root-good objects h p t fine fits led =
    walked-good objects h [] p (first_configuration (table_of h) objects) t fine fits (Stands-root objects h) (IsGood-empty objects h) led

root-walked : (objects : List Declared) (h : History) (p : List Decision) → IsWellFormed h → Fits objects h →
    IsGood objects h p → (t : Configuration) × (walked (table_of h) (first_configuration (table_of h) objects) p ≡ Some t)
root-walked objects h p fine fits good = good-walked objects h [] p (first_configuration (table_of h) objects) fine fits (Stands-root objects h) good

walked-Shows : (objects : List Declared) (h : History) (p : List Decision) (t : Configuration) → IsWellFormed h → Fits objects h →
    walked (table_of h) (first_configuration (table_of h) objects) p ≡ Some t → are_all_placed t ≡ true → Shows objects h p
walked-Shows objects h p t fine fits led all =
    let there = root-good objects h p t fine fits led in
    let every : list_all (λ b. b) (map (is_named p) (transactions h)) ≡ true = subst (λ l. list_all (λ b. b) l ≡ true) there.1.placed all in
    Shows-from_IsGood objects h p
    (IsFull-from_IsGood objects h p there.0 (λ u inside. all-named (is_named p) (transactions h) every u (any-transactions h u ∙ inside))) there.0

Shows-walked : (objects : List Declared) (h : History) (p : List Decision) → IsWellFormed h → Fits objects h → Shows objects h p →
    (t : Configuration) × ((walked (table_of h) (first_configuration (table_of h) objects) p ≡ Some t) × (are_all_placed t ≡ true))
Shows-walked objects h p fine fits shown =
    let good : IsGood objects h p = IsGood-from_Shows objects h p [] (subst (λ l. Shows objects h l) (sym (append-nil p)) shown) in
    let (t, led) = root-walked objects h p fine fits good in
    let there = root-good objects h p t fine fits led in (
      t,
      (
        led,
        subst (λ l. list_all (λ b. b) l ≡ true) (sym there.1.placed)
            (all-from (is_named p) (transactions h) (λ u inside. shown.full.same u ∙ (sym (any-transactions h u) ∙ inside))),
      ),
    )

pub walks-say : WalksAreGood
walks-say plan h fine within =
    let fits = fits-from_limits plan h within in
    record {
      good = λ p. (
        λ there. (let (t, led) = some-from (walked (table_of h) (first_configuration (table_of h) plan.objects) p) there in (root-good plan.objects h p t fine fits led).0),
        λ good. (let (t, led) = root-walked plan.objects h p fine fits good in ap is_some led),
      );
      shows = λ p. (Shows-walked plan.objects h p fine fits, λ (t, (led, all)). walked-Shows plan.objects h p t fine fits led all);
    }

-- # What is reported of an order

unplaced-are_unnamed : (h : History) (f : ℕ → Bool) (ts : List ℕ) → unplaced (map (row_of h) ts) (map f ts) ≡ filter (λ t. not (f t)) ts
unplaced-are_unnamed h f [] = refl
unplaced-are_unnamed h f (t ∷ ts) =
    elim (f t) as (λ b. cond b (unplaced (map (row_of h) ts) (map f ts)) (t ∷ unplaced (map (row_of h) ts) (map f ts)) ≡ cond (not b) (t ∷ filter (λ t. not (f t)) ts) (filter (λ t. not (f t)) ts)) [
      | true ↦ unplaced-are_unnamed h f ts
      | false ↦ ap (λ l. t ∷ l) (unplaced-are_unnamed h f ts)
    ]

-- the fault after a prefix, by what is reported of the next decision
fault-first : (objects : List Declared) (h : History) (p : List Decision) (d : Decision) (rest : List Decision) (o : Option OrderFault) → place_fault objects h p d ≡ o →
    fault_after objects h p (d ∷ rest) ≡ (elim o as (λ (_ : Option OrderFault). Option OrderFault) [ Some fault ↦ Some fault | None ↦ fault_after objects h (p ++ d ∷ []) rest ])
fault-first objects h p d rest o is = ap (λ (o : Option OrderFault). elim o as (λ (_ : Option OrderFault). Option OrderFault) [ Some fault ↦ Some fault | None ↦ fault_after objects h (p ++ d ∷ []) rest ]) is

-- what a walk reports is what is reported of the prefix
pub walk-reported : (objects : List Declared) (h : History) (p rest : List Decision) (s : Configuration) → IsWellFormed h → Fits objects h → Stands objects h p s →
    walk_fault (table_of h) s rest ≡ fault_after objects h p rest
walk-reported objects h p [] s fine fits stands =
    ap (λ l. elim (least_tx l) as (λ (_ : Option ℕ). Option OrderFault) [ None ↦ None | Some t ↦ Some (Missing t) ])
    (ap (unplaced (table_of h)) stands.placed ∙ unplaced-are_unnamed h (is_named p) (transactions h))
walk-reported objects h p (d ∷ rest) s fine fits stands =
    elim (stepped (table_of h) s d) as (λ (r : Result Configuration OrderFault). Reported objects h p d r →
    (elim r as (λ (_ : Result Configuration OrderFault). Option OrderFault) [ Err fault ↦ Some fault | Ok t ↦ walk_fault (table_of h) t rest ]) ≡ fault_after objects h p (d ∷ rest)) [
      | Err fault ↦ λ reported. sym (fault-first objects h p d rest (Some fault) reported)
      | Ok t ↦ λ reported. walk-reported objects h (p ++ d ∷ []) rest t fine fits reported.1 ∙ sym (fault-first objects h p d rest None reported.0)
    ] (stepped-reported objects h p s d fine (fits d.tx) stands)

-- what is reported of an order, where the placing began at its root
pub walk-judged : (objects : List Declared) (h : History) (p items : List Decision) (rows : List RowOf) (s : Configuration) (r : Result (Unit {0}) OrderFault) → IsWellFormed h → Fits objects h →
    items ≡ p → rows ≡ table_of h → s ≡ first_configuration (table_of h) objects → MatchResult r (λ _. walk_fault rows s items ≡ None) (λ fault. walk_fault rows s items ≡ Some fault) →
    ReportsOrderFault objects h p r
walk-judged objects h p items rows s r fine fits same table root judged = by_walk r judged
  where
    walk : first_order_fault objects h p ≡ walk_fault rows s items
    walk =
        sym (walk-reported objects h [] p (first_configuration (table_of h) objects) fine fits (Stands-root objects h))
        ∙ (ap (λ t. walk_fault t (first_configuration (table_of h) objects) p) (sym table) ∙ (ap (λ t. walk_fault rows t p) (sym root) ∙ ap (walk_fault rows s) (sym same)))

    by_walk : (r : Result (Unit {0}) OrderFault) → MatchResult r (λ _. walk_fault rows s items ≡ None) (λ fault. walk_fault rows s items ≡ Some fault) → ReportsOrderFault objects h p r
    by_walk (Ok _) none = walk ∙ none
    by_walk (Err fault) some = walk ∙ some

not-shown : (objects : List Declared) (h : History) (p : List Decision) (fault : OrderFault) → first_order_fault objects h p ≡ Some fault →
    (false ≡ true → Shows objects h p) × (Shows objects h p → false ≡ true)
not-shown objects h p fault reported = (
  λ e. absurd (cc),
  λ shown. (let none : first_order_fault objects h p ≡ None = no_fault-from_Shows objects h p shown in absurd (cc)),
)

is-shown : (objects : List Declared) (h : History) (p : List Decision) → first_order_fault objects h p ≡ None →
    (true ≡ true → Shows objects h p) × (Shows objects h p → true ≡ true)
is-shown objects h p none = (λ _. Shows-from_no_fault objects h p none, λ _. refl)

pub judged-shows : (objects : List Declared) (h : History) (p : List Decision) (r : Result (Unit {0}) OrderFault) → ReportsOrderFault objects h p r → IsOk r ↔ Shows objects h p
judged-shows objects h p (Ok _) none = is-shown objects h p none
judged-shows objects h p (Err fault) some = not-shown objects h p fault some

-- a missing transaction, if there is one
abbrev pub missing : Option ℕ → Option OrderFault
missing None = None
missing (Some t) = Some (Missing t)

-- what placing a decision answered
pub step-refused : (old new : PlacingOf) (d : Decision) (r : Result (Unit {0}) OrderFault) (fault : OrderFault) →
    MatchResult r (λ _. Advances old d new (stepped old.agenda.rows old.configuration d)) (λ f. (stepped old.agenda.rows old.configuration d ≡ Err f) × (new ≡ old)) → r ≡ Err fault →
    stepped old.agenda.rows old.configuration d ≡ Err fault
step-refused old new d (Ok _) fault reported is = absurd (cc)
step-refused old new d (Err f) fault reported is = let same : f ≡ fault = cc in reported.0 ∙ ap Err same

pub step-taken : (old new : PlacingOf) (d : Decision) (r : Result (Unit {0}) OrderFault) →
    MatchResult r (λ _. Advances old d new (stepped old.agenda.rows old.configuration d)) (λ f. (stepped old.agenda.rows old.configuration d ≡ Err f) × (new ≡ old)) → r ≡ Ok tt →
    (stepped old.agenda.rows old.configuration d ≡ Ok new.configuration) × (new.agenda ≡ old.agenda)
step-taken old new d (Ok _) reported is = (reported.configuration, reported.agenda)
step-taken old new d (Err f) reported is = absurd (cc)

-- a walk that goes on, stops or ends at the decision of the index
pub walk-on : (old new : PlacingOf) (p : List Decision) (i : ℕ) (d d0 : Decision) (r : Result (Unit {0}) OrderFault) → i < length p → get_or p i d0 ≡ d →
    MatchResult r (λ _. Advances old d new (stepped old.agenda.rows old.configuration d)) (λ f. (stepped old.agenda.rows old.configuration d ≡ Err f) × (new ≡ old)) → r ≡ Ok tt →
    walk_fault old.agenda.rows old.configuration (drop i p) ≡ walk_fault new.agenda.rows new.configuration (drop (i + 1) p)
walk-on old new p i d d0 r inside is reported taken =
    let led = step-taken old new d r reported taken in
    ap (walk_fault old.agenda.rows old.configuration) (drop_more p i d0 inside ∙ ap (λ x. x ∷ drop (i + 1) p) is)
    ∙ (ap (λ (r : Result Configuration OrderFault). elim r as (λ (_ : Result Configuration OrderFault). Option OrderFault) [ Err fault ↦ Some fault | Ok t ↦ walk_fault old.agenda.rows t (drop (i + 1) p) ]) led.0
    ∙ ap (λ (a : AgendaOf). walk_fault a.rows new.configuration (drop (i + 1) p)) (sym led.1))

pub walk-stops : (old new : PlacingOf) (p : List Decision) (i : ℕ) (d d0 : Decision) (r : Result (Unit {0}) OrderFault) (fault : OrderFault) → i < length p → get_or p i d0 ≡ d →
    MatchResult r (λ _. Advances old d new (stepped old.agenda.rows old.configuration d)) (λ f. (stepped old.agenda.rows old.configuration d ≡ Err f) × (new ≡ old)) → r ≡ Err fault →
    walk_fault old.agenda.rows old.configuration (drop i p) ≡ Some fault
walk-stops old new p i d d0 r fault inside is reported refused =
    ap (walk_fault old.agenda.rows old.configuration) (drop_more p i d0 inside ∙ ap (λ x. x ∷ drop (i + 1) p) is)
    ∙ ap (λ (r : Result Configuration OrderFault). elim r as (λ (_ : Result Configuration OrderFault). Option OrderFault) [ Err fault ↦ Some fault | Ok t ↦ walk_fault old.agenda.rows t (drop (i + 1) p) ])
    (step-refused old new d r fault reported refused)

pub walk-ends : (rows : List RowOf) (s : Configuration) (p : List Decision) (i : ℕ) (o : Option ℕ) → length p ≤ i → o ≡ least_tx (unplaced rows s.placed) →
    walk_fault rows s (drop i p) ≡ missing o
walk-ends rows s p i o past is = ap (walk_fault rows s) (drop_all i p past) ∙ (by_least (least_tx (unplaced rows s.placed)) ∙ ap missing (sym is))
  where
    by_least : (o : Option ℕ) → (elim o as (λ (_ : Option ℕ). Option OrderFault) [ None ↦ None | Some t ↦ Some (Missing t) ]) ≡ missing o
    by_least None = refl
    by_least (Some t) = refl
