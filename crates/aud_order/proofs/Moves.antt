-- What may be moved in a prefix, and what decides what may follow it.
use Rattle.std.specs.Prelude.{◌≡◌, ℕ, Bool, true, nat_eq, List, [], ◌∷◌, ◌++◌, map, length, Some, Ok, refl, ◌⊎◌}
use Rattle.std.proofs.Common.{sym, ◌∙◌, ap, subst, inl, inr, arith, set}
use Rattle.std.proofs.Math.ListN.{length-map}
use Rattle.std.proofs.lemmas.List.Quantifiers.{position-Some}
use Rattle.aud_event.specs.Meanings.{PlanOf}
use Rattle.aud_kinds.specs.Objects.{ObjState, opening_of}
use Rattle.aud_object.specs.Executions.{states_after}
use Rattle.aud_object.specs.Replayed.{replayed}
use Rattle.aud_history.specs.Histories.{History, is_in}
use Rattle.aud_history.specs.WellFormed.{IsWellFormed}
use Rattle.aud_history.specs.FirstFault.{IsWithinLimits}
use Rattle.aud_history.specs.Table.{RowOf, transactions, row_of, table_of}
use Rattle.aud_witness.specs.declared.decision.Fate.TheVariants.{C, A}
use Rattle.aud_witness.specs.declared.decision.Decision.{Decision}
use Rattle.aud_witness.specs.Orders.{is_named, kept, Shows, IsGood, IsGoodNext, Refuted}
use Rattle.aud_witness.specs.Configurations.{Configuration, status_allows, first_configuration, states_with, stepped}
use Rattle.aud_witness.specs.Walks.{walked}
use Rattle.aud_witness.proofs.Beginnings.{IsGood-from_Shows}
use Rattle.aud_witness.proofs.Good.{IsGood-empty, IsGood-beginning, IsGood-push}
use Rattle.aud_witness.proofs.BridgeSteps.{Stands, Stands-root}
use Rattle.aud_witness.proofs.WalkLemmas.{walks-say, walked-good, fits-from_limits, some-from}
use Rattle.aud_order.specs.Silent.{silent_fate, silent_row}
use Rattle.aud_order.specs.Moves.{without, SilentMovesForward, ConfigurationsDecide}
use Rattle.aud_order.proofs.SilentRows.{row-found, silent-row}
use Rattle.aud_order.proofs.Stepping.{steps-from, walked-join, walked-one, silent-leaves, marked, moved}

-- where a good prefix leads
pub led-to : (plan : PlanOf) (h : History) (p : List Decision) → IsWellFormed h → IsWithinLimits plan h → IsGood plan.objects h p →
    (s : Configuration) × ((walked (table_of h) (first_configuration (table_of h) plan.objects) p ≡ Some s) × Stands plan.objects h p s)
led-to plan h p fine within good =
    let says = walks-say plan h fine within in
    let (s, led) = some-from (walked (table_of h) (first_configuration (table_of h) plan.objects) p) ((says.good p).1 good) in
    (s, (led, (walked-good plan.objects h [] p (first_configuration (table_of h) plan.objects) s fine (fits-from_limits plan h within) (Stands-root plan.objects h) (IsGood-empty plan.objects h) led).1))

-- # A silent transaction placed at once

pub silent-moves-forward : SilentMovesForward
silent-moves-forward plan h p q d fine within silent next shown =
    let says = walks-say plan h fine within in
    let good : IsGood plan.objects h p = IsGood-from_Shows plan.objects h p q shown in
    let (u, (led, all)) = (says.shows (p ++ q)).0 shown in
    let (s, (led_p, stands)) = led-to plan h p fine within good in
    let on : walked rows s q ≡ Some u = sym (walked-join rows root s p q led_p) ∙ led in
    let (v, (led_v, _)) = led-to plan h (p ++ d ∷ []) fine within (IsGood-push plan.objects h p d good next) in
    let step : stepped rows s d ≡ Ok v = walked-one rows s v d (sym (walked-join rows root s p (d ∷ []) led_p) ∙ led_v) in
    let st = steps-from rows s v d step in
    let (at, there) = row-found h d.tx st.place st.found in
    let own : st.row ≡ row_of h d.tx = (let a = st.at in cc) in
    let quiet : silent_row (row_of h d.tx) ≡ Some d.fate = silent-row h d.tx fine there ∙ silent in
    let left : states_with d.fate s.states st.after ≡ s.states = silent-leaves st.row d.fate d.fate s.states st.after (ap silent_row own ∙ quiet) st.allowed st.ran in
    let same : v ≡ marked st.place s = st.leads ∙ (λ i. record { placed = set s.placed st.place true; states = left i }) in
    let sized : length s.placed ≡ length (map (λ (r : RowOf). r.tx) rows) = ap length stands.placed ∙ length-map (transactions h) (is_named p) ∙ sym (length-map rows (λ (r : RowOf). r.tx) ∙ length-map (transactions h) (row_of h)) in
    let inside = (position-Some (nat_eq d.tx) (map (λ (r : RowOf). r.tx) rows) st.place 0 st.found).0 in
    let rest : walked rows (marked st.place s) (without d.tx q) ≡ Some u = moved rows d.tx st.place (row_of h d.tx) d.fate st.found at quiet q s u (omega (arith, sized, inside)) st.fresh on all in
    let whole : walked rows root ((p ++ d ∷ []) ++ without d.tx q) ≡ Some u =
    walked-join rows root v (p ++ d ∷ []) (without d.tx q) led_v ∙ ap (λ (x : Configuration). walked rows x (without d.tx q)) same ∙ rest in
    (says.shows ((p ++ d ∷ []) ++ without d.tx q)).1 (u, (whole, all))
  where
    rows : List RowOf
    rows = table_of h

    root : Configuration
    root = first_configuration (table_of h) plan.objects

-- a prefix is refuted where it is once a silent transaction is placed after it
pub refuted-by_silent : (plan : PlanOf) (h : History) (p : List Decision) (d : Decision) → IsWellFormed h → IsWithinLimits plan h →
    silent_fate h d.tx ≡ Some d.fate → IsGoodNext plan.objects h p d → Refuted plan.objects h (p ++ d ∷ []) → Refuted plan.objects h p
refuted-by_silent plan h p d fine within silent next refuted q shown = refuted (without d.tx q) (silent-moves-forward plan h p q d fine within silent next shown)

-- # Lists that lead to one configuration

pub map-named : (f g : ℕ → Bool) (ts : List ℕ) → ((t : ℕ) → f t ≡ g t) → map f ts ≡ map g ts
map-named f g [] same = refl
map-named f g (t ∷ ts) same = λ i. same t i ∷ map-named f g ts same i

-- two good prefixes with the same rows placed and the same states
pub shown-same : (plan : PlanOf) (h : History) (p q rest : List Decision) → IsWellFormed h → IsWithinLimits plan h → IsGood plan.objects h p → IsGood plan.objects h q →
    map (is_named p) (transactions h) ≡ map (is_named q) (transactions h) → states_after (map opening_of plan.objects) (kept h p) ≡ states_after (map opening_of plan.objects) (kept h q) →
    Shows plan.objects h (p ++ rest) → Shows plan.objects h (q ++ rest)
shown-same plan h p q rest fine within good other placed states shown =
    let says = walks-say plan h fine within in
    let (u, (led, all)) = (says.shows (p ++ rest)).0 shown in
    let (s, (led_p, at_p)) = led-to plan h p fine within good in
    let (t, (led_q, at_q)) = led-to plan h q fine within other in
    let bits : s.placed ≡ t.placed = at_p.placed ∙ placed ∙ sym at_q.placed in
    let holds : s.states ≡ t.states = at_p.states ∙ states ∙ sym at_q.states in
    let same : s ≡ t = (λ i. record { placed = bits i; states = holds i }) in
    let on : walked rows s rest ≡ Some u = sym (walked-join rows root s p rest led_p) ∙ led in
    let whole : walked rows root (q ++ rest) ≡ Some u = walked-join rows root t q rest led_q ∙ ap (λ (x : Configuration). walked rows x rest) (sym same) ∙ on in
    (says.shows (q ++ rest)).1 (u, (whole, all))
  where
    rows : List RowOf
    rows = table_of h

    root : Configuration
    root = first_configuration (table_of h) plan.objects

pub configurations-decide : ConfigurationsDecide
configurations-decide plan h p q rest fine within good other named states shown =
    shown-same plan h p q rest fine within good other (map-named (is_named p) (is_named q) (transactions h) named) states shown

-- # What one decision does to the states

-- a decision to commit runs the block of its transaction, one to abort leaves the states
pub step-states : (plan : PlanOf) (h : History) (p : List Decision) (d : Decision) → IsWellFormed h → IsWithinLimits plan h → IsGood plan.objects h (p ++ d ∷ []) →
    (d.fate ≡ C → replayed (states_after (map opening_of plan.objects) (kept h p)) (row_of h d.tx).block ≡ Some (states_after (map opening_of plan.objects) (kept h (p ++ d ∷ []))))
    × ((d.fate ≡ A) ⊎ (silent_fate h d.tx ≡ Some d.fate) → states_after (map opening_of plan.objects) (kept h (p ++ d ∷ [])) ≡ states_after (map opening_of plan.objects) (kept h p))
step-states plan h p d fine within good =
    let (s, (led_p, at_p)) = led-to plan h p fine within (IsGood-beginning plan.objects h p (d ∷ []) good) in
    let (v, (led_v, at_v)) = led-to plan h (p ++ d ∷ []) fine within good in
    let step : stepped rows s d ≡ Ok v = walked-one rows s v d (sym (walked-join rows root s p (d ∷ []) led_p) ∙ led_v) in
    let st = steps-from rows s v d step in
    let (at, there) = row-found h d.tx st.place st.found in
    let own : st.row ≡ row_of h d.tx = (let a = st.at in cc) in
    let leads : v.states ≡ states_with d.fate s.states st.after = ap (λ (x : Configuration). x.states) st.leads in
    let ran : replayed s.states (row_of h d.tx).block ≡ Some st.after = ap (λ (r : RowOf). replayed s.states r.block) (sym own) ∙ st.ran in (
      (λ commits.
          let now : v.states ≡ st.after = leads ∙ ap (λ f. states_with f s.states st.after) commits in
          ap (λ ss. replayed ss (row_of h d.tx).block) (sym at_p.states) ∙ ran ∙ ap (λ ss. Some ss) (sym now ∙ at_v.states)),
      (λ leaves. sym at_v.states ∙ leads ∙ left s.states st.after (subst (λ (r : RowOf). status_allows r.status d.fate ≡ true) own st.allowed) there ran leaves ∙ at_p.states),
    )
  where
    rows : List RowOf
    rows = table_of h

    root : Configuration
    root = first_configuration (table_of h) plan.objects

    left : (before after : List ObjState) → status_allows (row_of h d.tx).status d.fate ≡ true → is_in h d.tx ≡ true → replayed before (row_of h d.tx).block ≡ Some after →
        (d.fate ≡ A) ⊎ (silent_fate h d.tx ≡ Some d.fate) → states_with d.fate before after ≡ before
    left before after allowed there ran (inl aborts) = ap (λ f. states_with f before after) aborts
    left before after allowed there ran (inr silent) = silent-leaves (row_of h d.tx) d.fate d.fate before after (silent-row h d.tx fine there ∙ silent) allowed ran
