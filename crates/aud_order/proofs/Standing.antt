-- Where a cursor stands, by the definition.
use Rattle.std.specs.Prelude.{◌≡◌, ◌↔◌, ℕ, zero, suc, ◌<◌, Bool, true, false, nat_eq, List, [], ◌∷◌, map, length, Some, None, Ok, Err, slice_get, slice_index_or, refl}
use Rattle.std.specs.List.{position}
use Rattle.std.proofs.Common.{sym, ◌∙◌, ap, subst, get_or}
use Rattle.std.proofs.Math.ListN.{length-map}
use Rattle.std.proofs.lemmas.List.Quantifiers.{position-Some}
use Rattle.aud_event.specs.Meanings.{Declared, PlanOf}
use Rattle.base_values.proofs.Bools.{is_false, nat_eq-is}
use Rattle.aud_history.specs.Histories.{History, is_in}
use Rattle.aud_history.specs.WellFormed.{IsWellFormed}
use Rattle.aud_history.specs.FirstFault.{IsWithinLimits}
use Rattle.aud_history.specs.Table.{RowOf, transactions, first_stamp, row_of, table_of}
use Rattle.aud_history.proofs.Tables.{any-transactions}
use Rattle.aud_history.proofs.Numbers.{tx-rows}
use Rattle.aud_witness.specs.declared.decision.Decision.{Decision}
use Rattle.aud_witness.specs.declared.fault.OrderFault.{OrderFault}
use Rattle.aud_witness.specs.declared.fault.OrderFault.TheVariants.{UnknownTx, Twice, FateNotAllowed, RealTime, Illegal, Missing}
use Rattle.aud_witness.specs.Orders.{is_named, IsGood, IsGoodNext}
use Rattle.aud_witness.specs.OrderFaults.{is_enabled, place_fault}
use Rattle.aud_witness.specs.Configurations.{Configuration, first_configuration, stepped, are_earlier_placed}
use Rattle.aud_witness.specs.Placings.{PlacingOf, Advances}
use Rattle.aud_witness.proofs.Good.{IsGood-empty, IsGood-push, place_of}
use Rattle.aud_witness.proofs.Faults.{IsGoodNext-from_no_fault, no_fault-from_IsGoodNext}
use Rattle.aud_witness.proofs.Bridge.{row-at, named-at, enabled-by_rows}
use Rattle.aud_witness.proofs.BridgeSteps.{Stands, Stands-root, Reported, stepped-reported, fit-from_plan, absent-from_position}
use Rattle.aud_order.specs.Shapes.{ShapeOf, plan_of, objects_of, history_of}
use Rattle.aud_order.specs.declared.pushed.Pushed.{Pushed}
use Rattle.aud_order.specs.declared.pushed.Pushed.TheVariants as reported
use Rattle.aud_order.specs.Cursors.{Leads, IsAt, pushed_by_fault}
use Rattle.aud_order.proofs.KidLemmas.{in-transactions}

-- what is reported of one more decision
pub reported-next : (plan : PlanOf) (h : History) (p : List Decision) (s : Configuration) (d : Decision) → IsWellFormed h → IsWithinLimits plan h → Stands plan.objects h p s →
    Reported plan.objects h p d (stepped (table_of h) s d)
reported-next plan h p s d fine fits stands = stepped-reported plan.objects h p s d fine (fit-from_plan plan d.tx h fits.1) stands

-- the decisions that lead somewhere are good, and they lead where the definition says
pub standing : (plan : PlanOf) (h : History) (path : List Decision) (s : Configuration) (past : List Configuration) → IsWellFormed h → IsWithinLimits plan h →
    Leads (table_of h) (first_configuration (table_of h) plan.objects) path s past → IsGood plan.objects h path × Stands plan.objects h path s
standing plan h path s [] fine fits leads =
    let at_root : Stands plan.objects h [] s = subst (λ (x : Configuration). Stands plan.objects h [] x) (sym leads.1) (Stands-root plan.objects h) in (
      subst (λ l. IsGood plan.objects h l) (sym leads.0) (IsGood-empty plan.objects h),
      subst (λ l. Stands plan.objects h l s) (sym leads.0) at_root,
    )
standing plan h path s (t ∷ past) fine fits (p, (d, (is, step, leads))) =
    let before = standing plan h p t past fine fits leads in
    let reported : Reported plan.objects h p d (Ok s) = subst (λ r. Reported plan.objects h p d r) step (reported-next plan h p t d fine fits before.1) in (
      subst (λ l. IsGood plan.objects h l) (sym is) (IsGood-push plan.objects h p d before.0 (IsGoodNext-from_no_fault plan.objects h p d reported.0)),
      subst (λ l. Stands plan.objects h l s) (sym is) reported.1,
    )

pub good-at : (shape : ShapeOf) (p : PlacingOf) (k : ℕ) → IsAt shape p k → IsGood (objects_of shape) (history_of shape) p.path
good-at shape p k at = (standing (plan_of shape) (history_of shape) p.path p.configuration p.past at.fine at.fits at.leads).0

pub stands-at : (shape : ShapeOf) (p : PlacingOf) (k : ℕ) → IsAt shape p k → Stands (objects_of shape) (history_of shape) p.path p.configuration
stands-at shape p k at = (standing (plan_of shape) (history_of shape) p.path p.configuration p.past at.fine at.fits at.leads).1

pub reported-at : (shape : ShapeOf) (p : PlacingOf) (k : ℕ) (d : Decision) → IsAt shape p k →
    Reported (objects_of shape) (history_of shape) p.path d (stepped (table_of (history_of shape)) p.configuration d)
reported-at shape p k d at = reported-next (plan_of shape) (history_of shape) p.path p.configuration d at.fine at.fits (stands-at shape p k at)

-- # One decision

pub fault-ok : (shape : ShapeOf) (p new : PlacingOf) (k : ℕ) (d : Decision) → IsAt shape p k → Advances p d new (stepped p.agenda.rows p.configuration d) →
    place_fault (objects_of shape) (history_of shape) p.path d ≡ None
fault-ok shape p new k d at advances =
    let led : stepped (table_of (history_of shape)) p.configuration d ≡ Ok new.configuration = subst (λ rows. stepped rows p.configuration d ≡ Ok new.configuration) at.rows advances.configuration in
    let reported : Reported (objects_of shape) (history_of shape) p.path d (Ok new.configuration) = subst (λ r. Reported (objects_of shape) (history_of shape) p.path d r) led (reported-at shape p k d at) in
    reported.0

pub fault-err : (shape : ShapeOf) (p : PlacingOf) (k : ℕ) (d : Decision) (fault : OrderFault) → IsAt shape p k → stepped p.agenda.rows p.configuration d ≡ Err fault →
    place_fault (objects_of shape) (history_of shape) p.path d ≡ Some fault
fault-err shape p k d fault at is =
    let led : stepped (table_of (history_of shape)) p.configuration d ≡ Err fault = subst (λ rows. stepped rows p.configuration d ≡ Err fault) at.rows is in
    subst (λ r. Reported (objects_of shape) (history_of shape) p.path d r) led (reported-at shape p k d at)

-- # What is placed

keys : (h : History) → map (λ (r : RowOf). r.tx) (table_of h) ≡ transactions h
keys h = tx-rows h (transactions h)

pub has-row : (shape : ShapeOf) (p : PlacingOf) (k i t : ℕ) → IsAt shape p k → position (nat_eq t) (map (λ (r : RowOf). r.tx) (table_of (history_of shape))) ≡ Some i →
    slice_index_or p.configuration.placed i false ≡ is_named p.path t
has-row shape p k i t at found =
    let h = history_of shape in
    let place = position-Some (nat_eq t) (transactions h) i 0 (ap (position (nat_eq t)) (sym (keys h)) ∙ found) in
    let is : get_or (transactions h) i 0 ≡ t = sym (nat_eq-is t (get_or (transactions h) i 0) place.1) in
    ap (λ l. get_or l i false) (stands-at shape p k at).placed ∙ named-at (is_named p.path) (transactions h) i 0 place.0 ∙ ap (is_named p.path) is

pub has-none : (shape : ShapeOf) (p : PlacingOf) (k t : ℕ) → IsAt shape p k → position (nat_eq t) (map (λ (r : RowOf). r.tx) (table_of (history_of shape))) ≡ None → is_named p.path t ≡ false
has-none shape p k t at none =
    let h = history_of shape in
    let absent : is_in h t ≡ false = sym (any-transactions h t) ∙ absent-from_position (nat_eq t) (transactions h) (ap (position (nat_eq t)) (sym (keys h)) ∙ none) in
    is_false (is_named p.path t) (λ named.
    let (a, (d, (b, (is, same, _)))) = place_of p.path t named in
    let there : is_in h t ≡ true = subst (λ n. is_in h n ≡ true) same (good-at shape p k at a d b is).in_history in
    cc)

-- the row at a place
pub row-there : (h : History) (k : ℕ) → k < length (table_of h) → slice_get (table_of h) k ≡ Some (row_of h (get_or (transactions h) k 0))
row-there h k inside = row-at h (transactions h) k 0 (subst (λ n. k < n) (length-map (transactions h) (row_of h)) inside)

pub placed-there : (shape : ShapeOf) (p : PlacingOf) (k i : ℕ) → IsAt shape p k → i < length (table_of (history_of shape)) →
    slice_index_or p.configuration.placed i false ≡ is_named p.path (get_or (transactions (history_of shape)) i 0)
placed-there shape p k i at inside =
    let h = history_of shape in
    ap (λ l. get_or l i false) (stands-at shape p k at).placed ∙ named-at (is_named p.path) (transactions h) i 0 (subst (λ n. i < n) (length-map (transactions h) (row_of h)) inside)

pub enabled-there : (shape : ShapeOf) (p : PlacingOf) (k i : ℕ) → IsAt shape p k → i < length (table_of (history_of shape)) →
    are_earlier_placed p.agenda.rows p.configuration.placed (first_stamp (history_of shape) (get_or (transactions (history_of shape)) i 0)) ≡ is_enabled (history_of shape) p.path (get_or (transactions (history_of shape)) i 0)
enabled-there shape p k i at inside =
    let h = history_of shape in
    let t = get_or (transactions h) i 0 in
    ap (λ rows. are_earlier_placed rows p.configuration.placed (first_stamp h t)) at.rows
    ∙ ap (λ l. are_earlier_placed (table_of h) l (first_stamp h t)) (stands-at shape p k at).placed
    ∙ enabled-by_rows h p.path t (in-transactions h i 0 (subst (λ n. i < n) (length-map (transactions h) (row_of h)) inside))

pub got : (rows : List RowOf) (i : ℕ) (d x : RowOf) → slice_get rows i ≡ Some x → get_or rows i d ≡ x
got [] i d x at = absurd (cc)
got (y ∷ rows) zero d x at = cc
got (y ∷ rows) (suc i) d x at = got rows i d x at

pub enabled-by : (shape : ShapeOf) (p : PlacingOf) (k i first : ℕ) (b : Bool) (r : RowOf) → IsAt shape p k → i < length (table_of (history_of shape)) →
    r ≡ slice_index_or (table_of (history_of shape)) i r → first ≡ r.first → b ≡ are_earlier_placed p.agenda.rows p.configuration.placed first → b ≡ is_enabled (history_of shape) p.path (get_or (transactions (history_of shape)) i 0)
enabled-by shape p k i first b r at inside is begins test =
    let h = history_of shape in
    let row : r ≡ row_of h (get_or (transactions h) i 0) = is ∙ got (table_of h) i r (row_of h (get_or (transactions h) i 0)) (row-there h i inside) in
    test ∙ ap (are_earlier_placed p.agenda.rows p.configuration.placed) (begins ∙ ap (λ (x : RowOf). x.first) row) ∙ enabled-there shape p k i at inside

-- # What is reported

pub good-reported : (objects : List Declared) (h : History) (p : List Decision) (d : Decision) → place_fault objects h p d ≡ None → (reported.Good ≡ reported.Good) ↔ IsGoodNext objects h p d
good-reported objects h p d none = ((λ _. IsGoodNext-from_no_fault objects h p d none), (λ _. refl))

reported-bad : (fault : OrderFault) → pushed_by_fault fault ≡ reported.Good → ⊥
reported-bad (UnknownTx _) is = cc
reported-bad (Twice _) is = cc
reported-bad (FateNotAllowed _) is = cc
reported-bad (RealTime _) is = cc
reported-bad (Illegal _) is = cc
reported-bad (Missing _) is = cc

pub bad-reported : (objects : List Declared) (h : History) (p : List Decision) (d : Decision) (fault : OrderFault) (pushed : Pushed) → pushed ≡ pushed_by_fault fault → place_fault objects h p d ≡ Some fault →
    (pushed ≡ reported.Good) ↔ IsGoodNext objects h p d
bad-reported objects h p d fault pushed is some = (
  (λ good. absurd (reported-bad fault (sym is ∙ good))),
  (λ next. let none : place_fault objects h p d ≡ None = no_fault-from_IsGoodNext objects h p d next in absurd (cc)),
)
