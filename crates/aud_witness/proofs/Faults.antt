-- An order has no fault exactly if it shows.
use Rattle.std.proofs.Common.{◌≡◌, ℕ, Bool, true, false, cond, not, ◌||◌, nat_eq, nat_lt, inl, inr, List, [], ◌∷◌, ◌++◌, Option, Some, None, refl, sym, ◌∙◌, ap, subst, append_assoc}
use Rattle.std.specs.List.{list_all, filter}
use Rattle.aud_event.specs.Meanings.{Declared}
use Rattle.aud_witness.specs.declared.decision.Decision.{Decision}
use Rattle.aud_witness.specs.declared.fault.OrderFault.{OrderFault}
use Rattle.aud_witness.specs.declared.fault.OrderFault.TheVariants.{UnknownTx, Twice, FateNotAllowed, RealTime, Illegal, Missing}
use Rattle.aud_history.specs.Histories.{History, is_in, is_before}
use Rattle.aud_witness.specs.Orders.{is_allowed, block, kept, is_named, are_named_once, IsFull, Shows, IsGoodNext, IsGood}
use Rattle.aud_witness.specs.Enumeration.{is_legal_from}
use Rattle.aud_history.specs.Table.{transactions}
use Rattle.aud_witness.specs.OrderFaults.{is_enabled, place_fault, least_tx, missing_fault, fault_after, first_order_fault}
use Rattle.base_values.proofs.Bools.{same_bools, or_true, or_false, true_and, true_or, or_right, not_false, is_false, nat_eq-refl, nat_eq-is, unnegated}
use Rattle.aud_witness.proofs.Beginnings.{IsGood-from_Shows}
use Rattle.aud_witness.proofs.Good.{IsGood-empty, IsGood-push, place_of, Shows-from_IsGood}
use Rattle.aud_witness.proofs.Tested.{before_in, implied, implies, all_of, each_in, each_named, IsLegal-from_test, test-from_IsLegal}
use Rattle.aud_witness.proofs.Enumerated.{has, has-transactions}
use Rattle.std.proofs.lemmas.List.{append-nil}

none_if : (b : Bool) (fault : OrderFault) (r : Option OrderFault) → cond b (Some fault) r ≡ None → (b ≡ false) × (r ≡ None)
none_if true fault r h = absurd (cc)
none_if false fault r h = (refl, h)

if_none : (b : Bool) (fault : OrderFault) (r : Option OrderFault) → b ≡ false → r ≡ None → cond b (Some fault) r ≡ None
if_none true fault r h k = absurd (cc)
if_none false fault r h k = k

not_of : (b : Bool) → b ≡ true → not b ≡ false
not_of true h = refl
not_of false h = sym h

enabled-from_test : (h : History) (p : List Decision) (u : ℕ) → is_enabled h p u ≡ true → (t : ℕ) → is_before h t u ≡ true → is_named p t ≡ true
enabled-from_test h p u all t before =
    implied (is_before h t u) (is_named p t) (each_in (λ n. not (is_before h n u) || is_named p n) h all t (before_in h t u before).0) before

test-from_enabled : (h : History) (p : List Decision) (u : ℕ) → ((t : ℕ) → is_before h t u ≡ true → is_named p t ≡ true) → is_enabled h p u ≡ true
test-from_enabled h p u each = all_of (λ e. not (is_before h e.0 u) || is_named p e.0) h (λ e. implies (is_before h e.0 u) (is_named p e.0) (each e.0))

pub IsGoodNext-from_no_fault : (objects : List Declared) (h : History) (p : List Decision) (d : Decision) → place_fault objects h p d ≡ None → IsGoodNext objects h p d
IsGoodNext-from_no_fault objects h p d e =
    let legal : Bool = is_legal_from 0 objects (kept h p ++ block h d) in
    let r5 : Option OrderFault = cond (not legal) (Some (Illegal d.tx)) None in
    let r4 : Option OrderFault = cond (not (is_enabled h p d.tx)) (Some (RealTime d.tx)) r5 in
    let r3 : Option OrderFault = cond (not (is_allowed h d.tx d.fate)) (Some (FateNotAllowed d.tx)) r4 in
    let r2 : Option OrderFault = cond (is_named p d.tx) (Some (Twice d.tx)) r3 in
    let k1 : (not (is_in h d.tx) ≡ false) × (r2 ≡ None) = none_if (not (is_in h d.tx)) (UnknownTx d.tx) r2 e in
    let k2 : (is_named p d.tx ≡ false) × (r3 ≡ None) = none_if (is_named p d.tx) (Twice d.tx) r3 k1.1 in
    let k3 : (not (is_allowed h d.tx d.fate) ≡ false) × (r4 ≡ None) = none_if (not (is_allowed h d.tx d.fate)) (FateNotAllowed d.tx) r4 k2.1 in
    let k4 : (not (is_enabled h p d.tx) ≡ false) × (r5 ≡ None) = none_if (not (is_enabled h p d.tx)) (RealTime d.tx) r5 k3.1 in
    let k5 : (not legal ≡ false) × (◌≡◌ {A = Option OrderFault} None None) = none_if (not legal) (Illegal d.tx) None k4.1 in
    record {
      in_history = unnegated (is_in h d.tx) k1.0;
      new = k2.0;
      allowed = unnegated (is_allowed h d.tx d.fate) k3.0;
      enabled = enabled-from_test h p d.tx (unnegated (is_enabled h p d.tx) k4.0);
      legal = IsLegal-from_test objects (kept h p ++ block h d) (unnegated legal k5.0);
    }

pub no_fault-from_IsGoodNext : (objects : List Declared) (h : History) (p : List Decision) (d : Decision) → IsGoodNext objects h p d → place_fault objects h p d ≡ None
no_fault-from_IsGoodNext objects h p d g =
    let legal : Bool = is_legal_from 0 objects (kept h p ++ block h d) in
    let r5 : Option OrderFault = cond (not legal) (Some (Illegal d.tx)) None in
    let r4 : Option OrderFault = cond (not (is_enabled h p d.tx)) (Some (RealTime d.tx)) r5 in
    let r3 : Option OrderFault = cond (not (is_allowed h d.tx d.fate)) (Some (FateNotAllowed d.tx)) r4 in
    let r2 : Option OrderFault = cond (is_named p d.tx) (Some (Twice d.tx)) r3 in
    if_none (not (is_in h d.tx)) (UnknownTx d.tx) r2 (not_of (is_in h d.tx) g.in_history)
    (if_none (is_named p d.tx) (Twice d.tx) r3 g.new
    (if_none (not (is_allowed h d.tx d.fate)) (FateNotAllowed d.tx) r4 (not_of (is_allowed h d.tx d.fate) g.allowed)
    (if_none (not (is_enabled h p d.tx)) (RealTime d.tx) r5 (not_of (is_enabled h p d.tx) (test-from_enabled h p d.tx g.enabled))
    (if_none (not legal) (Illegal d.tx) None (not_of legal (test-from_IsLegal objects (kept h p ++ block h d) g.legal)) refl))))

-- a fact at each place holds of each decision
all_places : (f : Decision → Bool) (p : List Decision) → ((before : List Decision) (d : Decision) (rest : List Decision) → p ≡ before ++ d ∷ rest → f d ≡ true) → list_all f p ≡ true
all_places f [] each = refl
all_places f (x ∷ p) each = true_and (f x) (list_all f p) (each [] x p refl) (all_places f p (λ before d rest e. each (x ∷ before) d rest (ap (λ l. x ∷ l) e)))

once_at_places : (p : List Decision) → ((before : List Decision) (d : Decision) (rest : List Decision) → p ≡ before ++ d ∷ rest → is_named before d.tx ≡ false) → are_named_once p ≡ true
once_at_places [] each = refl
once_at_places (x ∷ p) each =
    let alone : is_named p x.tx ≡ false = is_false (is_named p x.tx) (λ again.
    let (a, (d, (b, (e, same, new)))) = place_of p x.tx again in
    let not_so : is_named (x ∷ a) d.tx ≡ false = each (x ∷ a) d b (ap (λ l. x ∷ l) e) in
    let yes : is_named (x ∷ a) d.tx ≡ true = true_or (nat_eq x.tx d.tx) (is_named a d.tx) (subst (λ n. nat_eq n d.tx ≡ true) same (nat_eq-refl d.tx)) in
    cc) in
    true_and (not (is_named p x.tx)) (are_named_once p) (not_false (is_named p x.tx) alone)
    (once_at_places p (λ before d rest e. (or_false (nat_eq x.tx d.tx) (is_named before d.tx) (each (x ∷ before) d rest (ap (λ l. x ∷ l) e))).1))

none_least : (ts : List ℕ) → least_tx ts ≡ None → ts ≡ []
none_least [] h = refl
none_least (t ∷ ts) h =
    elim (least_tx ts) as (λ r. (elim r as (λ (_ : Option ℕ). Option ℕ) [ None ↦ Some t | Some u ↦ cond (nat_lt t u) (Some t) (Some u) ]) ≡ None → t ∷ ts ≡ []) [
      | None ↦ λ k. absurd (cc)
      | Some u ↦ λ k. elim (nat_lt t u) as (λ b. cond b (Some t) (Some u) ≡ None → t ∷ ts ≡ []) [ true ↦ λ l. absurd (cc) | false ↦ λ l. absurd (cc) ] k
    ] h

none_left : (f : ℕ → Bool) (ts : List ℕ) → filter (λ t. not (f t)) ts ≡ [] → (t : ℕ) → has ts t ≡ true → f t ≡ true
none_left f [] h t there = absurd (cc)
none_left f (x ∷ ts) h t there =
    elim (f x) as (λ k. f x ≡ k → cond (not k) (x ∷ filter (λ n. not (f n)) ts) (filter (λ n. not (f n)) ts) ≡ [] → f t ≡ true) [
      | true ↦ λ fx rest. elim (or_true (nat_eq x t) (has ts t) there) [
        | inl same ↦ subst (λ n. f n ≡ true) (nat_eq-is x t same) fx
        | inr later ↦ none_left f ts rest t later
      ]
      | false ↦ λ fx rest. absurd (cc)
    ] refl h

filter_none : (f : ℕ → Bool) (ts : List ℕ) → ((t : ℕ) → has ts t ≡ true → f t ≡ true) → filter (λ t. not (f t)) ts ≡ []
filter_none f [] all = refl
filter_none f (x ∷ ts) all =
    let first : f x ≡ true = all x (true_or (nat_eq x x) (has ts x) (nat_eq-refl x)) in
    let rest : filter (λ t. not (f t)) ts ≡ [] = filter_none f ts (λ t n. all t (or_right (nat_eq x t) (has ts t) n)) in
    subst (λ k. cond (not k) (x ∷ filter (λ t. not (f t)) ts) (filter (λ t. not (f t)) ts) ≡ []) (sym first) rest

-- a good prefix that names all is full
pub IsFull-from_IsGood : (objects : List Declared) (h : History) (p : List Decision) → IsGood objects h p → ((t : ℕ) → is_in h t ≡ true → is_named p t ≡ true) → IsFull h p
IsFull-from_IsGood objects h p good all = record {
  once = once_at_places p (λ before d rest e. (good before d rest e).new);
  same = λ t. same_bools (is_named p t) (is_in h t)
      (λ n. each_named (is_in h) p (all_places (λ d. is_in h d.tx) p (λ before d rest e. (good before d rest e).in_history)) t n)
      (all t);
  allowed = all_places (λ d. is_allowed h d.tx d.fate) p (λ before d rest e. (good before d rest e).allowed);
}

all_named : (h : History) (p : List Decision) → missing_fault h p ≡ None → (t : ℕ) → is_in h t ≡ true → is_named p t ≡ true
all_named h p e t there =
    let left : List ℕ = filter (λ n. not (is_named p n)) (transactions h) in
    let none : least_tx left ≡ None =
    elim (least_tx left) as (λ r. (elim r as (λ (_ : Option ℕ). Option OrderFault) [ None ↦ None | Some n ↦ Some (Missing n) ]) ≡ None → r ≡ None) [
      | None ↦ λ _. refl
      | Some n ↦ λ k. absurd (cc)
    ] e in
    none_left (is_named p) (transactions h) (none_least left none) t (has-transactions h t ∙ there)

missing-from_all : (h : History) (p : List Decision) → ((t : ℕ) → is_in h t ≡ true → is_named p t ≡ true) → missing_fault h p ≡ None
missing-from_all h p all =
    let none : filter (λ n. not (is_named p n)) (transactions h) ≡ [] = filter_none (is_named p) (transactions h) (λ t n. all t (sym (has-transactions h t) ∙ n)) in
    subst (λ l. (elim (least_tx l) as (λ (_ : Option ℕ). Option OrderFault) [ None ↦ None | Some n ↦ Some (Missing n) ]) ≡ None) (sym none) refl

good_after : (objects : List Declared) (h : History) (before rest : List Decision) → IsGood objects h before → fault_after objects h before rest ≡ None →
    IsGood objects h (before ++ rest) × (missing_fault h (before ++ rest) ≡ None)
good_after objects h before [] good e = rw (append-nil before) (good, e)
good_after objects h before (d ∷ rest) good e =
    elim (place_fault objects h before d) as (λ r. place_fault objects h before d ≡ r → (elim r as (λ (_ : Option OrderFault). Option OrderFault) [ Some fault ↦ Some fault | None ↦ fault_after objects h (before ++ d ∷ []) rest ]) ≡ None → IsGood objects h (before ++ d ∷ rest) × (missing_fault h (before ++ d ∷ rest) ≡ None)) [
      | Some fault ↦ λ _ k. absurd (cc)
      | None ↦ λ fine k.
          let next : IsGoodNext objects h before d = IsGoodNext-from_no_fault objects h before d fine in
          subst (λ l. IsGood objects h l × (missing_fault h l ≡ None)) (append_assoc before (d ∷ []) rest)
          (good_after objects h (before ++ d ∷ []) rest (IsGood-push objects h before d good next) k)
    ] refl e

pub Shows-from_no_fault : (objects : List Declared) (h : History) (p : List Decision) → first_order_fault objects h p ≡ None → Shows objects h p
Shows-from_no_fault objects h p e =
    let both : IsGood objects h p × (missing_fault h p ≡ None) = good_after objects h [] p (IsGood-empty objects h) e in
    Shows-from_IsGood objects h p (IsFull-from_IsGood objects h p both.0 (all_named h p both.1)) both.0

no_fault_after : (objects : List Declared) (h : History) (before rest : List Decision) → Shows objects h (before ++ rest) → fault_after objects h before rest ≡ None
no_fault_after objects h before [] s =
    missing-from_all h before (λ t there. subst (λ l. is_named l t ≡ true) (append-nil before) (s.full.same t ∙ there))
no_fault_after objects h before (d ∷ rest) s =
    let shown : Shows objects h ((before ++ d ∷ []) ++ rest) = subst (λ l. Shows objects h l) (sym (append_assoc before (d ∷ []) rest)) s in
    let next : IsGoodNext objects h before d = IsGood-from_Shows objects h (before ++ d ∷ []) rest shown before d [] refl in
    let fine : place_fault objects h before d ≡ None = no_fault-from_IsGoodNext objects h before d next in
    subst (λ r. (elim r as (λ (_ : Option OrderFault). Option OrderFault) [ Some fault ↦ Some fault | None ↦ fault_after objects h (before ++ d ∷ []) rest ]) ≡ None) (sym fine)
    (no_fault_after objects h (before ++ d ∷ []) rest shown)

pub no_fault-from_Shows : (objects : List Declared) (h : History) (p : List Decision) → Shows objects h p → first_order_fault objects h p ≡ None
no_fault-from_Shows objects h p s = no_fault_after objects h [] p s
