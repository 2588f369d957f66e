-- What is reported of an order that does not show a history, and the kids of a prefix.
use Rattle.std.specs.Prelude.{ℕ, Bool, not, ◌&&◌, ◌||◌, if◌then◌else◌, nat_lt, List, [], ◌∷◌, ◌++◌, Option, Some, None, Result, MatchResult, ◌≡◌, filter}
use Rattle.std.specs.List.{list_all, flat_map}
use Rattle.aud_event.specs.Meanings.{Declared}
use Rattle.aud_witness.specs.declared.decision.Fate.TheVariants.{C, A}
use Rattle.aud_witness.specs.declared.decision.Decision.{Decision}
use Rattle.aud_witness.specs.declared.fault.OrderFault.{OrderFault}
use Rattle.aud_witness.specs.declared.fault.OrderFault.TheVariants.{UnknownTx, Twice, FateNotAllowed, RealTime, Illegal, Missing}
use Rattle.aud_history.specs.Histories.{History, is_in, is_before}
use Rattle.aud_witness.specs.Orders.{is_allowed, is_named, kept, block}
use Rattle.aud_witness.specs.Enumeration.{is_legal_from}
use Rattle.aud_history.specs.Table.{transactions}

-- every transaction before U in H is named
abbrev pub is_enabled : History → List Decision → ℕ → Bool
is_enabled h p u = list_all (λ e. not (is_before h e.0 u) || is_named p e.0) h

-- what is wrong with d after p, by the least number
abbrev pub place_fault : List Declared → History → List Decision → Decision → Option OrderFault
place_fault objects h p d =
    if not (is_in h d.tx) then Some (UnknownTx d.tx)
    else (if is_named p d.tx then Some (Twice d.tx)
    else (if not (is_allowed h d.tx d.fate) then Some (FateNotAllowed d.tx)
    else (if not (is_enabled h p d.tx) then Some (RealTime d.tx)
    else (if not (is_legal_from 0 objects (kept h p ++ block h d)) then Some (Illegal d.tx)
    else None))))

-- the least of some transactions
abbrev pub least_tx : List ℕ → Option ℕ
least_tx [] = None
least_tx (t ∷ ts) = elim (least_tx ts) [ None ↦ Some t | Some u ↦ if nat_lt t u then Some t else Some u ]

-- the least transaction of H that p does not name
abbrev pub missing_fault : History → List Decision → Option OrderFault
missing_fault h p = elim (least_tx (filter (λ t. not (is_named p t)) (transactions h))) [ None ↦ None | Some t ↦ Some (Missing t) ]

-- the fault at the first wrong place of `rest` after `before`
abbrev pub fault_after : List Declared → History → List Decision → List Decision → Option OrderFault
fault_after objects h before [] = missing_fault h before
fault_after objects h before (d ∷ rest) =
    elim (place_fault objects h before d) [ Some fault ↦ Some fault | None ↦ fault_after objects h (before ++ d ∷ []) rest ]

abbrev pub first_order_fault : List Declared → History → List Decision → Option OrderFault
first_order_fault objects h p = fault_after objects h [] p

-- that there is no fault is reported, or the first one
abbrev pub ReportsOrderFault : {T : Type 0} → List Declared → History → List Decision → Result T OrderFault → Type 0
ReportsOrderFault objects h p r = MatchResult r (λ none. first_order_fault objects h p ≡ None) (λ fault. first_order_fault objects h p ≡ Some fault)

abbrev pub is_good_next : List Declared → History → List Decision → Decision → Bool
is_good_next objects h p d =
    is_in h d.tx && not (is_named p d.tx) && is_allowed h d.tx d.fate && is_enabled h p d.tx
    && is_legal_from 0 objects (kept h p ++ block h d)

-- the kids' last decisions
abbrev pub kids : List Declared → History → List Decision → List Decision
kids objects h p =
    filter (is_good_next objects h p) (flat_map (λ t. record { tx = t; fate = C } ∷ record { tx = t; fate = A } ∷ []) (transactions h))
