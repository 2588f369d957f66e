-- Laws of the definitions, each the contract of a function of src/laws.rt.
use Rattle.std.specs.Prelude.{◌≡◌, ◌↔◌, ℕ, true, List, [], None}
use Rattle.std.specs.Ordering.{nat_cmp, ordering_then}
use Rattle.aud_event.specs.Meanings.{Declared}
use Rattle.aud_witness.specs.declared.decision.Fate.{Fate}
use Rattle.aud_witness.specs.declared.decision.Fate.TheVariants.{C, A}
use Rattle.aud_witness.specs.declared.decision.Decision.{Decision}
use Rattle.aud_witness.specs.DecisionOrder.{decision_cmp}
use Rattle.aud_history.specs.Histories.{History}
use Rattle.aud_history.specs.WellFormed.{IsWellFormed}
use Rattle.aud_witness.specs.Orders.{is_named, are_named_once, visible, Shows, Opaque, Refuted, IsFull, IsGood}
use Rattle.aud_witness.specs.Enumeration.{shows, witnesses}
use Rattle.aud_witness.specs.OrderFaults.{first_order_fault}
use Rattle.aud_witness.specs.Selection.{seen}
use Rattle.aud_witness.specs.Letter.{Letter}

-- the place of a fate in the order of fates: C comes first
abbrev pub fate_place : Fate → ℕ
fate_place C = 0
fate_place A = 1

-- decisions are ordered by the transaction's number, and of one transaction C comes before A
abbrev pub DecisionsAreOrdered : Type 0
DecisionsAreOrdered = (d e : Decision) → decision_cmp d e ≡ ordering_then (nat_cmp d.tx e.tx) (nat_cmp (fate_place d.fate) (fate_place e.fate))

-- an order shows a history exactly if it is full and good
abbrev pub ShowsIsFullAndGood : Type 0
ShowsIsFullAndGood = (objects : List Declared) (h : History) (p : List Decision) → Shows objects h p ↔ (IsFull h p × IsGood objects h p)

-- no order that begins with a prefix that is not good shows
abbrev pub BadIsRefuted : Type 0
BadIsRefuted = (objects : List Declared) (h : History) (p : List Decision) → (IsGood objects h p → ⊥) → Refuted objects h p

-- the test and the enumeration decide opacity
abbrev pub TestIsDefinition : Type 0
TestIsDefinition = (objects : List Declared) (h : History) (p : List Decision) → Shows objects h p ↔ (shows objects h p ≡ true)

abbrev pub EnumerationIsWhole : Type 0
EnumerationIsWhole = (objects : List Declared) (h : History) → witnesses objects h ≡ [] → Opaque objects h → ⊥

-- an order has no fault exactly if it shows
abbrev pub NoFaultIsShows : Type 0
NoFaultIsShows = (objects : List Declared) (h : History) (p : List Decision) → Shows objects h p ↔ (first_order_fault objects h p ≡ None)

-- what a transaction sees, by recursion and by selection from the joined blocks
abbrev pub VisibleIsSelection : Type 0
VisibleIsSelection =
    (h : History) (p : List Decision) (t : ℕ) → are_named_once p ≡ true → is_named p t ≡ true → visible h p t ≡ seen h p t

-- opacity by orders is opacity by the letter
abbrev pub OpaqueIsLetter : Type 0
OpaqueIsLetter = (objects : List Declared) (h : History) → IsWellFormed h → Opaque objects h ↔ Letter objects h

-- what is opaque by the letter is well-formed and opaque, and the other way
abbrev pub LetterIsOpaque : Type 0
LetterIsOpaque = (objects : List Declared) (h : History) → Letter objects h ↔ (IsWellFormed h × Opaque objects h)
