-- What a search says of a history.
use Rattle.std.specs.Prelude.{◌≡◌, ℕ, List, [], ◌∷◌, ◌++◌, length, Option, Some, None, ◌⊎◌}
use Rattle.std.specs.List.{Contains}
use Rattle.aud_event.specs.Meanings.{Declared}
use Rattle.aud_history.specs.Histories.{History}
use Rattle.aud_witness.specs.declared.decision.Decision.{Decision}
use Rattle.aud_witness.specs.Prefixes.{BeginsWith}
use Rattle.aud_witness.specs.Orders.{IsFull, IsGood, Shows, Refuted}
use Rattle.aud_witness.specs.Orders as orders
use Rattle.search_prefix.specs.declared.outcome.Outcome.{Outcome}
use Rattle.search_prefix.specs.declared.outcome.Outcome.TheVariants as outcome
use Rattle.search_prefix.specs.declared.outcome.Searched.{Searched}
use Rattle.search_prefix.specs.declared.outcome.Searched.TheVariants as searched
use Rattle.search_prefix.specs.declared.outcome.Decided.{Decided}
use Rattle.search_prefix.specs.declared.outcome.Decided.TheVariants as decided
use Rattle.aud_witness.specs.Letter.{Letter}

-- p is good, and some transaction is not placed
abbrev pub IsExpandable : List Declared → History → List Decision → Type 0
IsExpandable objects h p = IsGood objects h p × (IsFull h p → ⊥)

-- each is different from those after it
abbrev pub AreDifferent : List (List Decision) → Type 0
AreDifferent [] = Unit {0}
AreDifferent (e ∷ es) = (Contains es e → ⊥) × AreDifferent es

-- different prefixes that are good and not full, each p or an extension of p, with the parent of each but p's, and no full kid
pub record AreExpanded (objects : List Declared) (h : History) (p : List Decision) (es : List (List Decision)) : Type 0 where
  pub different : AreDifferent es
  pub opens : (e : List Decision) → Contains es e → IsExpandable objects h e
  pub extend : (e : List Decision) → Contains es e → (q : List Decision) × (e ≡ p ++ q)
  pub parents : (e : List Decision) (d : Decision) → Contains es (e ++ d ∷ []) → (e ++ d ∷ [] ≡ p) ⊎ Contains es e
  pub unfull : (e : List Decision) (d : Decision) → Contains es e → IsGood objects h (e ++ d ∷ []) → IsFull h (e ++ d ∷ []) → ⊥

-- one more prefix that is good and not full: p, or a kid of one that was expanded
pub record IsUnexpanded (objects : List Declared) (h : History) (p : List Decision) (es : List (List Decision)) (next : List Decision) : Type 0 where
  pub opens : IsExpandable objects h next
  pub outside : Contains es next → ⊥
  pub place : (next ≡ p) ⊎ ((e : List Decision) × ((d : Decision) × (Contains es e × (next ≡ e ++ d ∷ []))))

-- exactly b prefixes were expanded, and one more is left
abbrev pub SpentBy : List Declared → History → List Decision → ℕ → Type 0
SpentBy objects h p b =
    (es : List (List Decision)) × ((length es ≡ b) × AreExpanded objects h p es × ((next : List Decision) × IsUnexpanded objects h p es next))

-- what an outcome says of the prefixes that begin with p, where there is a budget and where there is none
abbrev pub Reports : {X : Type 0} → List Declared → History → List Decision → Option ℕ → Outcome X → Type 0
Reports objects h p budget outcome.Refuted = Refuted objects h p
Reports objects h p budget (outcome.Witness q) = BeginsWith p q × Shows objects h q
Reports objects h p (Some b) outcome.Spent = SpentBy objects h p b
Reports objects h p None outcome.Spent = ⊥

-- what is said of a history: a prefix shows it, or none does
abbrev pub Decides : {X : Type 0} → List Declared → History → Decided X → Type 0
Decides objects h (decided.Opaque q) = Shows objects h q
Decides objects h decided.NotOpaque = orders.Opaque objects h → ⊥

-- what is said of a history by the letter of 2008: a completion of the history and a sequential history equivalent to it show it, or none do
abbrev pub DecidesByLetter : {X : Type 0} → List Declared → History → Decided X → Type 0
DecidesByLetter objects h (decided.Opaque q) = Letter objects h
DecidesByLetter objects h decided.NotOpaque = Letter objects h → ⊥

-- what is said by a search over a recorder: a prefix shows the history, or none does, and the recorder has a note of the empty prefix
abbrev pub ReportsWith : {R N X : Type 0} → List Declared → History → (R → N → List Decision → Type 0) → Searched R N X → Type 0
ReportsWith objects h noted (searched.Opaque q) = Shows objects h q
ReportsWith objects h noted (searched.NotOpaque r note) = (orders.Opaque objects h → ⊥) × noted r note []
