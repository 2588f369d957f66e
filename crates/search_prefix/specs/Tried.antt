-- What became of choices that a search tried.
use Rattle.std.specs.Prelude.{◌≡◌, ℕ, ◌+◌, ◌<◌, ◌≤◌, Bool, true, false, List, [], ◌∷◌, ◌++◌, length, Option, Some, None, slice_get, ◌⊎◌}
use Rattle.aud_event.specs.Meanings.{Declared}
use Rattle.aud_history.specs.Histories.{History}
use Rattle.aud_witness.specs.declared.decision.Decision.{Decision}
use Rattle.aud_witness.specs.Prefixes.{BeginsWith}
use Rattle.aud_witness.specs.Orders.{Shows, Refuted}
use Rattle.aud_order.specs.Shapes.{objects_of, history_of}
use Rattle.aud_order.specs.Cursors.{CursorOf, IsGoodAt, cursor_with}
use Rattle.search_memo.specs.declared.choice.Visibility.TheVariants.{Silent}
use Rattle.search_memo.specs.declared.choice.Choice.{Choice}
use Rattle.search_prefix.specs.declared.outcome.Outcome.{Outcome}
use Rattle.search_prefix.specs.declared.outcome.Outcome.TheVariants as outcome
use Rattle.search_prefix.specs.declared.outcome.SearchEnd.{SearchEnd}
use Rattle.search_prefix.specs.declared.outcome.SearchEnd.TheVariants as ended
use Rattle.search_prefix.specs.Searches.{SpentBy}

-- one choice was tried: it is good, and the cursor went on, or it is not, and nothing changed
abbrev pub IsTried : CursorOf → CursorOf → Decision → Bool → Type 0
IsTried old new d true = IsGoodAt old d × (new ≡ cursor_with old d)
IsTried old new d false = (IsGoodAt old d → ⊥) × (new ≡ old)

-- choices were tried from a place on, up to the first that is good
abbrev pub FindsFirstGood : CursorOf → CursorOf → List Choice → ℕ → Option ℕ → Type 0
FindsFirstGood old new cs from None = (new ≡ old) × ((j : ℕ) (c : Choice) → from ≤ j → slice_get cs j ≡ Some c → IsGoodAt old c.decision → ⊥)
FindsFirstGood old new cs from (Some k) =
    (c : Choice) × ((from ≤ k) × (k < length cs) × (slice_get cs k ≡ Some c) × IsGoodAt old c.decision × (new ≡ cursor_with old c.decision)
    × ((j : ℕ) (e : Choice) → from ≤ j → j < k → slice_get cs j ≡ Some e → IsGoodAt old e.decision → ⊥))

-- the choices from one place up to another are refuted
abbrev pub ArePassed : CursorOf → List Choice → ℕ → ℕ → Type 0
ArePassed at cs from to = (from ≤ to) × ((j : ℕ) (c : Choice) → from ≤ j → j < to → slice_get cs j ≡ Some c → Refuted (objects_of at.shape) (history_of at.shape) (at.path ++ c.decision ∷ []))

-- the place of the next choice once the one at k is refuted: after one of a silent transaction none is left
pub record IsNextPlace (cs : List Choice) (k g : ℕ) : Type 0 where
  pub past : k < g
  pub inside : g ≤ length cs
  pub silent : (c : Choice) → slice_get cs k ≡ Some c → (g ≡ k + 1) ⊎ (c.visibility ≡ Silent)
  pub over : (c : Choice) → slice_get cs k ≡ Some c → c.visibility ≡ Silent → g ≡ length cs

-- of a budget some is used, and the rest is left; one expansion is not of the budget
abbrev pub Spends : Option ℕ → ℕ → Option ℕ → Type 0
Spends None used None = Unit {0}
Spends (Some whole) used (Some left) = used + left ≡ whole + 1
Spends None used (Some left) = ⊥
Spends (Some whole) used None = ⊥

-- what is reported of the prefixes that begin with one that was expanded, where so much of the budget is left
abbrev pub ReportsFrom : {N X : Type 0} → List Declared → History → (N → List Decision → Type 0) → List Decision → Option ℕ → SearchEnd N X → Type 0
ReportsFrom objects h noted p left (ended.Refuted note) = Refuted objects h p × noted note p
ReportsFrom objects h noted p left (ended.Witness q) = BeginsWith p q × Shows objects h q
ReportsFrom objects h noted p (Some left) ended.Spent = SpentBy objects h p (left + 1)
ReportsFrom objects h noted p None ended.Spent = ⊥

-- the search ended with the prefix
abbrev pub IsWitnessOf : {N X : Type 0} → List Decision → SearchEnd N X → Type 0
IsWitnessOf p (ended.Refuted note) = ⊥
IsWitnessOf p (ended.Witness q) = q ≡ p
IsWitnessOf p ended.Spent = ⊥

-- how the search ended, without the note
abbrev pub outcome_of : {N X : Type 0} → SearchEnd N X → Outcome X
outcome_of (ended.Refuted note) = outcome.Refuted
outcome_of (ended.Witness q) = outcome.Witness q
outcome_of ended.Spent = outcome.Spent

-- what is reported of the prefixes that begin with the cursor's, where so much of the budget is left
abbrev pub ReportsAt : {N X : Type 0} → CursorOf → (N → List Decision → Type 0) → Option ℕ → SearchEnd N X → Type 0
ReportsAt at noted left e = ReportsFrom (objects_of at.shape) (history_of at.shape) noted at.path left e
