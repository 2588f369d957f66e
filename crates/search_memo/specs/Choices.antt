-- All choices that a completion gives, in the order in which a search tries them.
use Rattle.std.specs.Prelude.{◌≡◌, ℕ, suc, ◌<◌, ◌++◌, true, if◌then◌else◌, List, [], ◌∷◌, Option, Some, slice_get, ◌⊎◌}
use Rattle.std.specs.List.{Contains}
use Rattle.aud_history.specs.Histories.{History, is_in}
use Rattle.aud_history.specs.Table.{RowOf, table_of}
use Rattle.aud_witness.specs.declared.decision.Fate.{Fate}
use Rattle.aud_witness.specs.declared.decision.Fate.TheVariants.{C, A}
use Rattle.aud_witness.specs.declared.decision.Decision.{Decision}
use Rattle.aud_witness.specs.Orders.{is_allowed}
use Rattle.aud_witness.specs.Configurations.{status_allows}
use Rattle.aud_order.specs.Silent.{silent_fate}
use Rattle.search_memo.specs.declared.choice.Visibility.TheVariants.{Silent}
use Rattle.search_memo.specs.declared.choice.Choice.{Choice}

-- what a choice chooses, and where its row is
abbrev pub key_of : Choice → ℕ × Decision
key_of c = (c.place, c.decision)

-- the choice of a fate, where a completion may give it to the transaction of the row
abbrev pub row_choices : ℕ → RowOf → Fate → List (ℕ × Decision)
row_choices n r f = if status_allows r.status f then (n, record { tx = r.tx; fate = f }) ∷ [] else []

-- the choices of both fates
abbrev pub both_choices : ℕ → RowOf → List (ℕ × Decision)
both_choices n r = row_choices n r C ++ row_choices n r A

-- the choices of the rows, by the rows' places from n on
abbrev pub choices_from : ℕ → List RowOf → List (ℕ × Decision)
choices_from n [] = []
choices_from n (r ∷ rs) = both_choices n r ++ choices_from (suc n) rs

-- what is marked as silent is the decision of a silent transaction with its silent fate
abbrev pub AreMarkedSilent : History → List Choice → Type 0
AreMarkedSilent h cs = (c : Choice) → Contains cs c → c.visibility ≡ Silent → silent_fate h c.decision.tx ≡ Some c.decision.fate

-- the new choices are marked rightly if the old ones are
abbrev pub StayMarked : History → List Choice → List Choice → Type 0
StayMarked h old new = AreMarkedSilent h old → AreMarkedSilent h new

-- what came to some choices is of T, and marked as silent only with the silent fate of T
abbrev pub AreMarkedFrom : List Choice → List Choice → ℕ → Option Fate → Type 0
AreMarkedFrom old new t silent = (c : Choice) → Contains new c → Contains old c ⊎ (c.visibility ≡ Silent → (silent ≡ Some c.decision.fate) × (c.decision.tx ≡ t))

-- the choice is of the transaction of its row
abbrev pub IsOfRow : History → Choice → Type 0
IsOfRow h c = (r : RowOf) × ((slice_get (table_of h) c.place ≡ Some r) × (r.tx ≡ c.decision.tx))

-- every transaction with every fate that it may have, once, each with the place of its row
pub record AreChoices (h : History) (cs : List Choice) : Type 0 where
  pub rows : (k : ℕ) (c : Choice) → slice_get cs k ≡ Some c → (r : RowOf) × ((slice_get (table_of h) c.place ≡ Some r) × (r.tx ≡ c.decision.tx))
  pub whole : (d : Decision) → is_in h d.tx ≡ true → is_allowed h d.tx d.fate ≡ true → (k : ℕ) × ((c : Choice) × ((slice_get cs k ≡ Some c) × (c.decision ≡ d)))
  pub once : (j k : ℕ) (c e : Choice) → j < k → slice_get cs j ≡ Some c → slice_get cs k ≡ Some e → c.decision ≡ e.decision → ⊥
  pub silent : (k : ℕ) (c : Choice) → slice_get cs k ≡ Some c → c.visibility ≡ Silent → silent_fate h c.decision.tx ≡ Some c.decision.fate
