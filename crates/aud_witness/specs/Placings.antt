-- A cursor over prefixes: where it is, and the way back.
use Rattle.std.specs.Prelude.{◌≡◌, ◌≢◌, ℕ, ◌<◌, ◌-◌, Bool, true, false, if◌then◌else◌, List, [], ◌∷◌, ◌++◌, length, take, Result, Ok, slice_set, MatchOption}
use Rattle.aud_kinds.specs.Objects.{ObjState}
use Rattle.aud_object.specs.Meanings.{StoreOf}
use Rattle.aud_witness.specs.declared.decision.Fate.{Fate}
use Rattle.aud_witness.specs.declared.decision.Fate.TheVariants.{C, A}
use Rattle.aud_witness.specs.declared.decision.Decision.{Decision}
use Rattle.aud_witness.specs.declared.fault.OrderFault.{OrderFault}
use Rattle.aud_witness.specs.declared.end.End.{End}
use Rattle.aud_witness.specs.declared.step.PlacedRow.{PlacedRow}
use Rattle.aud_witness.specs.Configurations.{Configuration, first_configuration}
use Rattle.aud_witness.specs.Agendas.{AgendaOf, IsEarliest}
use Rattle.aud_object.specs.Blocks.{BlockOf}
use Rattle.aud_object.specs.Replayed.{replayed}
use Rattle.aud_event.specs.Meanings.{Declared}

-- how contracts see a placing: its agenda, where it stands, the decisions that led there, and the configurations before each, the last first
pub record PlacingOf : Type 0 where
  pub agenda : AgendaOf
  pub configuration : Configuration
  pub path : List Decision
  pub past : List Configuration

-- the states before a block that was replayed last, where it is kept
abbrev pub head_or : List ObjState → List (List ObjState) → List ObjState
head_or now [] = now
head_or now (s ∷ ss) = s

abbrev pub after_head : List (List ObjState) → List (List ObjState)
after_head [] = []
after_head (s ∷ ss) = ss

-- the configurations before each step, from the last step on
abbrev pub configurations_before : List Bool → List ObjState → List (List ObjState) → List PlacedRow → List Configuration
configurations_before placed now past [] = []
configurations_before placed now past (x ∷ xs) =
    record { placed = slice_set placed x.row false; states = if x.is_kept then head_or now past else now }
    ∷ configurations_before (slice_set placed x.row false) (if x.is_kept then head_or now past else now) (if x.is_kept then after_head past else past) xs

-- each step, from the last one on, can be taken back
abbrev pub CanGoBack : List End → List Bool → List (List ObjState) → ℕ → List PlacedRow → Type 0
CanGoBack ends placed past earliest [] = IsEarliest ends placed earliest
CanGoBack ends placed past earliest (x ∷ xs) =
    IsEarliest ends placed earliest × (x.row < length placed) × (x.is_kept ≡ true → past ≢ [])
    × CanGoBack ends (slice_set placed x.row false) (if x.is_kept then after_head past else past) x.earliest xs

-- a store after a block that was tried: with fate C the block stays
abbrev pub store_with : Fate → StoreOf → List ObjState → StoreOf
store_with C before after = record { now = after; past = before.now ∷ before.past }
store_with A before after = before

abbrev pub is_kept_fate : Fate → Bool
is_kept_fate C = true
is_kept_fate A = false

-- the decision was placed, and led where the step says
pub record Advances (old : PlacingOf) (d : Decision) (new : PlacingOf) (step : Result Configuration OrderFault) : Type 0 where
  pub configuration : step ≡ Ok new.configuration
  pub agenda : new.agenda ≡ old.agenda
  pub path : new.path ≡ old.path ++ d ∷ []
  pub past : new.past ≡ old.configuration ∷ old.past

-- the last decision was taken back
pub record GoesBack (old new : PlacingOf) : Type 0 where
  pub past : old.past ≡ new.configuration ∷ new.past
  pub agenda : new.agenda ≡ old.agenda
  pub some : 0 < length old.path
  pub path : new.path ≡ take (length old.path - 1) old.path

-- the block was tried, and stays if the fate is C; or some recorded answer is not the object's, and the store is as it was
abbrev pub Tries : StoreOf → BlockOf → Fate → StoreOf → Bool → Type 0
Tries old block fate new right = MatchOption (replayed old.now block) ((right ≡ false) × (new ≡ old)) (λ after. (right ≡ true) × (new ≡ store_with fate old after))

-- before any decision
abbrev pub first_placing : AgendaOf → List Declared → PlacingOf
first_placing agenda objects = record { agenda = agenda; configuration = first_configuration agenda.rows objects; path = []; past = [] }
