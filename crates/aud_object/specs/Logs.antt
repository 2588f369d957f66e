-- The states at the marks of a log of changes.
use Rattle.std.specs.Prelude.{ℕ, zero, suc, List, [], ◌∷◌, map, ◌≡◌, MatchOption, Option}
use Rattle.aud_kinds.specs.Objects.{ObjState}
use Rattle.aud_object.specs.States.{meaning, back}
use Rattle.aud_object.specs.declared.state.State.{State}
use Rattle.aud_object.specs.declared.state.Change.{Change}
use Rattle.aud_object.specs.declared.log.Entry.{Entry}
use Rattle.aud_object.specs.declared.log.Entry.TheVariants.{Mark, Changed}
use Rattle.aud_event.specs.declared.object.Answer.{Answer}

-- the states once a change of one of them is taken back
abbrev pub back_at : {A : Type 0} → List (State A) → ℕ → Change → List (State A)
back_at [] ob change = []
back_at (s ∷ ss) zero change = back s change ∷ ss
back_at (s ∷ ss) (suc ob) change = s ∷ back_at ss ob change

-- the states at the marks of a log, the newest entry first
abbrev pub levels : {A : Type 0} → List (State A) → List Entry → List (List ObjState)
levels states [] = []
levels states (Mark ∷ es) = map meaning states ∷ levels states es
levels states (Changed ob change ∷ es) = levels (back_at states ob change) es

-- no state changed, or one did by a change that leads back
abbrev pub LeadsBack : {A : Type 0} → List (State A) → ℕ → List (State A) → Option (Answer × Option Change) → Type 0
LeadsBack old ob new ran = MatchOption ran (new ≡ old) (λ r. MatchOption r.1 (new ≡ old) (λ change. back_at new ob change ≡ old))
