-- Well-formed histories: what each transaction does is a beginning of `O F`.
use Rattle.std.specs.Prelude.{◌≡◌, ℕ, List, [], ◌∷◌, ◌++◌}
use Rattle.aud_event.specs.declared.object.Op.{Op}
use Rattle.aud_event.specs.declared.fact.Event.{Event}
use Rattle.aud_event.specs.declared.fact.Event.TheVariants.{Inv, TryC, TryA, Commit, Abort}
use Rattle.aud_object.specs.Executions.{AreExecutions}
use Rattle.aud_history.specs.Histories.{History, events_of}

-- F: how a transaction ends
pub data IsEnding : List Event → Type 0 where
  invocation_aborted : {ob : ℕ} {op : Op} → IsEnding (Inv ob op ∷ Abort ∷ [])
  aborted_by_itself : IsEnding (TryA ∷ Abort ∷ [])
  committed : IsEnding (TryC ∷ Commit ∷ [])
  commit_refused : IsEnding (TryC ∷ Abort ∷ [])

-- O F: executions, then an ending
abbrev pub IsWhole : List Event → Type 0
IsWhole es = (o : List Event) × ((f : List Event) × (AreExecutions o × IsEnding f × (es ≡ o ++ f)))

-- a beginning of O F: executions, then perhaps an ending, cut anywhere
abbrev pub IsTransaction : List Event → Type 0
IsTransaction es = (rest : List Event) × IsWhole (es ++ rest)

-- H is well-formed: each H|T is a beginning of O F
abbrev pub IsWellFormed : History → Type 0
IsWellFormed h = (t : ℕ) → IsTransaction (events_of t h)
