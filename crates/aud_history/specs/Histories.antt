-- Histories, and what each transaction is in one.
use Rattle.std.specs.Prelude.{ℕ, Bool, true, false, not, ◌&&◌, ◌||◌, if◌then◌else◌, nat_eq, List, [], ◌∷◌}
use Rattle.std.specs.List.{list_any}
use Rattle.aud_event.specs.declared.fact.Event.{Event}
use Rattle.aud_event.specs.declared.fact.Event.TheVariants.{TryC, Commit, Abort}

-- a history: events, each with its transaction, in the order of their stamps
abbrev pub History : Type 0
History = List (ℕ × Event)

-- H|T: the events of T in H, in their order
abbrev pub events_of : ℕ → History → List Event
events_of t [] = []
events_of t (e ∷ h) = if nat_eq e.0 t then e.1 ∷ events_of t h else events_of t h

-- T is in H
abbrev pub is_in : History → ℕ → Bool
is_in h t = list_any (λ e. nat_eq e.0 t) h

-- the event commits
abbrev pub is_commit : Event → Bool
is_commit Commit = true
is_commit _ = false

-- the event aborts
abbrev pub is_abort : Event → Bool
is_abort Abort = true
is_abort _ = false

-- the event asks to commit
abbrev pub is_try_commit : Event → Bool
is_try_commit TryC = true
is_try_commit _ = false

-- T is committed in H: H has its C
abbrev pub is_committed : History → ℕ → Bool
is_committed h t = list_any is_commit (events_of t h)

-- T is aborted in H: H has its A
abbrev pub is_aborted : History → ℕ → Bool
is_aborted h t = list_any is_abort (events_of t h)

-- T is committed or aborted
abbrev pub is_completed : History → ℕ → Bool
is_completed h t = is_committed h t || is_aborted h t

-- T is neither
abbrev pub is_live : History → ℕ → Bool
is_live h t = not (is_completed h t)

-- T is live and asked to commit
abbrev pub is_commit_pending : History → ℕ → Bool
is_commit_pending h t = is_live h t && list_any is_try_commit (events_of t h)

-- H from the first event of U on
abbrev pub from_first : ℕ → History → History
from_first u [] = []
from_first u (e ∷ h) = if nat_eq e.0 u then e ∷ h else from_first u h

-- T is before U in H: T is completed, and no event of it stands after the first event of U
abbrev pub is_before : History → ℕ → ℕ → Bool
is_before h t u = is_completed h t && is_in h u && not (is_in (from_first u h) t)
