-- Completions of a history: its live transactions ended.
use Rattle.std.specs.Prelude.{◌≡◌, ℕ, Bool, true, false, ◌&&◌, [], ◌∷◌}
use Rattle.aud_event.specs.declared.fact.Event.{Event}
use Rattle.aud_event.specs.declared.fact.Event.TheVariants.{TryC, Commit, Abort}
use Rattle.aud_history.specs.Histories.{History, events_of, is_in, is_aborted, is_completed, is_live, is_commit_pending}
use Rattle.aud_history.specs.WellFormed.{IsWellFormed}

-- the events that a completion inserts
abbrev pub is_completing : Event → Bool
is_completing TryC = true
is_completing Commit = true
is_completing Abort = true
is_completing _ = false

-- T is a live transaction of H
abbrev pub has_live : History → ℕ → Bool
has_live h t = is_in h t && is_live h t

-- the second list is the first with tryC, C and A events of live transactions of H inserted, at any places
pub data IsInserted (h : History) : History → History → Type 0 where
  nothing : IsInserted h [] []
  same : {e : ℕ × Event} {a b : History} → IsInserted h a b → IsInserted h (e ∷ a) (e ∷ b)
  inserted : {e : ℕ × Event} {a b : History} →
      has_live h e.0 ≡ true → is_completing e.1 ≡ true → IsInserted h a b → IsInserted h a (e ∷ b)

-- Complete(H): the live transactions that are not commit-pending are aborted, the commit-pending ones committed or aborted
pub record IsCompletion (h complete : History) : Type 0 where
  pub well_formed : IsWellFormed complete
  pub insertion : IsInserted h h complete
  pub ended : (t : ℕ) → is_in complete t ≡ true → is_completed complete t ≡ true
  pub aborted : (t : ℕ) → has_live h t ≡ true → is_commit_pending h t ≡ false → is_aborted complete t ≡ true

-- each transaction does the same in both
abbrev pub IsEquivalent : History → History → Type 0
IsEquivalent a b = (t : ℕ) → events_of t a ≡ events_of t b
