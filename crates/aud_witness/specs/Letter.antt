-- Opacity to the letter of 2008: event lists and insertions, no decisions.
use Rattle.std.specs.Prelude.{◌≡◌, ◌≢◌, ◌⊎◌, ℕ, Bool, true, ◌&&◌, ◌||◌, nat_eq, List, map, filter}
use Rattle.aud_event.specs.declared.fact.Event.{Event}
use Rattle.aud_event.specs.Meanings.{Declared}
use Rattle.aud_history.specs.Histories.{History, is_in, is_committed, is_before}
use Rattle.aud_kinds.specs.Objects.{IsLegal}
use Rattle.aud_history.specs.Completions.{IsCompletion, IsEquivalent}

-- of two transactions one is always before the other
abbrev pub IsSequential : History → Type 0
IsSequential s =
    (t u : ℕ) → is_in s t ≡ true → is_in s u ≡ true → t ≢ u → (is_before s t u ≡ true) ⊎ (is_before s u t ≡ true)

abbrev pub KeepsRealTime : History → History → Type 0
KeepsRealTime h s = (t u : ℕ) → is_before h t u ≡ true → is_before s t u ≡ true

-- an event of T, or of a transaction that is committed and before T in S
abbrev pub is_seen_by : History → ℕ → ℕ × Event → Bool
is_seen_by s t e = nat_eq e.0 t || (is_committed s e.0 && is_before s e.0 t)

abbrev pub seen_by : History → ℕ → List Event
seen_by s t = map (λ e. e.1) (filter (is_seen_by s t) s)

-- opacity by the letter of the paper: a completion of H, and a sequential history equivalent to it that keeps the real-time order and
-- in which each transaction sees what is legal
pub record Letter (objects : List Declared) (h : History) : Type 0 where
  pub complete : History
  pub serial : History
  pub completion : IsCompletion h complete
  pub equivalent : IsEquivalent serial complete
  pub sequential : IsSequential serial
  pub real_time : KeepsRealTime h serial
  pub legal : (t : ℕ) → is_in serial t ≡ true → IsLegal objects (seen_by serial t)
