-- What opacity does not look at.
use Rattle.std.specs.Prelude.{◌≡◌, ◌≢◌, ◌↔◌, if◌then◌else◌, nat_eq, ℕ, true, false, List, [], ◌∷◌, ◌++◌, map}
use Rattle.aud_event.specs.declared.fact.Event.{Event}
use Rattle.aud_event.specs.Meanings.{Declared}
use Rattle.aud_witness.specs.declared.decision.Decision.{Decision}
use Rattle.aud_history.specs.Histories.{History, is_in, is_completed, is_before}
use Rattle.aud_history.specs.WellFormed.{IsWellFormed}
use Rattle.aud_kinds.specs.Objects.{IsLegal}
use Rattle.aud_witness.specs.declared.decision.Fate.TheVariants.{A}
use Rattle.aud_witness.specs.Orders.{kept, Shows, Opaque}
use Rattle.aud_history.specs.Completions.{IsEquivalent}
use Rattle.aud_witness.specs.Letter.{IsSequential, KeepsRealTime, seen_by}

-- how the events of concurrent transactions interleave: what shows a history shows each history
-- in which each transaction does the same and no further one is before another
abbrev pub InterleavingIsFree : Type 0
InterleavingIsFree =
    (objects : List Declared) (g h : History) (p : List Decision) → IsEquivalent g h → KeepsRealTime h g → Shows objects g p → Shows objects h p

-- a sequential history that is complete and legal is opaque
abbrev pub SerialIsOpaque : Type 0
SerialIsOpaque =
    (objects : List Declared) (h : History) → IsWellFormed h → ((t : ℕ) → is_in h t ≡ true → is_completed h t ≡ true) → IsSequential h →
    ((t : ℕ) → is_in h t ≡ true → IsLegal objects (seen_by h t)) → Opaque objects h

-- the transactions by other names
abbrev pub renamed : (ℕ → ℕ) → History → History
renamed r h = map (λ e. (r e.0, e.1)) h

abbrev pub renamed_order : (ℕ → ℕ) → List Decision → List Decision
renamed_order r p = map (λ d. record { tx = r d.tx; fate = d.fate }) p

-- the names of the transactions, where r is undone by q and q by r
abbrev pub NamesAreFree : Type 0
NamesAreFree =
    (objects : List Declared) (h : History) (p : List Decision) (r q : ℕ → ℕ) → ((t : ℕ) → q (r t) ≡ t) → ((t : ℕ) → r (q t) ≡ t) →
    Shows objects h p ↔ Shows objects (renamed r h) (renamed_order r p)

-- two neighbours of different transactions may change places, unless one transaction is then before the other
abbrev pub NeighboursMaySwap : Type 0
NeighboursMaySwap =
    (objects : List Declared) (a b : History) (e f : ℕ × Event) (p : List Decision) → e.0 ≢ f.0 → is_before (a ++ f ∷ e ∷ b) f.0 e.0 ≡ false →
    Shows objects (a ++ e ∷ f ∷ b) p → Shows objects (a ++ f ∷ e ∷ b) p

-- in an order that shows, the blocks with fate C alone, one after the other, are legal
abbrev pub KeptAreSerial : Type 0
KeptAreSerial = (objects : List Declared) (h : History) (p : List Decision) → Shows objects h p → IsLegal objects (kept h p)

-- H without a transaction
abbrev pub without : ℕ → History → History
without x [] = []
without x (e ∷ h) = if nat_eq e.0 x then without x h else e ∷ without x h

-- nobody sees what is aborted: without a transaction of fate A the same order shows
abbrev pub AbortedIsUnseen : Type 0
AbortedIsUnseen =
    (objects : List Declared) (h : History) (a : List Decision) (d : Decision) (b : List Decision) → d.fate ≡ A →
    Shows objects h (a ++ d ∷ b) → Shows objects (without d.tx h) (a ++ b)
