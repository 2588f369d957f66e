-- What a line of the first three kinds rests on: prefixes of earlier lines.
use Rattle.std.specs.Prelude.{◌≡◌, ℕ, List, [], ◌∷◌, ◌++◌, map, Some}
use Rattle.std.specs.List.{Contains}
use Rattle.aud_event.specs.Meanings.{Declared}
use Rattle.aud_kinds.specs.Objects.{opening_of}
use Rattle.aud_object.specs.Executions.{states_after}
use Rattle.aud_history.specs.Histories.{History}
use Rattle.aud_witness.specs.declared.decision.Decision.{Decision}
use Rattle.aud_witness.specs.Orders.{is_named, kept, IsFull, IsGoodNext}
use Rattle.aud_order.specs.Silent.{silent_fate}

-- p isn't full, and every kid of it is the prefix of an earlier line
pub record HasEarlierKids (objects : List Declared) (h : History) (earlier : List (List Decision)) (p : List Decision) : Type 0 where
  pub unfull : IsFull h p → ⊥
  pub kids : (d : Decision) → IsGoodNext objects h p d → Contains earlier (p ++ d ∷ [])

-- d is of a silent transaction with its silent fate, and p followed by it is good and the prefix of an earlier line
pub record HasEarlierSilent (objects : List Declared) (h : History) (earlier : List (List Decision)) (p : List Decision) (d : Decision) : Type 0 where
  pub silent : silent_fate h d.tx ≡ Some d.fate
  pub good : IsGoodNext objects h p d
  pub line : Contains earlier (p ++ d ∷ [])

-- p and q have the same set of placed transactions, and leave equal states of all objects
pub record LeadAlike (objects : List Declared) (h : History) (p q : List Decision) : Type 0 where
  pub placed : (t : ℕ) → is_named p t ≡ is_named q t
  pub states : states_after (map opening_of objects) (kept h p) ≡ states_after (map opening_of objects) (kept h q)

-- q is the prefix of an earlier line, and leads to where p leads
pub record HasSame (objects : List Declared) (h : History) (earlier : List (List Decision)) (p q : List Decision) : Type 0 where
  pub line : Contains earlier q
  pub alike : LeadAlike objects h p q
