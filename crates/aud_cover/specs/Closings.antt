-- What a cover closes.
use Rattle.std.specs.Prelude.{◌≡◌, List, [], ◌∷◌, ◌++◌}
use Rattle.std.specs.List.{Contains}
use Rattle.aud_event.specs.Meanings.{Declared}
use Rattle.aud_history.specs.Histories.{History}
use Rattle.aud_witness.specs.declared.decision.Decision.{Decision}
use Rattle.aud_witness.specs.Orders.{IsFull, IsGood}

-- the cover has a beginning of p; p itself counts
abbrev pub IsCovered : List (List Decision) → List Decision → Type 0
IsCovered cover p = (q : List Decision) × ((rest : List Decision) × (Contains cover q × (p ≡ q ++ rest)))

-- p is a proper beginning of a member of the cover
abbrev pub IsInside : List (List Decision) → List Decision → Type 0
IsInside cover p = (d : Decision) × ((rest : List Decision) × Contains cover (p ++ d ∷ rest))

-- the cover has a beginning of p; or p is not good; or it is not full, is a proper beginning of a member, and all its kids,
-- the good prefixes with one decision more, are closed
pub data IsClosed (objects : List Declared) (h : History) (cover : List (List Decision)) : List Decision → Type 0 where
  covered : {p : List Decision} → IsCovered cover p → IsClosed objects h cover p
  bad : {p : List Decision} → (IsGood objects h p → ⊥) → IsClosed objects h cover p
  by_kids : {p : List Decision} → (IsFull h p → ⊥) → IsInside cover p →
      ((d : Decision) → IsGood objects h (p ++ d ∷ []) → IsClosed objects h cover (p ++ d ∷ [])) → IsClosed objects h cover p
