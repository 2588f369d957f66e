-- When no prefix that begins with another shows a history.
use Rattle.std.specs.Prelude.{List, [], ◌∷◌, ◌++◌}
use Rattle.std.proofs.Common.{sym, subst, append_assoc}
use Rattle.std.proofs.lemmas.List.{append-nil}
use Rattle.aud_event.specs.Meanings.{Declared}
use Rattle.aud_history.specs.Histories.{History}
use Rattle.aud_witness.specs.declared.decision.Decision.{Decision}
use Rattle.aud_witness.specs.Orders.{IsFull, IsGood, IsGoodNext, Shows, Refuted}
use Rattle.aud_witness.proofs.Beginnings.{IsGood-from_Shows}
use Rattle.aud_witness.proofs.Good.{IsGood-last, Shows-from_IsGood}

-- what begins with a prefix that shows is good there
pub next-shown : (objects : List Declared) (h : History) (p : List Decision) (d : Decision) (q : List Decision) → Shows objects h ((p ++ d ∷ []) ++ q) → IsGoodNext objects h p d
next-shown objects h p d q shows =
    IsGood-last objects h p d (IsGood-from_Shows objects h (p ++ d ∷ []) q shows)

-- after a decision that is not good nothing shows
pub refuted-bad : (objects : List Declared) (h : History) (p : List Decision) (d : Decision) → (IsGoodNext objects h p d → ⊥) → Refuted objects h (p ++ d ∷ [])
refuted-bad objects h p d bad q shows = bad (next-shown objects h p d q shows)

-- a prefix that is not full is refuted where each good extension by one decision is
pub refuted-by_kids : (objects : List Declared) (h : History) (p : List Decision) → (IsFull h p → ⊥) →
    ((d : Decision) → IsGoodNext objects h p d → Refuted objects h (p ++ d ∷ [])) → Refuted objects h p
refuted-by_kids objects h p unfull kids [] shows = unfull (subst (λ l. IsFull h l) (append-nil p) shows.full)
refuted-by_kids objects h p unfull kids (d ∷ q) shows =
    let again : Shows objects h ((p ++ d ∷ []) ++ q) = subst (λ l. Shows objects h l) (sym (append_assoc p (d ∷ []) q)) shows in
    kids d (next-shown objects h p d q again) q again

-- a full good prefix that begins with a refuted one is none
pub shown-here : (objects : List Declared) (h : History) (p : List Decision) → IsGood objects h p → IsFull h p → Shows objects h p
shown-here objects h p good full = Shows-from_IsGood objects h p full good
