-- What is refuted by its kids.
use Rattle.std.specs.Prelude.{List, [], ◌∷◌, ◌++◌}
use Rattle.std.proofs.Common.{sym, subst, append_assoc}
use Rattle.std.proofs.lemmas.List.{append-nil}
use Rattle.aud_event.specs.Meanings.{Declared}
use Rattle.aud_history.specs.Histories.{History}
use Rattle.aud_witness.specs.declared.decision.Decision.{Decision}
use Rattle.aud_witness.specs.Laws.{ShowsIsFullAndGood}
use Rattle.aud_witness.specs.Orders.{IsFull, IsGood, IsGoodNext, Shows, Refuted}

-- the next decision of a good prefix is good
next-good : (objects : List Declared) (h : History) (p : List Decision) (d : Decision) (q : List Decision) → IsGood objects h ((p ++ d ∷ []) ++ q) → IsGoodNext objects h p d
next-good objects h p d q good = good p d q (append_assoc p (d ∷ []) q)

-- a prefix that is not full is refuted where each good extension by one decision is
pub refuted-by_kids : ShowsIsFullAndGood → (objects : List Declared) (h : History) (p : List Decision) → (IsFull h p → ⊥) →
    ((d : Decision) → IsGoodNext objects h p d → Refuted objects h (p ++ d ∷ [])) → Refuted objects h p
refuted-by_kids law objects h p unfull kids [] shows = unfull (subst (λ l. IsFull h l) (append-nil p) shows.full)
refuted-by_kids law objects h p unfull kids (d ∷ q) shows =
    let again : Shows objects h ((p ++ d ∷ []) ++ q) = subst (λ l. Shows objects h l) (sym (append_assoc p (d ∷ []) q)) shows in
    kids d (next-good objects h p d q ((law objects h ((p ++ d ∷ []) ++ q)).0 again).1) q again
