-- What is closed over refuted prefixes is refuted.
use Rattle.std.specs.Prelude.{List, [], ◌∷◌, ◌++◌}
use Rattle.std.proofs.Common.{sym, ◌∙◌, ap, subst, append_assoc}
use Rattle.std.proofs.lemmas.List.{append-nil}
use Rattle.aud_event.specs.Meanings.{Declared}
use Rattle.aud_history.specs.Histories.{History}
use Rattle.aud_witness.specs.declared.decision.Decision.{Decision}
use Rattle.aud_witness.specs.Orders.{IsFull, IsGood, Shows, Refuted}
use Rattle.aud_witness.proofs.Beginnings.{IsGood-from_Shows}
use Rattle.aud_cover.specs.Closings.{covered, bad, by_kids}
use Rattle.aud_cover.specs.Laws.{ClosedIsRefuted}

-- a prefix that is not full is refuted where all its good extensions by one decision are
refuted-by_kids : (objects : List Declared) (h : History) (p : List Decision) → (IsFull h p → ⊥) →
    ((d : Decision) → IsGood objects h (p ++ d ∷ []) → Refuted objects h (p ++ d ∷ [])) → Refuted objects h p
refuted-by_kids objects h p unfull kids [] shows = unfull (subst (λ l. IsFull h l) (append-nil p) shows.full)
refuted-by_kids objects h p unfull kids (d ∷ more) shows =
    let again : Shows objects h ((p ++ d ∷ []) ++ more) = subst (λ l. Shows objects h l) (sym (append_assoc p (d ∷ []) more)) shows in
    kids d (IsGood-from_Shows objects h (p ++ d ∷ []) more again) more again

pub closed-refuted : ClosedIsRefuted
closed-refuted objects h cover p all (covered (q, (rest, (member, is)))) =
    λ more shows. all q member (rest ++ more) (subst (λ l. Shows objects h l) (ap (λ l. l ++ more) is ∙ append_assoc q rest more) shows)
closed-refuted objects h cover p all (bad none) = λ more shows. none (IsGood-from_Shows objects h p more shows)
closed-refuted objects h cover p all (by_kids unfull inside kids) =
    refuted-by_kids objects h p unfull (λ d good. closed-refuted objects h cover (p ++ d ∷ []) all (kids d good))
