-- Lines in memory of another kind are accepted alike.
use Rattle.std.specs.Prelude.{◌≡◌, ◌↔◌, List, [], ◌∷◌, ◌++◌, map, refl}
use Rattle.std.proofs.Common.{sym, ap, subst}
use Rattle.aud_event.specs.Meanings.{Declared}
use Rattle.aud_history.specs.Histories.{History}
use Rattle.aud_witness.specs.declared.decision.Decision.{Decision}
use Rattle.cert_accept.specs.declared.cert.CertLine.{CertLine}
use Rattle.cert_accept.specs.declared.cert.CertLine.TheVariants.{Kids, Silent, Same}
use Rattle.cert_accept.specs.Acceptance.{elsewhere, prefix_in, IsAcceptedLine, AreAccepted, EndsEmpty, IsAccepted}

module _ {X : Type 0} (Y : Type 0) (objects : List Declared) (h : History) where
  same-prefix : (line : CertLine X) → prefix_in (elsewhere {Y = Y} line) ≡ prefix_in line
  same-prefix (Kids p) = refl
  same-prefix (Silent p d) = refl
  same-prefix (Same p q) = refl

  same-line : (earlier : List (List Decision)) (line : CertLine X) → IsAcceptedLine objects h earlier (elsewhere {Y = Y} line) ↔ IsAcceptedLine objects h earlier line
  same-line earlier (Kids p) = ((λ a. record { good = a.good; rests = a.rests }), λ a. record { good = a.good; rests = a.rests })
  same-line earlier (Silent p d) = ((λ a. record { good = a.good; rests = a.rests }), λ a. record { good = a.good; rests = a.rests })
  same-line earlier (Same p q) = ((λ a. record { good = a.good; rests = a.rests }), λ a. record { good = a.good; rests = a.rests })

  same-lines : (earlier : List (List Decision)) (lines : List (CertLine X)) → AreAccepted objects h earlier (map (elsewhere {Y = Y}) lines) ↔ AreAccepted objects h earlier lines
  same-lines earlier [] = ((λ a. a), λ a. a)
  same-lines earlier (line ∷ lines) =
      let more : earlier ++ prefix_in (elsewhere {Y = Y} line) ∷ [] ≡ earlier ++ prefix_in line ∷ [] = ap (λ (p : List Decision). earlier ++ p ∷ []) (same-prefix line) in
      let rest = same-lines (earlier ++ prefix_in line ∷ []) lines in (
        (λ a. ((same-line earlier line).0 a.0, rest.0 (subst (λ (ps : List (List Decision)). AreAccepted objects h ps (map (elsewhere {Y = Y}) lines)) more a.1))),
        λ a. ((same-line earlier line).1 a.0, subst (λ (ps : List (List Decision)). AreAccepted objects h ps (map (elsewhere {Y = Y}) lines)) (sym more) (rest.1 a.1)),
      )

  same-prefixes : (lines : List (CertLine X)) → map prefix_in (map (elsewhere {Y = Y}) lines) ≡ map prefix_in lines
  same-prefixes [] = refl
  same-prefixes (line ∷ lines) = λ i. same-prefix line i ∷ same-prefixes lines i

  pub accepted-elsewhere : (lines : List (CertLine X)) → IsAccepted objects h (map (elsewhere {Y = Y}) lines) ↔ IsAccepted objects h lines
  accepted-elsewhere lines = (
    (λ a. record { each = (same-lines [] lines).0 a.each; last = subst EndsEmpty (same-prefixes lines) a.last }),
    λ a. record { each = (same-lines [] lines).1 a.each; last = subst EndsEmpty (sym (same-prefixes lines)) a.last },
  )
