-- Lists with one more decision at the end.
use Rattle.std.specs.Prelude.{◌≡◌, ◌+◌, ◌-◌, List, [], ◌∷◌, ◌++◌, length, refl}
use Rattle.std.proofs.Common.{◌∙◌, ap, arith, take, length-append}
use Rattle.aud_witness.specs.declared.decision.Decision.{Decision}

pub length-push : (p : List Decision) (d : Decision) → length (p ++ d ∷ []) ≡ length p + 1
length-push p d = length-append p (d ∷ [])

-- a list with one more at its end shows both
pub push-parts : (p q : List Decision) (d e : Decision) → p ++ d ∷ [] ≡ q ++ e ∷ [] → (p ≡ q) × (d ≡ e)
push-parts [] [] d e same = (refl, cc)
push-parts [] (y ∷ q) d e same =
    let long : length (d ∷ []) ≡ length (y ∷ (q ++ e ∷ [])) = ap length same in
    let end : length (q ++ e ∷ []) ≡ length q + 1 = length-push q e in
    absurd (omega arith)
push-parts (x ∷ p) [] d e same =
    let long : length (x ∷ (p ++ d ∷ [])) ≡ length (e ∷ []) = ap length same in
    let end : length (p ++ d ∷ []) ≡ length p + 1 = length-push p d in
    absurd (omega arith)
push-parts (x ∷ p) (y ∷ q) d e same =
    let head : x ≡ y = cc in
    let tail : p ++ d ∷ [] ≡ q ++ e ∷ [] = cc in
    let parts = push-parts p q d e tail in
    let front : p ≡ q = parts.0 in
    let both : x ∷ p ≡ y ∷ q = cc in
    (both, parts.1)

pub take-push : (p : List Decision) (d : Decision) → take (length (p ++ d ∷ []) - 1) (p ++ d ∷ []) ≡ p
take-push p d = ap (λ n. take n (p ++ d ∷ [])) (short p d) ∙ front p d
  where
    short : (p : List Decision) (d : Decision) → length (p ++ d ∷ []) - 1 ≡ length p
    short p d = omega (arith, length-push p d)

    front : (p : List Decision) (d : Decision) → take (length p) (p ++ d ∷ []) ≡ p
    front [] d = refl
    front (x ∷ p) d = ap (λ l. x ∷ l) (front p d)
