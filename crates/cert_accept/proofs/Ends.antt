-- The last line of a certificate.
use Rattle.std.specs.Prelude.{◌≡◌, ◌↔◌, ℕ, ◌+◌, ◌-◌, ◌<◌, Bool, false, IsTrue, nat_eq, List, [], ◌∷◌, ◌++◌, map, length}
use Rattle.std.proofs.Common.{sym, ◌∙◌, ap, arith, get_or, take}
use Rattle.std.proofs.lemmas.List.{map-append}
use Rattle.std.proofs.lemmas.List.{take_more, take_all, nil_from_length}
use Rattle.std.proofs.lemmas.Bool.{eqb-true, eq-eqb}
use Rattle.aud_witness.specs.declared.decision.Decision.{Decision}
use Rattle.cert_accept.specs.declared.cert.CertLine.{CertLine}
use Rattle.cert_accept.specs.Acceptance.{prefix_in, EndsEmpty}

no-end : {X : Type 0} (ys : List X) (y : X) → [] ≡ ys ++ y ∷ [] → ⊥
no-end [] y e = cc
no-end (z ∷ ys) y e = cc

-- two lists that are the same have the same last element
pub same-end : {X : Type 0} (xs ys : List X) (x y : X) → xs ++ x ∷ [] ≡ ys ++ y ∷ [] → x ≡ y
same-end [] [] x y e = cc
same-end {X} [] (b ∷ ys) x y e = let none : [] ≡ ys ++ y ∷ [] = cc in absurd (no-end ys y none)
same-end {X} (a ∷ xs) [] x y e = let none : xs ++ x ∷ [] ≡ [] = cc in absurd (no-end xs x (sym none))
same-end (a ∷ xs) (b ∷ ys) x y e = same-end xs ys x y (cc)

pub ends-by : {X : Type 0} (lines : List (CertLine X)) (line : CertLine X) → 0 < length lines → line ≡ get_or lines (length lines - 1) line → EndsEmpty (map prefix_in lines) ↔ (prefix_in line ≡ [])
ends-by {X} lines line some last = (
  (λ (before, ends). same-end front before (prefix_in line) [] (sym whole ∙ ends)),
  λ none. (front, whole ∙ ap (λ (p : List Decision). front ++ p ∷ []) none),
)
  where
    n : ℕ
    n = length lines - 1

    front : List (List Decision)
    front = map prefix_in (take (length lines - 1) lines)

    parts : lines ≡ take (length lines - 1) lines ++ line ∷ []
    parts =
        sym (take_all (length lines - 1 + 1) lines (omega arith)) ∙ take_more lines (length lines - 1) line (omega arith)
        ∙ ap (λ (l : CertLine X). take (length lines - 1) lines ++ l ∷ []) (sym last)

    whole : map prefix_in lines ≡ map prefix_in (take (length lines - 1) lines) ++ prefix_in line ∷ []
    whole = ap (λ (l : List (CertLine X)). map prefix_in l) parts ∙ map-append prefix_in (take (length lines - 1) lines) (line ∷ [])

pub empty-reported : (p : List Decision) (b : Bool) → b ≡ nat_eq (length p) 0 → IsTrue b ↔ (p ≡ [])
empty-reported p b is = (
  (λ holds. nil_from_length p (eqb-true (length p) 0 (sym is ∙ holds))),
  λ none. is ∙ eq-eqb (length p) 0 (ap length none),
)

pub no-last : IsTrue false ↔ EndsEmpty []
no-last = ((λ e. absurd (cc)), λ (before, ends). absurd (no-end before [] ends))
