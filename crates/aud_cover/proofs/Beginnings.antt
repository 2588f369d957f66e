-- What a cover's marks say of beginnings.
use Rattle.std.specs.Prelude.{◌≡◌, ◌↔◌, ℕ, zero, suc, ◌+◌, ◌<◌, ◌≤◌, max, true, List, [], ◌∷◌, ◌++◌, length, refl}
use Rattle.std.specs.List.{Contains}
use Rattle.std.proofs.Common.{sym, ◌∙◌, ap, subst, arith, length-append}
use Rattle.std.proofs.lemmas.List.{append-nil}
use mathlib.Core.Bool.{true≢false}
use Rattle.std.specs.Ordering.{is_eq}
use Rattle.std.specs.Cmp.{Equal-is, tied_itself}
use Rattle.std.proofs.lemmas.Bool.{and_parts, and_from}
use Rattle.aud_lattice.specs.Covers.{begins, HasBeginning, BeginsOne}
use Rattle.aud_lattice.specs.declared.mark.Mark.{Mark}
use Rattle.aud_lattice.specs.declared.mark.Mark.TheVariants.{Covered, Inner, Outside}
use Rattle.aud_witness.specs.declared.decision.Decision.{Decision}
use Rattle.aud_witness.specs.DecisionOrder.{decision_cmp, decisions_total, decision_exact}
use Rattle.aud_cover.specs.Closings.{IsCovered, IsInside}

-- a list and the rest of one that it begins
pub begins-rest : (q p : List Decision) → begins decision_cmp q p ≡ true → (rest : List Decision) × (p ≡ q ++ rest)
begins-rest [] p e = (p, refl)
begins-rest (x ∷ q) [] e = absurd (true≢false (sym e))
begins-rest (x ∷ q) (y ∷ p) e =
    let parts = and_parts (is_eq (decision_cmp x y)) (begins decision_cmp q p) e in
    let found = begins-rest q p parts.1 in
    (found.0, λ i. sym (decision_exact x y ((Equal-is (decision_cmp x y)).0 parts.0)) i ∷ found.1 i)

pub begins-longer : (q rest : List Decision) → begins decision_cmp q (q ++ rest) ≡ true
begins-longer [] rest = refl
begins-longer (x ∷ q) rest = and_from (is_eq (decision_cmp x x)) (begins decision_cmp q (q ++ rest)) (ap is_eq (tied_itself decisions_total x)) (begins-longer q rest)

covered-from : (cover : List (List Decision)) (p : List Decision) → HasBeginning decision_cmp cover p → IsCovered cover p
covered-from cover p (q, member, e) = let found = begins-rest q p e in (q, (found.0, (member, found.1)))

covered-to : (cover : List (List Decision)) (p : List Decision) → IsCovered cover p → HasBeginning decision_cmp cover p
covered-to cover p (q, (rest, (member, is))) = (q, member, subst (λ l. begins decision_cmp q l ≡ true) (sym is) (begins-longer q rest))

inside-from : (cover : List (List Decision)) (p : List Decision) → (HasBeginning decision_cmp cover p → ⊥) → BeginsOne decision_cmp cover p → IsInside cover p
inside-from cover p apart (q, member, e) = go found.0 found.1
  where
    found : (rest : List Decision) × (q ≡ p ++ rest)
    found = begins-rest p q e

    go : (rest : List Decision) → q ≡ p ++ rest → IsInside cover p
    go [] is =
        let same : q ≡ p = is ∙ append-nil p in
        absurd (apart (covered-to cover p (q, ([], (member, sym same ∙ sym (append-nil q))))))
    go (d ∷ rest) is = (d, (rest, subst (λ l. Contains cover l) is member))

inside-to : (cover : List (List Decision)) (p : List Decision) → IsInside cover p → BeginsOne decision_cmp cover p
inside-to cover p (d, (rest, member)) = (p ++ d ∷ rest, member, begins-longer p (d ∷ rest))

module _ (cover : List (List Decision)) (p : List Decision) (m : Mark) (covered : (m ≡ Covered) ↔ HasBeginning decision_cmp cover p)
    (inner : (m ≡ Inner) ↔ ((HasBeginning decision_cmp cover p → ⊥) × BeginsOne decision_cmp cover p)) where
  pub marked-covered : m ≡ Covered → IsCovered cover p
  marked-covered is = covered-from cover p (covered.0 is)

  pub marked-inner : m ≡ Inner → (IsCovered cover p → ⊥) × IsInside cover p
  marked-inner is = let both = inner.0 is in ((λ there. both.0 (covered-to cover p there)), inside-from cover p both.0 both.1)

  pub marked-outside : m ≡ Outside → (IsCovered cover p → ⊥) × (IsInside cover p → ⊥)
  marked-outside is = (apart, λ inside. let clash : m ≡ Inner = inner.1 ((λ there. apart (covered-from cover p there)), inside-to cover p inside) in absurd (cc))
    where
      apart : IsCovered cover p → ⊥
      apart there = let clash : m ≡ Covered = covered.1 (covered-to cover p there) in absurd (cc)

-- the length of the longest list
abbrev pub longest : List (List Decision) → ℕ
longest [] = 0
longest (p ∷ ps) = max (length p) (longest ps)

pub longest-member : (ps : List (List Decision)) (q : List Decision) → Contains ps q → length q ≤ longest ps
longest-member [] q (k, inside, is) = absurd (omega arith)
longest-member (p ∷ ps) q (zero, inside, is) = let same : length p ≡ length q = ap length is in omega arith
longest-member (p ∷ ps) q (suc k, inside, is) = let rest : length q ≤ longest ps = longest-member ps q (k, omega arith, is) in omega arith

-- a proper beginning of a member is shorter than the longest
pub longest-inside : (ps : List (List Decision)) (p : List Decision) → IsInside ps p → length p < longest ps
longest-inside ps p (d, (rest, member)) =
    let short : length (p ++ d ∷ rest) ≤ longest ps = longest-member ps (p ++ d ∷ rest) member in
    let more : length (p ++ d ∷ rest) ≡ length p + length (d ∷ rest) = length-append p (d ∷ rest) in
    omega arith
