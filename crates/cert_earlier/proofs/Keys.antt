-- When two prefixes are the same.
use Rattle.std.specs.Prelude.{◌≡◌, ◌↔◌, ℕ, Bool, true, IsTrue, List, nat_eq}
use Rattle.std.specs.Cmp.Lexicographic.{slice_cmp, lists_total, lists_ties, pointwise}
use Rattle.std.specs.Ordering.{eq_by_cmp}
use Rattle.std.proofs.Common.{sym, ◌∙◌, ap, subst, inl, inr}
use Rattle.std.proofs.lemmas.Bool.{eqb-true}
use Rattle.std.proofs.lemmas.Cmp.{eq_by_cmp_equiv}
use Rattle.std.proofs.lemmas.Map.Views.{tells_apart}
use Rattle.base_values.proofs.Bools.{split}
use Rattle.aud_witness.specs.declared.decision.Decision.{Decision}
use Rattle.aud_witness.specs.contracts.decision.DecisionOrd.TheImpl.Laws as laws
use Rattle.aud_witness.specs.contracts.decision.DecisionPartialEq.TheImpl as decision_equality
use Rattle.aud_witness.specs.DecisionOrder.{decision_cmp, decisions_total, prefix_exact}
use Rattle.cert_earlier.specs.PrefixKeys.{sum_of}

abbrev pub lists_eq : List Decision → List Decision → Bool
lists_eq = eq_by_cmp (slice_cmp decision_cmp)

pub lists-same : (x y : List Decision) → IsTrue (lists_eq x y) ↔ (x ≡ y)
lists-same x y = (tells_apart prefix_exact x y, λ e. subst (λ (z : List Decision). lists_eq x z ≡ true) e ((eq_by_cmp_equiv (lists_total decisions_total)).refl x))

pub same-pointwise : (x y : List Decision) (b : Bool) → b ≡ pointwise decision_equality.ghosts.eq x y → IsTrue b ↔ (x ≡ y)
same-pointwise x y b is =
    let ties : b ≡ lists_eq x y = is ∙ lists_ties decision_cmp laws.matches_eq-law x y in
    ((λ holds. (lists-same x y).0 (sym ties ∙ holds)), λ same. ties ∙ (lists-same x y).1 same)

-- a test that says whether two lists are the same is the test by their order
pub tells-same : (x y : List Decision) (b : Bool) → (IsTrue b ↔ (x ≡ y)) → b ≡ lists_eq x y
tells-same x y b reported =
    elim (split b) [
      | inl holds ↦ holds ∙ sym ((lists-same x y).1 (reported.0 holds))
      | inr fails ↦ fails ∙ sym (elim (split (lists_eq x y)) [
        | inl is ↦ let clash : b ≡ true = reported.1 ((lists-same x y).0 is) in absurd (cc)
        | inr off ↦ off
      ])
    ]

-- lists of different numbers differ
pub sums-differ : (x y : List Decision) (s t : ℕ) → s ≡ sum_of x → t ≡ sum_of y → (s ≡ t → ⊥) → nat_eq s t ≡ lists_eq x y
sums-differ x y s t a b apart =
    tells-same x y (nat_eq s t) ((λ holds. absurd (apart (eqb-true s t holds))), λ same. absurd (apart (a ∙ ap sum_of same ∙ sym b)))

pub as-seen : {x y z w : List Decision} → x ≡ z → y ≡ w → lists_eq x y ≡ lists_eq z w
as-seen e d = λ i. lists_eq (e i) (d i)
