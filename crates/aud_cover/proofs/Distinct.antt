-- Kids rise strictly.
use Rattle.std.specs.Prelude.{◌≡◌, ℕ, ◌<◌, Bool, true, false, not, ◌&&◌, nat_eq, List, [], ◌∷◌, length, filter, refl}
use Rattle.std.specs.List.{list_any, flat_map, IsDistinct, AllByRecursion}
use Rattle.std.proofs.Common.{◌∙◌, ap, subst, cond, arith, get_or}
use Rattle.std.specs.declared.cmp.Ordering.{Ordering}
use Rattle.std.specs.declared.cmp.Ordering.TheVariants.{Less, Equal, Greater}
use Rattle.std.specs.Ordering.{is_lt, ordering_reverse}
use Rattle.std.proofs.lemmas.List.Sorted.{sorted_far, ranks_by}
use Rattle.std.proofs.lemmas.Map.Keys.{apart_from_distinct, IsDistinct-IsPermutation}
use Rattle.aud_event.specs.Meanings.{Declared}
use Rattle.base_values.proofs.Bools.{and_true, true_and, or_false, not_true, nat_eq-refl, nat_eq-sym, and_no}
use Rattle.aud_history.specs.Histories.{History}
use Rattle.aud_history.specs.Table.{transactions}
use Rattle.aud_history.proofs.Tables.{are_different, different-transactions}
use Rattle.aud_witness.specs.declared.decision.Fate.{Fate}
use Rattle.aud_witness.specs.declared.decision.Fate.TheVariants.{C, A}
use Rattle.aud_witness.specs.declared.decision.Decision.{Decision}
use Rattle.aud_witness.specs.DecisionOrder.{decision_cmp, decisions_total, decision_exact}
use Rattle.aud_witness.specs.OrderFaults.{is_good_next, kids}
use Rattle.aud_order.specs.Kids.{AreKids, both_fates}

abbrev same_fate : Fate → Fate → Bool
same_fate C C = true
same_fate A A = true
same_fate _ _ = false

abbrev same : Decision → Decision → Bool
same d e = nat_eq d.tx e.tx && same_fate d.fate e.fate

same_fate-refl : (f : Fate) → same_fate f f ≡ true
same_fate-refl C = refl
same_fate-refl A = refl

same_fate-sym : (f g : Fate) → same_fate f g ≡ same_fate g f
same_fate-sym C C = refl
same_fate-sym C A = refl
same_fate-sym A C = refl
same_fate-sym A A = refl

same-refl : (d : Decision) → same d d ≡ true
same-refl d = true_and (nat_eq d.tx d.tx) (same_fate d.fate d.fate) (nat_eq-refl d.tx) (same_fate-refl d.fate)

same-sym : (d e : Decision) → same d e ≡ same e d
same-sym d e = λ i. nat_eq-sym d.tx e.tx i && same_fate-sym d.fate e.fate i

-- a decision on none of some transactions is none of theirs
other-fates : (d : Decision) (ts : List ℕ) → list_any (nat_eq d.tx) ts ≡ false → AllByRecursion (λ (e : Decision). same d e ≡ false) (flat_map both_fates ts)
other-fates d [] none = tt
other-fates d (t ∷ ts) none =
    let parts = or_false (nat_eq d.tx t) (list_any (nat_eq d.tx) ts) none in
    (ap (λ b. b && same_fate d.fate C) parts.0, (ap (λ b. b && same_fate d.fate A) parts.0, other-fates d ts parts.1))

fates-distinct : (ts : List ℕ) → are_different ts ≡ true → IsDistinct same (flat_map both_fates ts)
unfolding IsDistinct
fates-distinct [] differ = tt
fates-distinct (t ∷ ts) differ =
    let parts = and_true (not (list_any (nat_eq t) ts)) (are_different ts) differ in
    let none = not_true (list_any (nat_eq t) ts) parts.0 in
    ((and_no (nat_eq t t), other-fates (record { tx = t; fate = C }) ts none), (other-fates (record { tx = t; fate = A }) ts none, fates-distinct ts parts.1))

filter-all : (g : Decision → Bool) (P : Decision → Type 0) (ds : List Decision) → AllByRecursion P ds → AllByRecursion P (filter g ds)
filter-all g P [] all = tt
filter-all g P (d ∷ ds) all =
    elim (g d) as (λ b. AllByRecursion P (cond b (d ∷ filter g ds) (filter g ds))) [ true ↦ (all.0, filter-all g P ds all.1) | false ↦ filter-all g P ds all.1 ]

filter-distinct : (g : Decision → Bool) (ds : List Decision) → IsDistinct same ds → IsDistinct same (filter g ds)
unfolding IsDistinct
filter-distinct g [] apart = tt
filter-distinct g (d ∷ ds) apart =
    elim (g d) as (λ b. IsDistinct same (cond b (d ∷ filter g ds) (filter g ds))) [
      | true ↦ (filter-all g (λ (e : Decision). same d e ≡ false) ds apart.0, filter-distinct g ds apart.1)
      | false ↦ filter-distinct g ds apart.1
    ]

-- each kid is less than those after it
pub kids-rise : (objects : List Declared) (h : History) (p ks : List Decision) (i j : ℕ) (d : Decision) → AreKids objects h p ks → i < j → j < length ks →
    decision_cmp (get_or ks i d) (get_or ks j d) ≡ Less
kids-rise objects h p ks i j d are before inside =
    go (decision_cmp x y) refl
  where
    x : Decision
    x = get_or ks i d

    y : Decision
    y = get_or ks j d

    apart : same x y ≡ false
    apart =
        apart_from_distinct same ks i j d (IsDistinct-IsPermutation same same-sym (kids objects h p) ks are.once
        (filter-distinct (is_good_next objects h p) (flat_map both_fates (transactions h)) (fates-distinct (transactions h) (different-transactions h)))) before inside

    low : is_lt (decision_cmp y x) ≡ false
    low = sorted_far (λ v w. is_lt (decision_cmp v w)) (ranks_by decisions_total (λ (v : Decision). v)) ks are.rising i j d (omega arith) inside

    go : (r : Ordering) → decision_cmp x y ≡ r → decision_cmp x y ≡ Less
    go Less is = is
    go Equal is =
        let one : x ≡ y = decision_exact x y is in
        let clash : same x y ≡ true = subst (λ (v : Decision). same x v ≡ true) one (same-refl x) in
        let none : same x y ≡ false = apart in
        absurd (cc)
    go Greater is =
        let back : decision_cmp y x ≡ Less = decisions_total.antisymm y x ∙ ap ordering_reverse is in
        let clash : is_lt (decision_cmp y x) ≡ true = ap is_lt back in
        let none : is_lt (decision_cmp y x) ≡ false = low in
        absurd (cc)
