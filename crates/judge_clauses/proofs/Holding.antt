-- Clauses under values, and valid clauses.
use Rattle.std.specs.Prelude.{◌≡◌, ℕ, zero, suc, ◌<◌, Bool, true, false, not, List, [], ◌∷◌, ◌++◌, length, Some, slice_get, refl}
use Rattle.std.proofs.Common.{sym, ◌∙◌, subst, inl, inr, arith, cond}
use Rattle.base_values.proofs.Bools.{or_true, true_or, or_right, true_and, and_true}
use Rattle.judge_clauses.specs.declared.clause.Literal.{Literal}
use Rattle.judge_clauses.specs.Clauses.{is_true, are_true, holds}

-- a clause with a true literal holds
pub holds-from : (v : ℕ → Bool) (c : List Literal) (k : ℕ) (l : Literal) → slice_get c k ≡ Some l → is_true v l ≡ true → holds v c ≡ true
holds-from v [] k l at so = absurd (cc)
holds-from v (x ∷ c) zero l at so =
    let same : l ≡ x = cc in
    true_or (is_true v x) (holds v c) (subst (λ (y : Literal). is_true v y ≡ true) same so)
holds-from v (x ∷ c) (suc k) l at so = or_right (is_true v x) (holds v c) (holds-from v c k l at so)

-- a clause that holds has a true literal
pub holds-at : (v : ℕ → Bool) (c : List Literal) → holds v c ≡ true → (k : ℕ) × ((l : Literal) × ((k < length c) × ((slice_get c k ≡ Some l) × (is_true v l ≡ true))))
holds-at v [] so = absurd (cc)
holds-at v (x ∷ c) so =
    elim (or_true (is_true v x) (holds v c) so) [
      | inl here ↦ (0, (x, (omega arith, (refl, here))))
      | inr later ↦
          let (k, (l, (within, (at, is)))) = holds-at v c later in
          (suc k, (l, (omega arith, (at, is))))
    ]

-- one more that is true
pub are_true-push : (v : ℕ → Bool) (ls : List Literal) (l : Literal) → are_true v ls ≡ true → is_true v l ≡ true → are_true v (ls ++ l ∷ []) ≡ true
are_true-push v [] l so here = true_and (is_true v l) true here refl
are_true-push v (x ∷ ls) l so here =
    let (first, rest) = and_true (is_true v x) (are_true v ls) so in
    true_and (is_true v x) (are_true v (ls ++ l ∷ [])) first (are_true-push v ls l rest here)

-- of literals that are true each one is
pub are_true-at : (v : ℕ → Bool) (ls : List Literal) (k : ℕ) (l : Literal) → are_true v ls ≡ true → slice_get ls k ≡ Some l → is_true v l ≡ true
are_true-at v [] k l so at = absurd (cc)
are_true-at v (x ∷ ls) zero l so at =
    let same : x ≡ l = cc in
    subst (λ (y : Literal). is_true v y ≡ true) same (and_true (is_true v x) (are_true v ls) so).0
are_true-at v (x ∷ ls) (suc k) l so at = are_true-at v ls k l (and_true (is_true v x) (are_true v ls) so).1 at

-- the value of a true literal's atom
pub true-value : (v : ℕ → Bool) (l : Literal) → is_true v l ≡ true → v l.atom ≡ l.holds
true-value v l so = value l.holds (v l.atom) so
  where
    value : (h a : Bool) → cond h a (not a) ≡ true → a ≡ h
    value true a so = so
    value false true so = absurd (cc)
    value false false so = refl

-- a literal of the other value is not true
pub false-value : (v : ℕ → Bool) (l : Literal) (b : Bool) → v l.atom ≡ b → (b ≡ l.holds → ⊥) → is_true v l ≡ false
false-value v l b is other = value l.holds (v l.atom) (λ e. other (sym is ∙ e))
  where
    value : (h a : Bool) → (a ≡ h → ⊥) → cond h a (not a) ≡ false
    value true true other = absurd (other refl)
    value true false other = refl
    value false true other = refl
    value false false other = absurd (other refl)

-- the opposite of a literal that is not true
pub opposite-true : (v : ℕ → Bool) (l : Literal) → is_true v l ≡ false → is_true v (record { atom = l.atom; holds = not l.holds }) ≡ true
opposite-true v l so = value l.holds (v l.atom) so
  where
    value : (h a : Bool) → cond h a (not a) ≡ false → cond (not h) a (not a) ≡ true
    value true true so = absurd (cc)
    value true false so = refl
    value false true so = refl
    value false false so = absurd (cc)

-- a literal whose atom has its value is true
pub true-from_value : (v : ℕ → Bool) (l : Literal) → v l.atom ≡ l.holds → is_true v l ≡ true
true-from_value v l is = value l.holds (v l.atom) is
  where
    value : (h a : Bool) → a ≡ h → cond h a (not a) ≡ true
    value true a is = is
    value false true is = absurd (cc)
    value false false is = refl
