-- Strictly sorted lists by place, and tests that some element passes.
use Rattle.std.specs.Prelude.{◌≡◌, ℕ, zero, suc, ◌<◌, Bool, true, false, ◌||◌, List, [], ◌∷◌, length, refl}
use Rattle.std.proofs.Common.{sym, ap, ◌∙◌, arith, get_or, inl, inr}
use mathlib.Core.Bool.{true≢false}
use Rattle.std.proofs.lemmas.Bool.{or_cases}
use Rattle.std.specs.declared.cmp.Ordering.{Ordering}
use Rattle.std.specs.declared.cmp.Ordering.TheVariants.{Less}
use Rattle.std.specs.List.{list_any, AllByRecursion, Contains}
use Rattle.std.specs.List.Sorted.{IsStrictlySortedBy}

-- in a strictly sorted list each is below each later one
pub strict_at : {X : Type 0} (c : X → X → Ordering) (xs : List X) (i j : ℕ) (d : X) → IsStrictlySortedBy c xs → i < j → j < length xs → c (get_or xs i d) (get_or xs j d) ≡ Less
unfolding IsStrictlySortedBy
strict_at c [] i j d s lt in_range = absurd (omega (arith, in_range))
strict_at c (x ∷ xs) i zero d s lt in_range = absurd (omega (arith, lt))
strict_at c (x ∷ xs) zero (suc j) d s lt in_range = below_at xs j s.0 (omega (arith, in_range))
  where
    below_at : (xs : _) (j : ℕ) → AllByRecursion (λ y. c x y ≡ Less) xs → j < length xs → c x (get_or xs j d) ≡ Less
    below_at [] j b in_range = absurd (omega (arith, in_range))
    below_at (y ∷ ys) zero b in_range = b.0
    below_at (y ∷ ys) (suc j) b in_range = below_at ys j b.1 (omega (arith, in_range))
strict_at c (x ∷ xs) (suc i) (suc j) d s lt in_range = strict_at c xs i j d s.1 (omega (arith, lt)) (omega (arith, in_range))

-- one that passes at a place
pub any_at : {X : Type 0} (t : X → Bool) (xs : List X) (i : ℕ) (d : X) → i < length xs → t (get_or xs i d) ≡ true → list_any t xs ≡ true
any_at t [] i d lt e = absurd (omega (arith, lt))
any_at t (x ∷ xs) zero d lt e = ap (λ b. b || list_any t xs) e
any_at t (x ∷ xs) (suc i) d lt e = ap (λ b. t x || b) (any_at t xs i d (omega (arith, lt)) e) ∙ or_true (t x)
  where
    or_true : (a : Bool) → (a || true) ≡ true
    or_true true = refl
    or_true false = refl

-- an element that passes
pub some_passes : {X : Type 0} (t : X → Bool) (xs : List X) → list_any t xs ≡ true → (x : X) × Contains xs x × (t x ≡ true)
some_passes t [] e = absurd (true≢false (sym e))
some_passes t (x ∷ xs) e = elim (or_cases (t x) (list_any t xs) e) [
  | inl first ↦ (x, (0, omega arith, refl), first)
  | inr later ↦ let found = some_passes t xs later in (found.0, (suc found.1.0, (let lt = found.1.1 in omega arith), found.1.2), found.2)
]

pub one_passes : {X : Type 0} (t : X → Bool) (xs : List X) (x : X) → Contains xs x → t x ≡ true → list_any t xs ≡ true
one_passes t xs x h e = any_at t xs h.0 x h.1 (ap t h.2 ∙ e)
