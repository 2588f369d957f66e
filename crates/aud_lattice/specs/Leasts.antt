-- What is reached from the least of two.
use Rattle.std.proofs.Common.{◌≡◌, Bool, true, false, ◌||◌, Option, Some, None, refl, sym, ap, ◌∙◌}
use mathlib.Core.Bool.{true≢false}
use Rattle.std.specs.declared.cmp.Ordering.{Ordering}
use Rattle.std.specs.declared.cmp.Ordering.TheVariants.{Less, Equal, Greater}
use Rattle.std.specs.Ordering.{is_le, ordering_reverse}
use Rattle.std.specs.Cmp.{IsTotalOrder, tied_itself, alike_right}
use Rattle.base_values.specs.Exact.{IsExact}
use Rattle.aud_lattice.specs.Eithers.{either}
use Rattle.aud_lattice.specs.Least.{least_of, reaches}
use Rattle.base_sorted.specs.Sorted.{three_ways}

or-false : (a : Bool) → a ≡ (a || false)
or-false true = refl
or-false false = refl

module _ {T : Type 0} {R : T → T → Ordering} (o : IsTotalOrder R) where
  -- what is reached from the greater is reached from the lesser
  lower : (x y q : T) → R x y ≡ Less → is_le (R x q) ≡ (is_le (R x q) || is_le (R y q))
  lower x y q e =
      elim (R y q) as (λ r. R y q ≡ r → is_le (R x q) ≡ (is_le (R x q) || is_le r)) [
        | Less ↦ λ f. let g : R x q ≡ Less = o.trans x y q e f in λ i. lower_at (R x q) g i
        | Equal ↦ λ f. let g : R x q ≡ Less = sym (alike_right o y q x f) ∙ e in λ i. lower_at (R x q) g i
        | Greater ↦ λ f. or-false (is_le (R x q))
      ] refl
    where
      lower_at : (r : Ordering) → r ≡ Less → is_le r ≡ (is_le r || true)
      lower_at Less e = refl
      lower_at Equal e = refl
      lower_at Greater e = absurd (true≢false (sym (ap is_le e)))

  tied : (a : Bool) → a ≡ (a || a)
  tied true = refl
  tied false = refl

  or_comm : (a b : Bool) → (a || b) ≡ (b || a)
  or_comm true true = refl
  or_comm true false = refl
  or_comm false true = refl
  or_comm false false = refl

  pub reaches-least_of : (x y : Option T) (q : T) → reaches R (least_of R x y) q ≡ either (reaches R x) (reaches R y) q
  reaches-least_of None y q = refl
  reaches-least_of (Some x) None q = or-false (is_le (R x q))
  reaches-least_of (Some x) (Some y) q =
      three_ways (λ l. reaches R l q ≡ (is_le (R x q) || is_le (R y q))) (R x y) (Some x) (Some x) (Some y)
      (λ e. lower x y q e)
      (λ e. tied (is_le (R x q)) ∙ ap (λ r. is_le (R x q) || is_le r) (o.congr x y q e))
      (λ e. lower y x q (o.antisymm y x ∙ ap ordering_reverse e) ∙ or_comm (is_le (R y q)) (is_le (R x q)))

  itself : (x : T) → is_le (R x x) ≡ true
  itself x = ap is_le (tied_itself o x)

  both_below : (r : Ordering) → is_le r ≡ true → is_le (ordering_reverse r) ≡ true → r ≡ Equal
  both_below Less p q = absurd (true≢false (sym q))
  both_below Equal p q = refl
  both_below Greater p q = absurd (true≢false (sym p))

  pub same_least : IsExact R → (x y : Option T) → ((q : T) → reaches R x q ≡ reaches R y q) → x ≡ y
  same_least ex None None same = refl
  same_least ex None (Some y) same = absurd (true≢false (sym (itself y) ∙ sym (same y)))
  same_least ex (Some x) None same = absurd (true≢false (sym (itself x) ∙ same x))
  same_least ex (Some x) (Some y) same =
      let below : is_le (R x y) ≡ true = same y ∙ itself y in
      let above : is_le (R y x) ≡ true = sym (same x) ∙ itself x in
      ap Some (ex x y (both_below (R x y) below (ap is_le (sym (o.antisymm y x)) ∙ above)))
