-- What a sorted list has that another has not, where the other is cut at an element of the first.
use Rattle.std.proofs.Common.{◌≡◌, ◌+◌, ◌≤◌, Bool, true, false, not, ◌||◌, ◌&&◌, List, [], ◌∷◌, ◌++◌, length, length-append, refl, sym, ap, subst, ◌∙◌, arith, cond}
use mathlib.Core.Bool.{true≢false}
use Rattle.std.specs.declared.cmp.Ordering.{Ordering}
use Rattle.std.specs.declared.cmp.Ordering.TheVariants.{Less}
use Rattle.std.specs.Ordering.{eq_by_cmp, is_eq}
use Rattle.std.specs.Cmp.{IsTotalOrder, tied_itself}
use Rattle.std.specs.List.{AllByRecursion, filter}
use Rattle.std.specs.List.Sorted.{IsStrictlySortedBy}
use Rattle.std.proofs.lemmas.List.Folds.{list_any-append}
use Rattle.std.proofs.lemmas.List.Elements.{filter-append}
use Rattle.std.proofs.lemmas.List.Filters.{length-filter_both}
use Rattle.base_values.specs.Exact.{IsExact}
use Rattle.base_trees.specs.Cuts.{if_there, IsCut, AreAllIfAsMany}
use Rattle.base_sorted.specs.Sets.{has, without}
use Rattle.base_sorted.specs.Sorted.{Below-less, absent_below, first_there}
use Rattle.base_sorted.proofs.Leftovers.{has-without}
use Rattle.base_trees.proofs.Cuts.{greater, all_less, all_there, before_middle, after_middle}

or_none : (a : Bool) → (a || false) ≡ a
or_none true = refl
or_none false = refl

and_not : (a : Bool) → (not a && a) ≡ false
and_not true = refl
and_not false = refl

-- tests that agree on all elements leave the same ones
same_filter : {T : Type 0} (P : T → Type 0) (f h : T → Bool) (xs : List T) → ((x : T) → P x → f x ≡ h x) → AllByRecursion P xs → filter f xs ≡ filter h xs
same_filter P f h [] same all = refl
same_filter P f h (x ∷ xs) same all =
    let rest = same_filter P f h xs same all.1 in
    (λ i. cond (same x all.0 i) (x ∷ rest i) (rest i))

-- where as many are left as there were, all are
filter_as_long : {T : Type 0} (f : T → Bool) (xs : List T) → length (filter f xs) ≡ length xs → filter f xs ≡ xs
filter_as_long f [] e = refl
filter_as_long f (x ∷ xs) e =
    elim (f x) as (λ b. length (cond b (x ∷ filter f xs) (filter f xs)) ≡ length (x ∷ xs) → cond b (x ∷ filter f xs) (filter f xs) ≡ x ∷ xs) [
      | true ↦ λ h. ap (λ z. x ∷ z) (filter_as_long f xs (omega (arith, h)))
      | false ↦ λ h. absurd (omega (arith, h, length-filter_both f (λ y. not (f y)) (λ _. refl) xs))
    ] e

pub without_as_long : {T : Type 0} (R : T → T → Ordering) (xs ys : List T) → length (without R xs ys) ≡ length xs → without R xs ys ≡ xs
without_as_long R xs ys e = filter_as_long (λ x. not (has R ys x)) xs e

fewer : {T : Type 0} (R : T → T → Ordering) (xs ys : List T) → length (without R xs ys) ≤ length xs
fewer R xs ys = omega (arith, length-filter_both (λ x. not (has R ys x)) (λ x. not (not (has R ys x))) (λ _. refl) xs)

-- nothing is taken away
pub without_none : {T : Type 0} (R : T → T → Ordering) (xs ys : List T) → length ys ≡ 0 → xs ≡ without R xs ys
without_none R [] [] e = refl
without_none R (x ∷ xs) [] e = ap (λ z. x ∷ z) (without_none R xs [] e)
without_none R xs (y ∷ ys) e = absurd (omega (arith, e))

module _ {T : Type 0} {R : T → T → Ordering} (o : IsTotalOrder R) where
  -- what is greater than all of a list is not in it
  absent_over : (x : T) (ys : List T) → AllByRecursion (λ y. R y x ≡ Less) ys → has R ys x ≡ false
  absent_over x [] h = refl
  absent_over x (y ∷ ys) h = ap (λ c. is_eq c || has R ys x) (greater o x y h.0) ∙ absent_over x ys h.1

  module _ (k : T) (before after : List T) (is_there : Bool) (low : AllByRecursion (λ y. R y k ≡ Less) before) (high : AllByRecursion (λ y. R k y ≡ Less) after) where
    has_less : (x : T) → R x k ≡ Less → has R (before ++ if_there is_there k after) x ≡ has R before x
    has_less x e =
        list_any-append (eq_by_cmp R x) before (if_there is_there k after)
        ∙ ap (λ b. has R before x || b) (absent_below o x (if_there is_there k after) (all_there (λ y. R x y ≡ Less) is_there k after e (Below-less o x k after e high)))
        ∙ or_none (has R before x)

    has_greater : (x : T) → R k x ≡ Less → has R (before ++ if_there is_there k after) x ≡ has R after x
    has_greater x e =
        list_any-append (eq_by_cmp R x) before (if_there is_there k after)
        ∙ ap (λ b. b || has R (if_there is_there k after) x) (absent_over x before (all_less o k x before e low))
        ∙ passes is_there
      where
        passes : (t : Bool) → has R (if_there t k after) x ≡ has R after x
        passes true = ap (λ c. is_eq c || has R after x) (greater o x k e)
        passes false = refl

    has_itself : has R (before ++ if_there is_there k after) k ≡ is_there
    has_itself =
        list_any-append (eq_by_cmp R k) before (if_there is_there k after)
        ∙ ap (λ b. b || has R (if_there is_there k after) k) (absent_over k before low)
        ∙ meets is_there
      where
        meets : (t : Bool) → has R (if_there t k after) k ≡ t
        meets true = ap (λ c. is_eq c || has R after k) (tied_itself o k)
        meets false = absent_below o k after high

    without_parts : (l r : List T) → AllByRecursion (λ y. R y k ≡ Less) l → AllByRecursion (λ y. R k y ≡ Less) r → without R (l ++ k ∷ r) (before ++ if_there is_there k after) ≡ without R l before ++ if_there (not is_there) k (without R r after)
    without_parts l r less_l greater_r =
        let ys = before ++ if_there is_there k after in
        let test = (λ (x : T). not (has R ys x)) in
        let first : without R l ys ≡ without R l before = same_filter (λ x. R x k ≡ Less) test (λ x. not (has R before x)) l (λ x e. ap not (has_less x e)) less_l in
        let last : without R r ys ≡ without R r after = same_filter (λ x. R k x ≡ Less) test (λ x. not (has R after x)) r (λ x e. ap not (has_greater x e)) greater_r in
        filter-append test l (k ∷ r)
        ∙ (λ i. first i ++ cond (not (has_itself i)) (k ∷ last i) (last i))
        ∙ ap (λ z. without R l before ++ z) (chosen is_there (without R r after))
      where
        chosen : (t : Bool) (xs : List T) → cond (not t) (k ∷ xs) xs ≡ if_there (not t) k xs
        chosen true xs = refl
        chosen false xs = refl

  -- part by part
  pub without_cut : (k : T) (l r whole ys before after : List T) (is_there : Bool) → IsCut R k ys before is_there after → whole ≡ l ++ k ∷ r → IsStrictlySortedBy R whole → without R whole ys ≡ without R l before ++ if_there (not is_there) k (without R r after)
  without_cut k l r whole ys before after is_there c parts s =
      let sorted = subst (IsStrictlySortedBy R) parts s in
      (λ i. without R (parts i) (c.parts i))
      ∙ without_parts k before after is_there c.less c.greater l r (before_middle o l k r sorted) (after_middle o l k r sorted)

  module _ (k : T) (l r whole ys before after low high : List T) (is_there : Bool) (c : IsCut R k ys before is_there after) (parts : whole ≡ l ++ k ∷ r) (e : low ≡ without R l before) (f : high ≡ without R r after) where
    -- what is left of the sides, put together again, without k
    pub remains_beside : IsStrictlySortedBy R whole → is_there ≡ true → low ++ high ≡ without R whole ys
    remains_beside s t = (λ i. e i ++ f i) ∙ ap (λ b. without R l before ++ if_there (not b) k (without R r after)) (sym t) ∙ sym (without_cut k l r whole ys before after is_there c parts s)

    -- and with k
    pub remains_around : IsStrictlySortedBy R whole → is_there ≡ false → low ++ k ∷ high ≡ without R whole ys
    remains_around s t = (λ i. e i ++ k ∷ f i) ∙ ap (λ b. without R l before ++ if_there (not b) k (without R r after)) (sym t) ∙ sym (without_cut k l r whole ys before after is_there c parts s)

    -- all is left where they have as many as the whole
    pub remains_all : AreAllIfAsMany whole low k high
    remains_all same =
        let size : length whole ≡ length l + length r + 1 = omega (arith, ap length parts, length-append l (k ∷ r)) in
        let less_l = fewer R l before in
        let less_r = fewer R r after in
        let first = without_as_long R l before (omega (arith, same, size, less_l, less_r, ap length e, ap length f)) in
        let last = without_as_long R r after (omega (arith, same, size, less_l, less_r, ap length e, ap length f)) in
        parts ∙ (λ i. sym (e ∙ first) i ++ k ∷ sym (f ∙ last) i)

  no_members : (xs : List T) → ((q : T) → has R xs q ≡ false) → xs ≡ []
  no_members [] none = refl
  no_members (x ∷ xs) none = absurd (true≢false (sym (first_there o x xs) ∙ none x))

  -- nothing is left of a list without itself
  pub without_same : IsExact R → (xs ys : List T) → xs ≡ ys → [] ≡ without R xs ys
  without_same ex xs ys e = sym (no_members (without R xs ys) (λ q. has-without o ex xs ys q ∙ ap (λ z. not (has R z q) && has R xs q) (sym e) ∙ and_not (has R xs q)))
