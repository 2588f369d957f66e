-- Sorted lists cut at an element: their unions, and what of one is not in the other, part by part.
use Rattle.std.proofs.Common.{◌≡◌, ◌+◌, ◌≤◌, Bool, true, false, List, [], ◌∷◌, ◌++◌, length, length-append, refl, sym, ap, subst, ◌∙◌, append_assoc, append-nil, Option, Some, arith}
use Rattle.std.specs.declared.cmp.Ordering.{Ordering}
use Rattle.std.specs.declared.cmp.Ordering.TheVariants.{Less, Equal, Greater}
use Rattle.std.specs.Ordering.{ordering_reverse}
use Rattle.std.specs.Cmp.{IsTotalOrder, tied_itself}
use Rattle.std.specs.List.{AllByRecursion}
use Rattle.std.specs.List.Sorted.{IsStrictlySortedBy}
use Rattle.base_values.specs.Exact.{IsExact}
use Rattle.base_trees.specs.Cuts.{if_there, IsCut, AreAllIfAsMany}
use Rattle.base_trees.specs.Trees.{items_of, all_taken}
use Rattle.std.specs.Arc.{arc_value}
use Rattle.std.specs.declared.sync.Arc.{Arc}
use Rattle.base_sorted.specs.Sets.{by_order, with_item, union}
use Rattle.base_sorted.specs.Sorted.{Below-less, sorted_union}
use Rattle.base_trees.proofs.Splits.{below_middle, with_left, with_right, with_middle, length_with}

-- what holds of all of two lists holds of all of both
all_both : {T : Type 0} (P : T → Type 0) (xs ys : List T) → AllByRecursion P xs → AllByRecursion P ys → AllByRecursion P (xs ++ ys)
all_both P [] ys h k = k
all_both P (x ∷ xs) ys h k = (h.0, all_both P xs ys h.1 k)

pub all_there : {T : Type 0} (P : T → Type 0) (is_there : Bool) (k : T) (xs : List T) → P k → AllByRecursion P xs → AllByRecursion P (if_there is_there k xs)
all_there P true k xs h hs = (h, hs)
all_there P false k xs h hs = hs

there_append : {T : Type 0} (is_there : Bool) (k : T) (xs ys : List T) → if_there is_there k (xs ++ ys) ≡ if_there is_there k xs ++ ys
there_append true k xs ys = refl
there_append false k xs ys = refl

-- the parts of a tree that a reference leads to
pub tree_parts : {T Z : Type 0} (tree : Option (Arc (List T) Z)) (a : Arc (List T) Z) (now whole : List T) → tree ≡ Some a → now ≡ arc_value a → whole ≡ now → items_of tree ≡ whole
tree_parts tree a now whole e f h = ap items_of e ∙ sym f ∙ sym h

-- where as many are left of a part of a list as there were, it is the whole list
pub all_of_left : {T : Type 0} {R : T → T → Ordering} (x : T) (l : List T) (k : T) (r whole before : List T) (is_there : Bool) (between s : List T) → whole ≡ l ++ k ∷ r → IsCut R x l before is_there between → s ≡ r → AreAllIfAsMany whole between k s
all_of_left {T} x l k r whole before is_there between s parts c f same =
    let size : length between ≡ length l = omega (arith, same, ap length parts, length-append l (k ∷ r), ap length f) in
    let is : between ≡ l = all_taken l (before ++ front is_there) between (c.parts ∙ shape is_there) size in
    parts ∙ (λ i. sym is i ++ k ∷ sym f i)
  where
    front : Bool → List T
    front true = x ∷ []
    front false = []

    shape : (t : Bool) → before ++ if_there t x between ≡ (before ++ front t) ++ between
    shape true = sym (append_assoc before (x ∷ []) between)
    shape false = ap (λ z. z ++ between) (sym (append-nil before))

pub all_of_right : {T : Type 0} {R : T → T → Ordering} (x : T) (l : List T) (k : T) (r whole between : List T) (is_there : Bool) (after s : List T) → whole ≡ l ++ k ∷ r → IsCut R x r between is_there after → s ≡ l → AreAllIfAsMany whole s k between
all_of_right {T} x l k r whole between is_there after s parts c f same =
    let size : length between ≡ length r = omega (arith, same, ap length parts, length-append l (k ∷ r), ap length f) in
    let none : if_there is_there x after ≡ [] = nothing (if_there is_there x after) (omega (arith, size, ap length c.parts, length-append between (if_there is_there x after))) in
    parts ∙ (λ i. sym f i ++ k ∷ (c.parts ∙ ap (λ z. between ++ z) none ∙ append-nil between) i)
  where
    nothing : (xs : List T) → length xs ≡ 0 → xs ≡ []
    nothing [] e = refl
    nothing (y ∷ ys) e = absurd (omega (arith, e))

module _ {T : Type 0} {R : T → T → Ordering} (o : IsTotalOrder R) where
  pub greater : (x k : T) → R k x ≡ Less → R x k ≡ Greater
  greater x k e = o.antisymm x k ∙ ap ordering_reverse e

  less : (x k : T) → R x k ≡ Greater → R k x ≡ Less
  less x k e = o.antisymm k x ∙ ap ordering_reverse e

  -- what is less than k is less than what is greater than k
  pub all_less : (k x : T) (ys : List T) → R k x ≡ Less → AllByRecursion (λ y. R y k ≡ Less) ys → AllByRecursion (λ y. R y x ≡ Less) ys
  all_less k x [] e h = tt
  all_less k x (y ∷ ys) e h = (o.trans y k x h.0 e, all_less k x ys e h.1)

  pub before_middle : (l : List T) (k : T) (r : List T) → IsStrictlySortedBy R (l ++ k ∷ r) → AllByRecursion (λ y. R y k ≡ Less) l
  unfolding IsStrictlySortedBy
  before_middle [] k r s = tt
  before_middle (y ∷ l) k r s = (below_middle o y l k r s.0, before_middle l k r s.1)

  pub after_middle : (l : List T) (k : T) (r : List T) → IsStrictlySortedBy R (l ++ k ∷ r) → AllByRecursion (λ y. R k y ≡ Less) r
  unfolding IsStrictlySortedBy
  after_middle [] k r s = s.0
  after_middle (y ∷ l) k r s = after_middle l k r s.1

  -- a list whose middle is greater is cut in its first part
  pub cut_left : (x : T) (l : List T) (k : T) (r whole before : List T) (is_there : Bool) (between after : List T) → R x k ≡ Less → whole ≡ l ++ k ∷ r → IsStrictlySortedBy R whole → IsCut R x l before is_there between → after ≡ between ++ k ∷ r → IsCut R x whole before is_there after
  cut_left x l k r whole before is_there between after e parts s c f = record {
    parts =
        parts
        ∙ ap (λ z. z ++ k ∷ r) c.parts
        ∙ append_assoc before (if_there is_there x between) (k ∷ r)
        ∙ ap (λ z. before ++ z) (sym (there_append is_there x between (k ∷ r)) ∙ ap (if_there is_there x) (sym f));
    less = c.less;
    greater = subst (AllByRecursion (λ y. R x y ≡ Less)) (sym f) (all_both (λ y. R x y ≡ Less) between (k ∷ r) c.greater (e, Below-less o x k r e (after_middle l k r (subst (IsStrictlySortedBy R) parts s))));
  }

  pub cut_right : (x : T) (l : List T) (k : T) (r whole between : List T) (is_there : Bool) (before after : List T) → R x k ≡ Greater → whole ≡ l ++ k ∷ r → IsStrictlySortedBy R whole → IsCut R x r between is_there after → before ≡ l ++ k ∷ between → IsCut R x whole before is_there after
  cut_right x l k r whole between is_there before after e parts s c f = record {
    parts =
        parts
        ∙ ap (λ z. l ++ k ∷ z) c.parts
        ∙ sym (append_assoc l (k ∷ between) (if_there is_there x after))
        ∙ ap (λ z. z ++ if_there is_there x after) (sym f);
    less =
        subst (AllByRecursion (λ y. R y x ≡ Less)) (sym f)
        (all_both (λ y. R y x ≡ Less) l (k ∷ between) (all_less k x l (less x k e) (before_middle l k r (subst (IsStrictlySortedBy R) parts s))) (less x k e, c.less));
    greater = c.greater;
  }

  pub cut_middle : IsExact R → (x : T) (l : List T) (k : T) (r whole before after : List T) → R x k ≡ Equal → whole ≡ l ++ k ∷ r → IsStrictlySortedBy R whole → before ≡ l → after ≡ r → IsCut R x whole before true after
  cut_middle ex x l k r whole before after e parts s f h =
      let sorted = subst (IsStrictlySortedBy R) parts s in
      let is : k ≡ x = sym (ex x k e) in
      record {
        parts = parts ∙ (λ i. sym f i ++ is i ∷ sym h i);
        less = subst (AllByRecursion (λ y. R y x ≡ Less)) (sym f) (subst (λ z. AllByRecursion (λ y. R y z ≡ Less) l) is (before_middle l k r sorted));
        greater = subst (AllByRecursion (λ y. R x y ≡ Less)) (sym h) (subst (λ z. AllByRecursion (λ y. R z y ≡ Less) r) is (after_middle l k r sorted));
      }

  sorted_front : (xs ys : List T) → IsStrictlySortedBy R (xs ++ ys) → IsStrictlySortedBy R xs
  unfolding IsStrictlySortedBy
  sorted_front [] ys s = tt
  sorted_front (x ∷ xs) ys s = (front xs s.0, sorted_front xs ys s.1)
    where
      front : (zs : List T) → AllByRecursion (λ z. R x z ≡ Less) (zs ++ ys) → AllByRecursion (λ z. R x z ≡ Less) zs
      front [] b = tt
      front (z ∷ zs) b = (b.0, front zs b.1)

  sorted_back : (xs ys : List T) → IsStrictlySortedBy R (xs ++ ys) → IsStrictlySortedBy R ys
  unfolding IsStrictlySortedBy
  sorted_back [] ys s = s
  sorted_back (x ∷ xs) ys s = sorted_back xs ys s.1

  sorted_there : (is_there : Bool) (k : T) (xs : List T) → IsStrictlySortedBy R (if_there is_there k xs) → IsStrictlySortedBy R xs
  sorted_there true k xs s = sorted_back (k ∷ []) xs s
  sorted_there false k xs s = s

  pub sorted_before : (k : T) (all before : List T) (is_there : Bool) (after : List T) → IsCut R k all before is_there after → IsStrictlySortedBy R all → IsStrictlySortedBy R before
  sorted_before k all before is_there after c s = sorted_front before (if_there is_there k after) (subst (IsStrictlySortedBy R) c.parts s)

  pub sorted_after : (k : T) (all before : List T) (is_there : Bool) (after : List T) → IsCut R k all before is_there after → IsStrictlySortedBy R all → IsStrictlySortedBy R after
  sorted_after k all before is_there after c s = sorted_there is_there k after (sorted_back before (if_there is_there k after) (subst (IsStrictlySortedBy R) c.parts s))

  union_left : (b l : List T) (k : T) (r : List T) → AllByRecursion (λ x. R x k ≡ Less) b → union R b (l ++ k ∷ r) ≡ union R b l ++ k ∷ r
  union_left [] l k r h = refl
  union_left (x ∷ b) l k r h = ap (with_item R x) (union_left b l k r h.1) ∙ with_left o x (union R b l) k r h.0

  union_right : (a l : List T) (k : T) (r : List T) → AllByRecursion (λ x. R k x ≡ Less) a → IsStrictlySortedBy R (l ++ k ∷ r) → union R a (l ++ k ∷ r) ≡ l ++ k ∷ union R a r
  union_right [] l k r h s = refl
  union_right (x ∷ a) l k r h s =
      let rest = union_right a l k r h.1 s in
      ap (with_item R x) rest ∙ with_right o x l k (union R a r) (greater x k h.0) (subst (IsStrictlySortedBy R) rest (sorted_union o a (l ++ k ∷ r) s))

  union_both : (b c ys : List T) → union R (b ++ c) ys ≡ union R b (union R c ys)
  union_both [] c ys = refl
  union_both (x ∷ b) c ys = ap (with_item R x) (union_both b c ys)

  union_there : (is_there : Bool) (a l : List T) (k : T) (r : List T) → AllByRecursion (λ x. R k x ≡ Less) a → IsStrictlySortedBy R (l ++ k ∷ r) → union R (if_there is_there k a) (l ++ k ∷ r) ≡ l ++ k ∷ union R a r
  union_there false a l k r h s = union_right a l k r h s
  union_there true a l k r h s =
      let rest = union_right a l k r h s in
      ap (with_item R k) rest ∙ with_middle o k l k (union R a r) (tied_itself o k) (subst (IsStrictlySortedBy R) rest (sorted_union o a (l ++ k ∷ r) s))

  -- the union of a list that is cut and one in three parts
  pub union_cut : (k : T) (from before after l r whole : List T) (is_there : Bool) → IsCut R k from before is_there after → whole ≡ l ++ k ∷ r → IsStrictlySortedBy R whole → union R from whole ≡ union R before l ++ k ∷ union R after r
  union_cut k from before after l r whole is_there c parts s =
      (λ i. union R (c.parts i) (parts i))
      ∙ union_both before (if_there is_there k after) (l ++ k ∷ r)
      ∙ ap (union R before) (union_there is_there after l k r c.greater (subst (IsStrictlySortedBy R) parts s))
      ∙ union_left before l k (union R after r) c.less

  longer : (xs ys : List T) → length ys ≤ length (union R xs ys)
  longer [] ys = omega arith
  longer (x ∷ xs) ys = omega (arith, longer xs ys, (length_with o x (union R xs ys)).0)

  with_as_long : (x : T) (ys : List T) → length (with_item R x ys) ≡ length ys → with_item R x ys ≡ ys
  with_as_long x [] e = absurd (omega (arith, e))
  with_as_long x (y ∷ ys) e =
      elim (R x y) as (λ c. length (by_order c (x ∷ y ∷ ys) (y ∷ ys) (y ∷ with_item R x ys)) ≡ length (y ∷ ys) → by_order c (x ∷ y ∷ ys) (y ∷ ys) (y ∷ with_item R x ys) ≡ y ∷ ys) [
        | Less ↦ λ f. absurd (omega (arith, f))
        | Equal ↦ λ f. refl
        | Greater ↦ λ f. ap (λ z. y ∷ z) (with_as_long x ys (omega (arith, f)))
      ] e

  -- a union that is as long as one of its lists is that list
  pub union_as_long : (xs ys : List T) → length (union R xs ys) ≡ length ys → union R xs ys ≡ ys
  union_as_long [] ys e = refl
  union_as_long (x ∷ xs) ys e =
      let rest = union_as_long xs ys (omega (arith, e, longer xs ys, (length_with o x (union R xs ys)).0)) in
      ap (with_item R x) rest ∙ with_as_long x ys (sym (ap (λ z. length (with_item R x z)) rest) ∙ e)

  module _ (k : T) (from before after l r whole low high : List T) (is_there : Bool) (c : IsCut R k from before is_there after) (parts : whole ≡ l ++ k ∷ r) (e : low ≡ union R before l) (f : high ≡ union R after r) where
    -- sides that took in what was cut, put together again
    pub merged_is : IsStrictlySortedBy R whole → low ++ k ∷ high ≡ union R from whole
    merged_is s = (λ i. e i ++ k ∷ f i) ∙ sym (union_cut k from before after l r whole is_there c parts s)

    -- nothing new came to either where they have as many as the whole
    pub merged_all : AreAllIfAsMany whole low k high
    merged_all same =
        let size : length whole ≡ length l + length r + 1 = omega (arith, ap length parts, length-append l (k ∷ r)) in
        let less_l = longer before l in
        let less_r = longer after r in
        let sum = union_as_long before l (omega (arith, same, size, less_l, less_r, ap length e, ap length f)) in
        let rest = union_as_long after r (omega (arith, same, size, less_l, less_r, ap length e, ap length f)) in
        parts ∙ (λ i. sym (e ∙ sum) i ++ k ∷ sym (f ∙ rest) i)
