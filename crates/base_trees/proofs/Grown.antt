-- A balanced list in three parts, once an item is put into one side.
use Rattle.std.proofs.Common.{◌≡◌, ◌<◌, ◌+◌, false, List, ◌∷◌, ◌++◌, length, length-append, sym, ap, subst, ◌∙◌, arith}
use Rattle.std.specs.declared.cmp.Ordering.{Ordering}
use Rattle.std.specs.declared.cmp.Ordering.TheVariants.{Less, Greater}
use Rattle.std.specs.Cmp.{IsTotalOrder}
use Rattle.std.specs.List.Sorted.{IsStrictlySortedBy}
use Rattle.base_sorted.specs.Sets.{has, with_item}
use Rattle.base_trees.specs.Trees.{AreBalanced, NearlyBalanced}
use Rattle.base_trees.proofs.Splits.{with_left, with_right, has_left, has_right, length_with}

-- each side is shorter than the whole
pub shorter : {T : Type 0} (l : List T) (k : T) (r whole : List T) → whole ≡ l ++ k ∷ r → (length l < length whole) × (length r < length whole)
shorter l k r whole parts =
    let all : length whole ≡ length l + length (k ∷ r) = ap length parts ∙ length-append l (k ∷ r) in
    (omega (arith, all), omega (arith, all))

module _ {T : Type 0} {R : T → T → Ordering} (o : IsTotalOrder R) where
  pub near_left : (x : T) (l r g s : List T) → AreBalanced (length l) (length r) → g ≡ with_item R x l → s ≡ r → NearlyBalanced (length g) (length s)
  near_left x l r g s b e f =
      let most = length_with o x l in
      let grown : length g ≡ length (with_item R x l) = ap length e in
      let side : length s ≡ length r = ap length f in
      (omega arith, omega arith)

  pub near_right : (x : T) (l r g s : List T) → AreBalanced (length l) (length r) → g ≡ with_item R x r → s ≡ l → NearlyBalanced (length s) (length g)
  near_right x l r g s b e f =
      let most = length_with o x r in
      let grown : length g ≡ length (with_item R x r) = ap length e in
      let side : length s ≡ length l = ap length f in
      (omega arith, omega arith)

  pub grown_left : (x : T) (l : List T) (k : T) (r whole g all : List T) → R x k ≡ Less → whole ≡ l ++ k ∷ r → IsStrictlySortedBy R whole → has R l x ≡ false → g ≡ with_item R x l → all ≡ g ++ k ∷ r → (has R whole x ≡ false) × (all ≡ with_item R x whole)
  grown_left x l k r whole g all less parts s absent grown made = (
    ap (λ w. has R w x) parts ∙ has_left o x l k r less (subst (IsStrictlySortedBy R) parts s) ∙ absent,
    made ∙ ap (λ w. w ++ k ∷ r) grown ∙ sym (with_left o x l k r less) ∙ ap (with_item R x) (sym parts),
  )

  pub grown_right : (x : T) (l : List T) (k : T) (r whole g all : List T) → R x k ≡ Greater → whole ≡ l ++ k ∷ r → IsStrictlySortedBy R whole → has R r x ≡ false → g ≡ with_item R x r → all ≡ l ++ k ∷ g → (has R whole x ≡ false) × (all ≡ with_item R x whole)
  grown_right x l k r whole g all more parts s absent grown made =
      let sorted = subst (IsStrictlySortedBy R) parts s in (
        ap (λ w. has R w x) parts ∙ has_right o x l k r more sorted ∙ absent,
        made ∙ ap (λ w. l ++ k ∷ w) grown ∙ sym (with_right o x l k r more sorted) ∙ ap (with_item R x) (sym parts),
      )
