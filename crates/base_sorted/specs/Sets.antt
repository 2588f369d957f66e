-- A set as the list of its items, least first.
use Rattle.std.specs.Prelude.{Bool, not, List, [], ◌∷◌}
use Rattle.std.specs.declared.cmp.Ordering.{Ordering}
use Rattle.std.specs.declared.cmp.Ordering.TheVariants.{Less, Equal, Greater}
use Rattle.std.specs.Ordering.{eq_by_cmp}
use Rattle.std.specs.List.{filter, list_any}

-- one of three, by what a comparison answered
abbrev pub by_order : {A : Type 0} → Ordering → A → A → A → A
by_order Less a b c = a
by_order Equal a b c = b
by_order Greater a b c = c

-- whether the list has x
abbrev pub has : {T : Type 0} → (T → T → Ordering) → List T → T → Bool
has cmp xs x = list_any (eq_by_cmp cmp x) xs

-- the items of the set with x, least first
abbrev pub with_item : {T : Type 0} → (T → T → Ordering) → T → List T → List T
with_item cmp x [] = x ∷ []
with_item cmp x (y ∷ ys) = by_order (cmp x y) (x ∷ y ∷ ys) (y ∷ ys) (y ∷ with_item cmp x ys)

-- the items of both sets, least first
abbrev pub union : {T : Type 0} → (T → T → Ordering) → List T → List T → List T
union cmp [] ys = ys
union cmp (x ∷ xs) ys = with_item cmp x (union cmp xs ys)

-- the items of the first that the other has not
abbrev pub without : {T : Type 0} → (T → T → Ordering) → List T → List T → List T
without cmp xs ys = filter (λ x. not (has cmp ys x)) xs

-- the set once each item of the list is put in, from the front
abbrev pub inserted : {T : Type 0} → (T → T → Ordering) → List T → List T → List T
inserted cmp [] set = set
inserted cmp (x ∷ xs) set = inserted cmp xs (with_item cmp x set)
