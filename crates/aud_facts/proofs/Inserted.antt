-- What holds of all facts of a set and of others holds of the larger set.
use Rattle.std.proofs.Common.{Bool, true, false, cond, not, List, [], ◌∷◌}
use Rattle.std.specs.List.{AllByRecursion}
use Rattle.std.specs.declared.cmp.Ordering.{Ordering}
use Rattle.std.specs.declared.cmp.Ordering.TheVariants.{Less, Equal, Greater}
use Rattle.base_sorted.specs.Sets.{by_order, has, with_item, without, inserted, union}

by_cases : {K : Type 0} (P : K → Type 0) (o : Ordering) (k x : K) (xs ys : List K) → P k → P x → AllByRecursion P xs → AllByRecursion P ys → AllByRecursion P (by_order o (k ∷ x ∷ xs) (x ∷ xs) (x ∷ ys))
by_cases P Less k x xs ys pk px pxs pys = (pk, (px, pxs))
by_cases P Equal k x xs ys pk px pxs pys = (px, pxs)
by_cases P Greater k x xs ys pk px pxs pys = (px, pys)

pub all_with : {K : Type 0} (P : K → Type 0) (cmp : K → K → Ordering) (k : K) (xs : List K) → P k → AllByRecursion P xs → AllByRecursion P (with_item cmp k xs)
all_with P cmp k [] p a = (p, tt)
all_with P cmp k (x ∷ xs) p a = by_cases P (cmp k x) k x xs (with_item cmp k xs) p a.0 a.1 (all_with P cmp k xs p a.1)

pub all_inserted : {K : Type 0} (P : K → Type 0) (cmp : K → K → Ordering) (ks xs : List K) → AllByRecursion P ks → AllByRecursion P xs → AllByRecursion P (inserted cmp ks xs)
all_inserted P cmp [] xs p a = a
all_inserted P cmp (k ∷ ks) xs p a = all_inserted P cmp ks (with_item cmp k xs) p.1 (all_with P cmp k xs p.0 a)

pub all_joined : {K : Type 0} (P : K → Type 0) (cmp : K → K → Ordering) (ks xs : List K) → AllByRecursion P ks → AllByRecursion P xs → AllByRecursion P (union cmp ks xs)
all_joined P cmp [] xs p a = a
all_joined P cmp (k ∷ ks) xs p a = all_with P cmp k (union cmp ks xs) p.0 (all_joined P cmp ks xs p.1 a)

-- what holds of all facts holds of those that are left
pub all_left : {K : Type 0} (P : K → Type 0) (cmp : K → K → Ordering) (xs ys : List K) → AllByRecursion P xs → AllByRecursion P (without cmp xs ys)
all_left P cmp [] ys a = tt
all_left P cmp (x ∷ xs) ys a = either_way (not (has cmp ys x)) (all_left P cmp xs ys a.1)
  where
    either_way : (b : Bool) → AllByRecursion P (without cmp xs ys) → AllByRecursion P (cond b (x ∷ without cmp xs ys) (without cmp xs ys))
    either_way true rest = (a.0, rest)
    either_way false rest = rest
