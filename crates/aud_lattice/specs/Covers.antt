-- A cover: lists of which none begins another, least first.
use Rattle.std.specs.Prelude.{◌≡◌, ◌↔◌, ◌⊎◌, Bool, true, false, ◌&&◌, List, [], ◌∷◌, if◌then◌else◌}
use Rattle.std.specs.declared.cmp.Ordering.{Ordering}
use Rattle.std.specs.declared.cmp.Ordering.TheVariants.{Equal}
use Rattle.std.specs.Ordering.{is_eq, ordering_then}
use Rattle.std.specs.List.{list_any, Contains}
use Rattle.std.specs.List.Sorted.{IsStrictlySortedBy}
use Rattle.base_sorted.specs.Sets.{by_order}

-- the order of the first elements that differ. Lists of which one begins the other tie
abbrev pub cover_cmp : {D : Type 0} → (D → D → Ordering) → List D → List D → Ordering
cover_cmp cmp [] ys = Equal
cover_cmp cmp (x ∷ xs) [] = Equal
cover_cmp cmp (x ∷ xs) (y ∷ ys) = ordering_then (cmp x y) (cover_cmp cmp xs ys)

-- whether p is a beginning of q
abbrev pub begins : {D : Type 0} → (D → D → Ordering) → List D → List D → Bool
begins cmp [] q = true
begins cmp (x ∷ p) [] = false
begins cmp (x ∷ p) (y ∷ q) = is_eq (cmp x y) && begins cmp p q

-- none begins another, and they stand least first
abbrev pub IsCover : {D : Type 0} → (D → D → Ordering) → List (List D) → Type 0
IsCover cmp ps = IsStrictlySortedBy (cover_cmp cmp) ps

-- whether one of the lists is a beginning of q
abbrev pub covers : {D : Type 0} → (D → D → Ordering) → List (List D) → List D → Bool
covers cmp ps q = list_any (λ p. begins cmp p q) ps

-- whether q is a beginning of one of the lists
abbrev pub extends : {D : Type 0} → (D → D → Ordering) → List (List D) → List D → Bool
extends cmp ps q = list_any (λ p. begins cmp q p) ps

-- the cover with q: q where none begins it, without those that q begins
abbrev pub with_list : {D : Type 0} → (D → D → Ordering) → List D → List (List D) → List (List D)
with_list cmp q [] = q ∷ []
with_list cmp q (p ∷ ps) = by_order (cover_cmp cmp q p) (q ∷ p ∷ ps) (if begins cmp p q then p ∷ ps else with_list cmp q ps) (p ∷ with_list cmp q ps)

-- the normal form of two covers together
abbrev pub cover_union : {D : Type 0} → (D → D → Ordering) → List (List D) → List (List D) → List (List D)
cover_union cmp [] qs = qs
cover_union cmp (p ∷ ps) qs = with_list cmp p (cover_union cmp ps qs)

-- the cover of any lists
abbrev pub normal_form : {D : Type 0} → (D → D → Ordering) → List (List D) → List (List D)
normal_form cmp ps = cover_union cmp ps []

-- p is one of the lists, and none of them is a proper beginning of it
pub record IsFirst {D : Type 0} (cmp : D → D → Ordering) (ps : List (List D)) (p : List D) : Type 0 where
  pub there : Contains ps p
  pub first : (q : List D) → Contains ps q → begins cmp q p ≡ true → q ≡ p

-- a beginning of q is one of the lists; q itself counts
abbrev pub HasBeginning : {D : Type 0} → (D → D → Ordering) → List (List D) → List D → Type 0
HasBeginning {D} cmp ps q = (p : List D) × Contains ps p × (begins cmp p q ≡ true)

-- q is a beginning of one of the lists
abbrev pub BeginsOne : {D : Type 0} → (D → D → Ordering) → List (List D) → List D → Type 0
BeginsOne {D} cmp ps q = (p : List D) × Contains ps p × (begins cmp q p ≡ true)

-- p is in either, and nothing in either is a proper beginning of it
pub record IsKept {D : Type 0} (cmp : D → D → Ordering) (ps qs : List (List D)) (p : List D) : Type 0 where
  pub there : Contains ps p ⊎ Contains qs p
  pub least : (q : List D) → Contains ps q ⊎ Contains qs q → begins cmp q p ≡ true → q ≡ p

-- the members of what is left are those of ours that are none of theirs
abbrev pub IsWithout : {D : Type 0} → List (List D) → List (List D) → List (List D) → Type 0
IsWithout {D} ours theirs left = (p : List D) → Contains left p ↔ (Contains ours p × ¬ (Contains theirs p))
