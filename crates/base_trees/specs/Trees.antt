-- What a tree holds.
use Rattle.std.proofs.Common.{◌≡◌, ℕ, ◌+◌, ◌*◌, ◌<◌, ◌≤◌, true, false, MatchOption, drop, List, [], ◌∷◌, ◌++◌, length, length-append, Option, None, Some, sym, ap, arith}
use Rattle.std.specs.declared.cmp.Ordering.{Ordering}
use Rattle.std.specs.Arc.{arc_value}
use Rattle.std.specs.declared.sync.Arc.{Arc}
use Rattle.base_sorted.specs.Sets.{has, with_item}

-- the items of the tree under a link, least first
abbrev pub items_of : {T Z : Type 0} → Option (Arc (List T) Z) → List T
items_of None = []
items_of (Some a) = arc_value a

-- neither side is more than three times the other, each counted with one more
abbrev pub AreBalanced : ℕ → ℕ → Type 0
AreBalanced l r = (l + 1 ≤ 3 * (r + 1)) × (r + 1 ≤ 3 * (l + 1))

-- a side is more than three times the other, each counted with one more, and no more than thirteen thirds of it
abbrev pub IsHeavy : ℕ → ℕ → Type 0
IsHeavy heavy light = (3 * (light + 1) < heavy + 1) × (3 * (heavy + 1) ≤ 13 * (light + 1))

-- neither side is more than thirteen thirds of the other: so it is where one side of a balanced tree took in a tree that is less
-- than a third of the whole
abbrev pub NearlyBalanced : ℕ → ℕ → Type 0
NearlyBalanced l r = (3 * (l + 1) ≤ 13 * (r + 1)) × (3 * (r + 1) ≤ 13 * (l + 1))

-- the sides of a heavy tree beside a light one: the inner one, which is next to the light one, is not the lighter of the two
abbrev pub IsToPart : ℕ → ℕ → ℕ → Type 0
IsToPart outer inner light = IsHeavy (outer + inner + 1) light × (2 * (outer + 1) ≤ inner + 1) × AreBalanced outer inner

-- a tree of the items with x, where x is none of them; else no tree
abbrev pub IsWithNew : {T Z : Type 0} → (T → T → Ordering) → T → List T → Option (Option (Arc (List T) Z)) → Type 0
IsWithNew cmp x items all = MatchOption all (has cmp items x ≡ true) (λ new. (has cmp items x ≡ false) × (items_of new ≡ with_item cmp x items))

-- what stands at place n
abbrev pub Found : {T : Type 0} → List T → ℕ → Option T → Type 0
Found xs n None = drop n xs ≡ []
Found xs n (Some x) = drop n xs ≡ x ∷ drop (n + 1) xs

-- a part of a list that begins at a place
pub record IsPart {T : Type 0} (all : List T) (skip : ℕ) (part : List T) : Type 0 where
  pub fits : skip + length part ≤ length all
  pub found : (n m : ℕ) (x : Option T) → m ≡ skip + n → n < length part → Found part n x → Found all m x

-- where a list's end is as long as the list, it is the list
pub all_taken : {T : Type 0} (xs front end : List T) → xs ≡ front ++ end → length end ≡ length xs → end ≡ xs
all_taken xs [] end e same = sym e
all_taken xs (x ∷ front) end e same = absurd (omega (arith, length-append (x ∷ front) end, ap length e))
