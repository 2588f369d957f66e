-- A list in parts, by how its elements stand to one of them.
use Rattle.std.specs.Prelude.{◌≡◌, ◌+◌, Bool, true, false, List, ◌∷◌, ◌++◌, length}
use Rattle.std.specs.declared.cmp.Ordering.{Ordering}
use Rattle.std.specs.declared.cmp.Ordering.TheVariants.{Less}
use Rattle.std.specs.List.{AllByRecursion}

-- k before a list, if it is there
abbrev pub if_there : {T : Type 0} → Bool → T → List T → List T
if_there true k xs = k ∷ xs
if_there false k xs = xs

-- a list cut at k: what is less, whether k is there, what is greater
pub record IsCut {T : Type 0} (cmp : T → T → Ordering) (k : T) (all before : List T) (is_there : Bool) (after : List T) : Type 0 where
  pub parts : all ≡ before ++ if_there is_there k after
  pub less : AllByRecursion (λ x. cmp x k ≡ Less) before
  pub greater : AllByRecursion (λ x. cmp k x ≡ Less) after

-- where the parts have as many elements as a list has, they are that list
abbrev pub AreAllIfAsMany : {T : Type 0} → List T → List T → T → List T → Type 0
AreAllIfAsMany all left k right = length left + length right + 1 ≡ length all → all ≡ left ++ k ∷ right
