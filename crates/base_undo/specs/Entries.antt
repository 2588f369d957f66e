-- Values under keys, as entries of which the least key is first.
use Rattle.std.specs.Prelude.{◌≡◌, ℤ, true, if◌then◌else◌, int_lt, List, [], ◌∷◌, Option, Some, None}
use Rattle.std.specs.declared.cmp.Ordering.{Ordering}
use Rattle.std.specs.Ordering.{int_eq, int_cmp, on, then_cmp}

-- the value under a key, if there is one
abbrev pub value_at : {X : Type 0} → List (ℤ × X) → ℤ → Option X
value_at [] k = None
value_at (e ∷ es) k = if int_eq k e.0 then Some e.1 else value_at es k

-- a value is put under a key: a new key comes in, in its place by size, and another value leaves
abbrev pub with_entry : {X : Type 0} → List (ℤ × X) → ℤ → X → List (ℤ × X)
with_entry [] k v = (k, v) ∷ []
with_entry (e ∷ es) k v = if int_lt k e.0 then (k, v) ∷ e ∷ es else (if int_eq k e.0 then (e.0, v) ∷ es else e ∷ with_entry es k v)

-- there is no value under the key any more
abbrev pub without_entry : {X : Type 0} → List (ℤ × X) → ℤ → List (ℤ × X)
without_entry [] k = []
without_entry (e ∷ es) k = if int_eq k e.0 then es else e ∷ without_entry es k

-- another value is under the key, if there is one
abbrev pub with_value : {X : Type 0} → List (ℤ × X) → ℤ → X → List (ℤ × X)
with_value [] k v = []
with_value (e ∷ es) k v = if int_eq k e.0 then (e.0, v) ∷ es else e ∷ with_value es k v

-- the keys are all above k
abbrev pub AreAbove : {X : Type 0} → ℤ → List (ℤ × X) → Type 0
AreAbove k [] = Unit {0}
AreAbove k (e ∷ es) = (int_lt k e.0 ≡ true) × AreAbove k es

-- the keys ascend
abbrev pub Ascend : {X : Type 0} → List (ℤ × X) → Type 0
Ascend [] = Unit {0}
Ascend (e ∷ es) = AreAbove e.0 es × Ascend es

-- entries by their keys, and then by what is under them
abbrev pub entry_cmp : {V : Type 0} → (V → V → Ordering) → ℤ × V → ℤ × V → Ordering
entry_cmp values = then_cmp (on (λ e. e.0) int_cmp) (on (λ e. e.1) values)
