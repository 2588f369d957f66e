-- Which objects transactions have executions on.
use Rattle.std.specs.Prelude.{◌≡◌, ℕ, Bool, true, nat_eq, List, Some, slice_get}
use Rattle.std.specs.List.{list_any}
use Rattle.aud_object.specs.declared.execution.Execution.{Execution}
use Rattle.aud_history.specs.Table.{RowOf}

-- some execution is on the object
abbrev pub mentions : ℕ → List Execution → Bool
mentions x es = list_any (λ e. nat_eq e.object x) es

-- what stands at the object's place is a mark, if something stands there
abbrev pub IsMarked : List Bool → ℕ → Type 0
IsMarked marks x = (b : Bool) → slice_get marks x ≡ Some b → b ≡ true

-- each row's marks are of the objects that its executions are on
abbrev pub AreMarked : List RowOf → List (List Bool) → Type 0
AreMarked rows touched =
    (k : ℕ) (row : RowOf) (marks : List Bool) → slice_get rows k ≡ Some row → slice_get touched k ≡ Some marks → (x : ℕ) → mentions x row.block.executions ≡ true → IsMarked marks x
