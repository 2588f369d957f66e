-- A total order of the states of all objects.
use Rattle.std.specs.Prelude.{◌≡◌, List}
use Rattle.std.specs.declared.cmp.Ordering.{Ordering}
use Rattle.std.specs.declared.cmp.Ordering.TheVariants.{Equal}
use Rattle.std.specs.Cmp.{IsTotalOrder}
use Rattle.std.specs.Cmp.Lexicographic.{slice_cmp}
use Rattle.aud_kinds.specs.Objects.{ObjState}
use Rattle.aud_kinds.specs.Orders.{state_cmp}

-- states of all objects, the first object first
abbrev pub store_cmp : List ObjState → List ObjState → Ordering
store_cmp = slice_cmp state_cmp

-- the order of stores is total, and ties just where the states are the same
abbrev pub StoresAreOrdered : Type 0
StoresAreOrdered = IsTotalOrder store_cmp × ((a b : List ObjState) → store_cmp a b ≡ Equal → a ≡ b) × ((a : List ObjState) → store_cmp a a ≡ Equal)
