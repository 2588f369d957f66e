-- A total order of what objects hold: by kind, then by the numbers that are held, then by the entries of a map.
use Rattle.std.specs.Prelude.{ℕ, ℤ, List, [], ◌∷◌}
use Rattle.std.specs.declared.cmp.Ordering.{Ordering}
use Rattle.std.specs.Ordering.{nat_cmp, int_cmp, on, then_cmp}
use Rattle.std.specs.Cmp.Lexicographic.{slice_cmp}
use Rattle.base_undo.specs.Entries.{entry_cmp}
use Rattle.aud_kinds.specs.Objects.{ObjState, register, counter, set_of, queue, map_of}

-- the place of a state's kind among the kinds
abbrev pub place_of : ObjState → ℕ
place_of (register v) = 1
place_of (counter v) = 2
place_of (set_of s) = 3
place_of (queue q) = 4
place_of (map_of m) = 5

-- the numbers that are held; a map has entries instead
abbrev pub numbers_of : ObjState → List ℤ
numbers_of (register v) = v ∷ []
numbers_of (counter v) = v ∷ []
numbers_of (set_of s) = s
numbers_of (queue q) = q
numbers_of (map_of m) = []

abbrev pub entries_of : ObjState → List (ℤ × ℤ)
entries_of (map_of m) = m
entries_of _ = []

abbrev pub state_cmp : ObjState → ObjState → Ordering
state_cmp = then_cmp (on place_of nat_cmp) (then_cmp (on numbers_of (slice_cmp int_cmp)) (on entries_of (slice_cmp (entry_cmp int_cmp))))
