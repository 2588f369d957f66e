use Rattle.std.proofs.Common.{◌≡◌, length}
use Rattle.std.specs.Cmp.Lexicographic.{slice_cmp}
use Rattle.base_undo.specs.Keeps.{entries_in}
use Rattle.base_undo.specs.Entries.{entry_cmp}
use Rattle.base_undo.proofs.tombstone_map.order_left.Given as goal

abbrev pub invariant-loop-b : goal.invariant-loop-b
invariant-loop-b g l = slice_cmp (entry_cmp g.V.Value.orders) (entries_in l.initial.a) (entries_in l.initial.b) ≡ slice_cmp (entry_cmp g.V.Value.orders) (entries_in l.a) (entries_in l.b)

abbrev pub decreases-loop-b : goal.decreases-loop-b
decreases-loop-b g l = length l.a
