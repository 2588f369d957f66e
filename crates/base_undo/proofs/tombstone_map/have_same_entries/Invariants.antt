use Rattle.std.proofs.Common.{◌≡◌, length}
use Rattle.base_undo.specs.Keeps.{entries_in}
use Rattle.base_undo.proofs.tombstone_map.have_same_entries.Given as goal

abbrev pub invariant-loop-b : goal.invariant-loop-b
invariant-loop-b g l = record { on : entries_in l.initial.a ≡ entries_in l.initial.b → entries_in l.a ≡ entries_in l.b; back : entries_in l.a ≡ entries_in l.b → entries_in l.initial.a ≡ entries_in l.initial.b }

abbrev pub decreases-loop-b : goal.decreases-loop-b
decreases-loop-b g l = length l.a
