use Rattle.std.proofs.Common.{◌≡◌, ◌≤◌, length}
use Rattle.base_undo.specs.Keeps.{entries_in}
use Rattle.base_undo.proofs.tombstone_map.next_entry.Given as goal

abbrev pub invariant-loop-key : goal.invariant-loop-key
invariant-loop-key g l = (entries_in l.initial.left ≡ entries_in l.left) × (length l.left ≤ length l.initial.left)
