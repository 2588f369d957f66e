use Rattle.std.proofs.Common.{◌≡◌, length}
use Rattle.base_undo.specs.Digests.{digest_entries}
use Rattle.base_undo.specs.Keeps.{entries_in}
use Rattle.base_undo.proofs.tombstone_map.digest_left.Given as goal

abbrev pub invariant-loop-key : goal.invariant-loop-key
invariant-loop-key g l = digest_entries g.V.Value.stirs l.digest (entries_in l.left) ≡ digest_entries g.V.Value.stirs l.fn.start (entries_in l.fn.left)

abbrev pub decreases-loop-key : goal.decreases-loop-key
decreases-loop-key g l = length l.left
