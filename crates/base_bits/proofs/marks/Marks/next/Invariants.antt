use Rattle.std.specs.Prelude.{◌≤◌, ◌-◌}
use Rattle.base_bits.specs.Marked.{marks_of}
use Rattle.base_bits.proofs.Marking.{AreUnmarked}
use Rattle.base_bits.proofs.marks.Marks.next.Given as goal

abbrev pub invariant-loop-place : goal.invariant-loop-place
invariant-loop-place g l = (l.from ≤ l.place) × AreUnmarked (marks_of l.self-inside.words.items l.self-inside.count) l.from l.place

abbrev pub decreases-loop-place : goal.decreases-loop-place
decreases-loop-place g l = l.self-inside.count - l.place
