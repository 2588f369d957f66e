use Rattle.std.proofs.Common.{arith}
use Rattle.base_trees.proofs.Parts.{part_left, part_right}
use Rattle.base_trees.proofs.iter.+part_at.Goals as goal

pub returns-then-place-before-2-clause-part : goal.returns-then-place-before-2-clause-part
returns-then-place-before-2-clause-part g t c =
    rw (c.in-Some.is, ← c.deref.ensures, ← c.deref-2.view_is) (part_left _ _ _ _ _ c.part_at.ensures.part)

pub returns-else-place-before-2-clause-part : goal.returns-else-place-before-2-clause-part
returns-else-place-before-2-clause-part g t c =
    rw (c.in-Some.is, ← c.deref.ensures, ← c.deref-2.view_is) (part_right _ _ _ _ _ _ (omega (arith, c.count-before.ensures.is)) c.part_at-skip.ensures.part)
