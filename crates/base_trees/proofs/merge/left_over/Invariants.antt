use Rattle.std.proofs.Common.{◌≡◌, ◌++◌}
use Rattle.base_sorted.specs.Sets.{without}
use Rattle.base_trees.specs.Trees.{items_of}
use Rattle.base_trees.proofs.merge.left_over.Given as goal

abbrev pub invariant-loop-item : goal.invariant-loop-item
invariant-loop-item g l = l.all.items ++ without g.T.Ord.cmp l.item-iterator (items_of l.ys) ≡ without g.T.Ord.cmp (items_of l.xs) (items_of l.ys)
