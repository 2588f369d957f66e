use Rattle.std.proofs.Common.{length}
use Rattle.base_trees.specs.Trees.{items_of}
use Rattle.base_trees.proofs.link.+split.Given as goal

abbrev pub decreases-split : goal.decreases-split
decreases-split g l = length (items_of l.tree.now)
