use Rattle.std.proofs.Common.{length}
use Rattle.base_trees.specs.Trees.{items_of}
use Rattle.base_trees.proofs.tree.+with.Given as goal

abbrev pub decreases-with : goal.decreases-with
decreases-with g l = length (items_of l.tree.now)
