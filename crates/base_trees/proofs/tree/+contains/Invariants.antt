use Rattle.std.proofs.Common.{length}
use Rattle.base_trees.specs.Trees.{items_of}
use Rattle.base_trees.proofs.tree.+contains.Given as goal

abbrev pub decreases-contains : goal.decreases-contains
decreases-contains g l = length (items_of l.tree.now)
