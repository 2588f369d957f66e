use Rattle.std.proofs.Common.{length}
use Rattle.base_trees.specs.Trees.{items_of}
use Rattle.base_trees.proofs.merge.+without.Given as goal

abbrev pub decreases-without : goal.decreases-without
decreases-without g l = length (items_of l.xs.now)
