use Rattle.std.proofs.Common.{length}
use Rattle.base_trees.specs.Trees.{items_of}
use Rattle.base_trees.proofs.merge.+merged.Given as goal

abbrev pub decreases-merged : goal.decreases-merged
decreases-merged g l = length (items_of l.into.now)
