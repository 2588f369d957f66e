use Rattle.base_trees.proofs.bulk.+built.Given as goal

abbrev pub decreases-built : goal.decreases-built
decreases-built g l = l.size
