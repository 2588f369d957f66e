use Rattle.std.proofs.Common.{◌≡◌, ◌++◌}
use Rattle.base_trees.specs.Trees.{items_of}
use Rattle.base_trees.proofs.merge.push_all.Given as goal

abbrev pub invariant-loop-item : goal.invariant-loop-item
invariant-loop-item g l = l.all.items ++ l.item-iterator ≡ l.initial.all.items ++ items_of l.tree
