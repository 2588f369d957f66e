use Rattle.std.proofs.Common.{◌≡◌, ◌↔◌, length}
use Rattle.base_trees.specs.Trees.{items_of}
use Rattle.base_trees.proofs.merge.same.Given as goal

abbrev pub invariant-each : goal.invariant-each
invariant-each g l = (items_of l.xs ≡ items_of l.ys) ↔ (l.first ≡ l.second)

abbrev pub decreases-each : goal.decreases-each
decreases-each g l = length l.first
