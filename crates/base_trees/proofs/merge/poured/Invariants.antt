use Rattle.std.proofs.Common.{◌≡◌}
use Rattle.std.specs.List.Sorted.{IsStrictlySortedBy}
use Rattle.base_sorted.specs.Sets.{inserted}
use Rattle.base_trees.specs.Trees.{items_of}
use Rattle.base_trees.proofs.merge.poured.Given as goal

abbrev pub invariant-loop-item : goal.invariant-loop-item
invariant-loop-item g l = record {
  sorted : IsStrictlySortedBy g.T.Ord.cmp (items_of l.all);
  rest : inserted g.T.Ord.cmp l.item-iterator (items_of l.all) ≡ inserted g.T.Ord.cmp (items_of l.from) (items_of l.into);
}
