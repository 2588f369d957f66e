use Rattle.std.specs.List.Sorted.{IsStrictlySortedBy}
use Rattle.aud_lattice.proofs.union_set.UnionSet.empty.Goals as goal

-- no items are sorted
pub invariant_of-result : goal.invariant_of-result
unfolding IsStrictlySortedBy
invariant_of-result g c = tt
