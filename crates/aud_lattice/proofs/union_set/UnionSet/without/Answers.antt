use Rattle.base_sorted.proofs.Leftovers.{contains_without}
use Rattle.aud_lattice.proofs.union_set.UnionSet.without.Goals as goal

pub returns-clause-members : goal.returns-clause-members
returns-clause-members g c =
    rw (c.in_ok-root.ensures, ← c.self.view_is, ← c.other.view_is)
    (contains_without g.met.T.Ord.total g.met.T.Key.exact _ _)
