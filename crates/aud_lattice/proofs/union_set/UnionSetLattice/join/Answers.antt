use Rattle.base_sorted.proofs.Members.{contains_joined}
use Rattle.aud_lattice.proofs.union_set.UnionSetLattice.join.Goals as goal

pub returns-clause-members : goal.returns-clause-members
returns-clause-members g c =
    rw (← c.self.view_is, ← c.other.view_is) (contains_joined g.met.T.Ord.total g.met.T.Key.exact _ _ _ c.in_ok-root.ensures)
