use Rattle.base_sorted.proofs.Members.{inserted_is}
use Rattle.aud_lattice.proofs.union_set.UnionSet.from_vec.Goals as goal

pub returns-clause-each : goal.returns-clause-each
returns-clause-each g c =
    let made = c.in_ok-items.ensures in
    rw c.in_ok-root.ensures (inserted_is g.met.T.Ord.total g.met.T.Key.exact c.args.items.items _ made.sorted made.members)

pub returns-clause-members : goal.returns-clause-members
returns-clause-members g c = rw c.in_ok-root.ensures c.in_ok-items.ensures.members
