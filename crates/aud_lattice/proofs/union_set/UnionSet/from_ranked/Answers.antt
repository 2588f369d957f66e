use Rattle.base_sorted.proofs.Members.{inserted_is}
use Rattle.aud_lattice.proofs.union_set.UnionSet.from_ranked.Goals as goal

pub returns-clause-each : goal.returns-clause-each
returns-clause-each g c =
    let made = c.in_ok-items.ensures in
    let near = c.in_ok-ranked.ensures in
    rw c.in_ok-root.ensures
    (inserted_is g.met.T.Ord.total g.met.T.Key.exact c.args.items.items _ made.sorted (λ x. (λ h. (near x).0 ((made.members x).0 h), λ h. (made.members x).1 ((near x).1 h))))

pub returns-clause-members : goal.returns-clause-members
returns-clause-members g c =
    let made = c.in_ok-items.ensures in
    let near = c.in_ok-ranked.ensures in
    rw c.in_ok-root.ensures (λ x. (λ h. (near x).0 ((made.members x).0 h), λ h. (made.members x).1 ((near x).1 h)))
