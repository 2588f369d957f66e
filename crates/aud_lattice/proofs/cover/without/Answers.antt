use Rattle.std.proofs.Common.{◌≡◌}
use Rattle.aud_lattice.specs.Walks.{leads, but, IsTrie}
use Rattle.base_values.proofs.Results.{if_both}
use Rattle.aud_lattice.proofs.Pathed.{cover-paths}
use Rattle.aud_lattice.proofs.Leads.{left_members}
use Rattle.aud_lattice.proofs.cover.without.Goals as goal

pub returns-clause-cover : goal.returns-clause-cover
returns-clause-cover g c =
    let R = g.D.Ord.cmp in
    if_both c.without.result (IsTrie R) (IsTrie R) _ (λ t good _. cover-paths R g.met.D.Ord.total g.met.D.Key.exact t good) c.without.ensures.good c.without.ensures.good

pub returns-clause-members : goal.returns-clause-members
returns-clause-members g c =
    let R = g.D.Ord.cmp in
    let x = c.args.root.now in
    let y = c.args.other.now in
    if_both c.without.result (IsTrie R) (λ t. leads R t ≡ but (leads R x) (leads R y)) _
    (λ t good is. left_members R g.met.D.Ord.total g.met.D.Key.exact x y t c.requires.root c.requires.other good is)
    c.without.ensures.good c.without.ensures.left
