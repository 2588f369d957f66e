use Rattle.aud_lattice.proofs.Leads.{bare_paths}
use Rattle.aud_lattice.proofs.cover.is_bare.Goals as goal

pub returns : goal.returns
returns g c = bare_paths g.D.Ord.cmp g.met.D.Ord.total g.met.D.Key.exact c.is_bare.result c.args.root.now c.requires c.is_bare.ensures
