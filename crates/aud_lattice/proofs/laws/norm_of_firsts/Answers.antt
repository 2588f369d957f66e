use Rattle.aud_lattice.proofs.Normed.{norm_of_firsts}
use Rattle.aud_lattice.proofs.laws.norm_of_firsts.Goals as goal

pub returns : goal.returns
returns g c = norm_of_firsts g.met.D.Ord.total g.met.D.Key.exact
