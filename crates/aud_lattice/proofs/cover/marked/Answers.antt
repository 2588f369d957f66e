use Rattle.std.proofs.Common.{◌∙◌}
use Rattle.aud_lattice.proofs.Pathed.{marks}
use Rattle.aud_lattice.proofs.cover.marked.Goals as goal

pub returns : goal.returns
returns g c = c.mark.ensures ∙ marks g.D.Ord.cmp g.met.D.Ord.total g.met.D.Key.exact c.args.list.now c.args.root.now c.requires
