use Rattle.aud_lattice.proofs.Pathed.{all_within}
use Rattle.aud_lattice.proofs.cover.covers_each.Goals as goal

pub returns : goal.returns
returns g c =
    let h = all_within g.D.Ord.cmp g.met.D.Ord.total g.met.D.Key.exact c.args.root.now c.args.other.now c.requires.root c.requires.other in
    (λ e. h.0 (c.is_within.ensures.0 e), λ all. c.is_within.ensures.1 (h.1 all))
