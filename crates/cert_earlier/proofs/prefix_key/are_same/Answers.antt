use Rattle.cert_earlier.proofs.Keys.{same-pointwise}
use Rattle.cert_earlier.proofs.prefix_key.are_same.Goals as goal

pub returns : goal.returns
returns c = same-pointwise c.args.a.now c.args.b.now c.eq.result c.eq.ensures
