use Rattle.std.proofs.Common.{rules}
use Rattle.cert_earlier.specs.PrefixKeys.{stirred}
use Rattle.cert_earlier.proofs.prefix_key.stir.Goals as goal

pub returns : goal.returns
unfolding stirred
returns c = search rules
