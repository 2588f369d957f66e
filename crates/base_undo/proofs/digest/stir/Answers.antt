use Rattle.base_undo.specs.Digests.{stirred}
use Rattle.std.proofs.Common.{rules}
use Rattle.base_undo.proofs.digest.stir.Goals as goal

pub returns : goal.returns
unfolding stirred
returns c = search rules
