use Rattle.aud_witness.proofs.WalkLemmas.{walks-say}
use Rattle.aud_witness.proofs.laws.walks_are_good.Goals as goal

pub returns : goal.returns
returns c = walks-say
