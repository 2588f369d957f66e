use Rattle.aud_know.proofs.Exact.{norm_exact}
use Rattle.aud_know.proofs.laws.norm_is_exact.Goals as goal

pub returns : goal.returns
returns c = norm_exact
