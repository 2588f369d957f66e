use Rattle.aud_split.proofs.Pooled.{pool_ended}
use Rattle.aud_split.proofs.laws.pool_ends_all.Goals as goal

pub returns : goal.returns
returns c = pool_ended
