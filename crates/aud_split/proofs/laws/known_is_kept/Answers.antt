use Rattle.aud_split.proofs.Keeping.{known_kept}
use Rattle.aud_split.proofs.laws.known_is_kept.Goals as goal

pub returns : goal.returns
returns c = known_kept
