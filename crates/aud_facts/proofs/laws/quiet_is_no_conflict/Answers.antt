use Rattle.aud_facts.proofs.Quiet.{quiet_is_no_conflict}
use Rattle.aud_facts.proofs.laws.quiet_is_no_conflict.Goals as goal

pub returns : goal.returns
returns c = quiet_is_no_conflict
