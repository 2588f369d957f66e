use Rattle.aud_history.proofs.RowLaws.{is_before-by_stamps}
use Rattle.aud_history.proofs.laws.before_is_by_stamps.Goals as goal

pub returns : goal.returns
returns c = is_before-by_stamps
