use Rattle.aud_split.proofs.Closing.{tasks_closed}
use Rattle.aud_split.proofs.laws.tasks_close.Goals as goal

pub returns : goal.returns
returns c = tasks_closed
