use Rattle.aud_witness.proofs.Selected.{visible-is_seen}
use Rattle.aud_witness.proofs.laws.visible_is_selection.Goals as goal

pub returns : goal.returns
returns c = visible-is_seen
