use Rattle.aud_cover.proofs.Refuting.{closed-refuted}
use Rattle.aud_cover.proofs.laws.closed_is_refuted.Goals as goal

pub returns : goal.returns
returns c = closed-refuted
