use Rattle.std.proofs.Common.{◌∙◌}
use Rattle.aud_facts.proofs.Conflicts.{falls_is}
use Rattle.aud_facts.proofs.conflict.first_stamp_order.Goals as goal

pub returns : goal.returns
returns g c = c.requires.survey.falls ∙ falls_is c.args._set.now c.requires.ordered c.requires.apart
