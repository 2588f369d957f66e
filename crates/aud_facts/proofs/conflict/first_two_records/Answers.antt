use Rattle.std.proofs.Common.{◌∙◌}
use Rattle.aud_facts.proofs.Conflicts.{twins_is}
use Rattle.aud_facts.proofs.conflict.first_two_records.Goals as goal

pub returns : goal.returns
returns g c = c.requires.survey.twins ∙ twins_is c.args._set.now c.requires.ordered
