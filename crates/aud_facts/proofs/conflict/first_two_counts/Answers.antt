use Rattle.std.proofs.Common.{◌∙◌}
use Rattle.aud_facts.proofs.Conflicts.{marks_twice_is}
use Rattle.aud_facts.proofs.conflict.first_two_counts.Goals as goal

pub returns : goal.returns
returns g c = c.requires.survey.two_counts ∙ marks_twice_is c.args._set.now c.requires.ordered
