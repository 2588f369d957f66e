use Rattle.std.proofs.Common.{◌∙◌, sym}
use Rattle.aud_facts.proofs.Conflicts.{past_is}
use Rattle.aud_facts.proofs.Surveys.{never_past}
use Rattle.aud_facts.proofs.conflict.first_past_count.Goals as goal

pub returns-then-is_overrun : goal.returns-then-is_overrun
returns-then-is_overrun g c = c.past_count.ensures ∙ past_is c.args.set.now c.requires.ordered

pub returns-else-is_overrun : goal.returns-else-is_overrun
returns-else-is_overrun g c =
    sym (never_past c.args.set.now c.args.set.now c.args.survey.now c.requires.within c.requires.survey.bounds
    (λ log n lt e. c.requires.survey.tops log n lt ∙ e) (c.is_overrun.ensures c.if-is_overrun.false))
    ∙ past_is c.args.set.now c.requires.ordered
