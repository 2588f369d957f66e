use Rattle.std.proofs.Common.{◌∙◌, sym}
use Rattle.aud_facts.proofs.Conflicts.{twice_is}
use Rattle.aud_facts.proofs.Surveys.{never_twice}
use Rattle.aud_facts.proofs.conflict.first_stamp_twice.Goals as goal

pub returns-then-survey : goal.returns-then-survey
returns-then-survey g c = c.stamp_twice.ensures ∙ twice_is c.args.set.now c.requires.ordered c.requires.apart

pub returns-else-survey : goal.returns-else-survey
returns-else-survey g c =
    sym (never_twice c.args.set.now c.args.set.now c.args.marks.now c.requires.within c.requires.stamps (c.requires.calm c.if-survey.false))
    ∙ twice_is c.args.set.now c.requires.ordered c.requires.apart
