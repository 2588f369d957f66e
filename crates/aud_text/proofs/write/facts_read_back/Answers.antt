use Rattle.aud_event.proofs.Names.{number_of-own}
use Rattle.aud_text.proofs.Back.{back}
use Rattle.aud_text.proofs.Sound.{sound}
use Rattle.aud_text.proofs.write.facts_read_back.Goals as goal

pub returns-clause-judged : goal.returns-clause-judged
returns-clause-judged c plan f is = (back plan f (sound plan is.plan_is) number_of-own is.fits is.taken).judges

pub returns-clause-short : goal.returns-clause-short
returns-clause-short c plan f is = (back plan f (sound plan is.plan_is) number_of-own is.fits is.taken).short
