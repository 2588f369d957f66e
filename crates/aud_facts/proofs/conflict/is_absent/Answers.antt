use Rattle.aud_facts.specs.Status.{has_stamp}
use Rattle.aud_facts.proofs.Lists.{any-count, up-none}
use Rattle.aud_facts.proofs.conflict.is_absent.Goals as goal

pub returns : goal.returns
returns g c = rw (any-count (has_stamp c.args.stamp) c.args._set.now) (up-none _ _ (c.requires.stamps c.args.stamp c.requires.stamp))
