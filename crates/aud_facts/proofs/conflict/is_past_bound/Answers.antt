use Rattle.aud_facts.proofs.conflict.is_past_bound.Goals as goal

pub returns-in-None : goal.returns-in-None
returns-in-None g c = let known = c.requires.bounds c.args.log c.args.n c.requires.log in rw c.in-None.is at known

pub returns-in-Some : goal.returns-in-Some
returns-in-Some g c = let known = c.requires.bounds c.args.log c.args.n c.requires.log in rw c.in-Some.is at known
