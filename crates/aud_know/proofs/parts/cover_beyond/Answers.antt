use Rattle.aud_know.proofs.parts.cover_beyond.Goals as goal

pub returns-clause-new : goal.returns-clause-new
returns-clause-new g c = rw c.in_ok-new.ensures.ok (rw (c.deref.ensures, c.deref-2.ensures) at c.in_ok-left.ensures.members)
