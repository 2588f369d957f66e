use Rattle.aud_lattice.proofs.cover.Cover.without.Goals as goal

pub returns-clause-members : goal.returns-clause-members
returns-clause-members g c = rw (← c.self.view_is, ← c.other.view_is) c.in_ok-root.ensures.members
