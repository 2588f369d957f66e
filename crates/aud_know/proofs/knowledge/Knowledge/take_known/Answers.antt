use Rattle.std.specs.Prelude.{◌≡◌}
use Rattle.aud_know.specs.Known.{linked}
use Rattle.aud_know.proofs.Keeping.{known_keeps, takes_known}
use Rattle.aud_know.proofs.knowledge.Knowledge.take_known.Goals as goal

pub invariant_of-self-2 : goal.invariant_of-self-2
invariant_of-self-2 g c =
    let plans : c.other.inside.facts.plan ≡ c.self.inside.facts.plan = rw (← c.self.view_is, ← c.other.view_is) at c.requires in
    rw (c.in_ok-join.ensures.ok, c.in_ok-cover.ensures, c.in_ok-witness.ensures)
    (known_keeps c.sealed_is_all.ensures c.self.inside.facts.plan (record { facts = c.self.inside.facts.facts; cover = c.self.inside.cover.value; witness = linked c.self.inside.witness })
    (record { facts = c.other.inside.facts.facts; cover = c.other.inside.cover.value; witness = linked c.other.inside.witness }) c.other.inside.facts.plan c.self.invariant c.other.invariant plans)

pub returns-clause-taken : goal.returns-clause-taken
returns-clause-taken g c =
    rw (c.in_ok-join.ensures.ok, c.in_ok-cover.ensures, c.in_ok-witness.ensures, ← c.self.view_is, ← c.other.view_is)
    (takes_known (record { facts = c.self.inside.facts.facts; cover = c.self.inside.cover.value; witness = linked c.self.inside.witness })
    (record { facts = c.other.inside.facts.facts; cover = c.other.inside.cover.value; witness = linked c.other.inside.witness }) c.other.invariant.normal)
