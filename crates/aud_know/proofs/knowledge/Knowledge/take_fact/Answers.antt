use Rattle.std.specs.Prelude.{◌≡◌, None}
use Rattle.std.proofs.Common.{rules}
use Rattle.aud_event.specs.Facts.{first_fact_fault}
use Rattle.aud_know.specs.Known.{linked}
use Rattle.aud_know.proofs.Keeping.{fact_keeps, takes_fact}
use Rattle.aud_know.proofs.knowledge.Knowledge.take_fact.Goals as goal

pub invariant_of-self-2 : goal.invariant_of-self-2
invariant_of-self-2 g c =
    let fits : first_fact_fault c.self.inside.facts.plan c.args.next.now ≡ None = search rules in
    rw c.in_ok-insert.ensures.ok
    (fact_keeps c.sealed_is_all.ensures c.self.inside.facts.plan (record { facts = c.self.inside.facts.facts; cover = c.self.inside.cover.value; witness = linked c.self.inside.witness })
    c.args.next.now c.self.invariant fits)

pub returns-clause-taken : goal.returns-clause-taken
returns-clause-taken g c =
    rw (c.in_ok-insert.ensures.ok, ← c.self.view_is)
    (takes_fact (record { facts = c.self.inside.facts.facts; cover = c.self.inside.cover.value; witness = linked c.self.inside.witness }) c.args.next.now c.self.invariant.normal)
