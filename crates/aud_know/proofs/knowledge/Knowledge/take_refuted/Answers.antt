use Rattle.std.specs.Prelude.{◌≡◌}
use Rattle.aud_know.specs.Known.{linked}
use Rattle.aud_know.proofs.Keeping.{refuted_keeps, takes_refuted}
use Rattle.aud_know.proofs.knowledge.Knowledge.take_refuted.Goals as goal

pub invariant_of-self-2 : goal.invariant_of-self-2
invariant_of-self-2 g c =
    let plans : c.args.facts.now.plan ≡ c.self.inside.facts.plan = rw (← c.self.view_is) at c.requires.plan in
    rw (c.in_ok-join.ensures.ok, c.in_ok-cover.ensures)
    (refuted_keeps c.sealed_is_all.ensures c.self.inside.facts.plan (record { facts = c.self.inside.facts.facts; cover = c.self.inside.cover.value; witness = linked c.self.inside.witness })
    c.args.facts.now c.args.prefix.now c.self.invariant plans c.requires.finding)

pub returns-clause-taken : goal.returns-clause-taken
returns-clause-taken g c =
    rw (c.in_ok-join.ensures.ok, c.in_ok-cover.ensures, ← c.self.view_is)
    (takes_refuted (record { facts = c.self.inside.facts.facts; cover = c.self.inside.cover.value; witness = linked c.self.inside.witness }) c.args.facts.now.facts c.args.prefix.now
    c.self.invariant.normal c.requires.finding.ordered)
