use Rattle.std.proofs.Common.{rules, ◌∙◌}
use Rattle.aud_know.proofs.Keeping.{facts_keep}
use Rattle.aud_know.proofs.knowledge.Knowledge.of_facts.Goals as goal

pub invariant_of-result : goal.invariant_of-result
invariant_of-result g c =
    rw (c.in_ok-cover.ensures.ok ∙ c.empty.ensures)
    (facts_keep c.args.facts.plan c.args.facts.facts c.set-ordered.ensures.ordered c.set-ordered.ensures.sound)
