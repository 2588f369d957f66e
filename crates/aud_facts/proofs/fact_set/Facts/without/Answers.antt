use Rattle.std.proofs.Common.{◌≡◌}
use Rattle.std.specs.Prelude.{None}
use Rattle.aud_event.specs.Facts.{first_fact_fault}
use Rattle.aud_event.specs.contracts.fact.FactOrd.TheImpl as fact_ord
use Rattle.aud_facts.proofs.Inserted.{all_left}
use Rattle.aud_facts.proofs.fact_set.Facts.without.Goals as goal

pub invariant_of-result : goal.invariant_of-result
invariant_of-result g c =
    rw (c.in_ok-set.ensures.left, c.in_ok-plan.ensures)
    (all_left (λ f. first_fact_fault c.self.inside.plan.value f ≡ None) fact_ord.ghosts.cmp c.self.inside.set c.other.inside.set c.self.invariant)

pub returns-clause-facts : goal.returns-clause-facts
returns-clause-facts g c = rw (← c.self.view_is, ← c.other.view_is) c.in_ok-set.ensures.members
