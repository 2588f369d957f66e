use Rattle.std.proofs.Common.{◌≡◌}
use Rattle.std.specs.Prelude.{None}
use Rattle.aud_event.specs.Facts.{first_fact_fault}
use Rattle.aud_event.specs.contracts.fact.FactOrd.TheImpl as fact_ord
use Rattle.aud_facts.proofs.Grown.{sealed_is_full}
use Rattle.aud_facts.proofs.Inserted.{all_with}
use Rattle.aud_facts.proofs.fact_set.Facts.insert.Goals as goal

pub invariant_of-self-2 : goal.invariant_of-self-2
invariant_of-self-2 g c =
    rw c.in_ok-insert.ensures.ok
    (all_with (λ f. first_fact_fault c.self.inside.plan.value f ≡ None) fact_ord.ghosts.cmp c.args.fact.now c.self.inside.set (rw (← c.self.view_is) at c.requires) c.self.invariant)

pub returns-clause-grows : goal.returns-clause-grows
returns-clause-grows g c = λ sealed new. rw c.in_ok-insert.ensures.ok
    (sealed_is_full c.self.inside.plan.value c.self.inside.set c.args.fact.now c.items-ordered.ensures.sorted c.self.invariant
    (rw (← c.self.view_is) at sealed) (rw (← c.self.view_is) at c.requires) (rw (← c.self.view_is) at new))
