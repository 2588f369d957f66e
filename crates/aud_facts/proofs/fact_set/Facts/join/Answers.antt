use Rattle.std.proofs.Common.{◌≡◌, sym, subst}
use Rattle.std.specs.Prelude.{None}
use Rattle.aud_event.specs.Facts.{first_fact_fault}
use Rattle.aud_event.specs.contracts.fact.FactOrd.TheImpl as fact_ord
use Rattle.aud_event.specs.Meanings.{PlanOf}
use Rattle.aud_facts.specs.Sets.{AreSound}
use Rattle.aud_facts.proofs.Inserted.{all_joined}
use Rattle.aud_facts.proofs.fact_set.Facts.join.Goals as goal

pub invariant_of-self-2 : goal.invariant_of-self-2
invariant_of-self-2 g c =
    let plans : c.self.inside.plan.value ≡ c.args.other.now.plan = rw (← c.self.view_is) at c.requires in
    let theirs : AreSound c.self.inside.plan.value c.args.other.now.facts = subst (λ (p : PlanOf). AreSound p c.args.other.now.facts) (sym plans) c.set-theirs.ensures.sound in
    rw (c.in_ok-join_sets.ensures.ok, c.set-theirs.ensures.set)
    (all_joined (λ f. first_fact_fault c.self.inside.plan.value f ≡ None) fact_ord.ghosts.cmp c.self.inside.set c.args.other.now.facts c.self.invariant theirs)
