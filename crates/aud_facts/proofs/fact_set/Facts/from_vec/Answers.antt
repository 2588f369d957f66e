use Rattle.std.proofs.Common.{◌≡◌, []}
use Rattle.std.specs.Prelude.{None}
use Rattle.aud_event.specs.Facts.{first_fact_fault}
use Rattle.aud_event.specs.contracts.fact.FactOrd.TheImpl as fact_ord
use Rattle.aud_facts.proofs.Inserted.{all_inserted}
use Rattle.aud_facts.proofs.Limits.{by_recursion}
use Rattle.aud_facts.proofs.fact_set.Facts.from_vec.Goals as goal

pub invariant_of-result : goal.invariant_of-result
invariant_of-result g c =
    rw c.in_ok-set.ensures.each
    (all_inserted (λ f. first_fact_fault c.args.plan.value f ≡ None) fact_ord.ghosts.cmp c.args.facts.items [] (by_recursion (λ f. first_fact_fault c.args.plan.value f ≡ None) c.args.facts.items c.requires) tt)
