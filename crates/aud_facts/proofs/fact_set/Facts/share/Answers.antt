use Rattle.std.proofs.Common.{◌≡◌, sym, subst, None, IfOk, List, []}
use Rattle.aud_event.specs.Facts.{first_fact_fault}
use Rattle.aud_event.specs.declared.fact.Fact.{Fact}
use Rattle.aud_event.specs.contracts.fact.FactOrd.TheImpl as fact_ord
use Rattle.base_sorted.specs.Sets.{inserted}
use Rattle.aud_facts.specs.Shares.{is_of_share, share_of}
use Rattle.aud_facts.proofs.Shared.{all_shared, by_place, share_inserted, share_of_one}
use Rattle.aud_facts.proofs.fact_set.Facts.share.Goals as goal

pub returns-then-number-eq0 : goal.returns-then-number-eq0
returns-then-number-eq0 g c = rw (c.if-shares-eq1.true, c.if-number-eq0.true, share_of_one c.args.self.now.facts) c.dup.ensures

pub from_vec-requires : goal.from_vec-requires
from_vec-requires g c =
    rw (c.in_ok-share.ensures, c.in_ok-plan.ensures)
    (by_place (λ f. first_fact_fault c.self.inside.plan.value f ≡ None) _
    (all_shared (λ f. first_fact_fault c.self.inside.plan.value f ≡ None) (is_of_share c.args.shares c.args.number) c.self.inside.set c.self.invariant))

pub returns : goal.returns
returns g c =
    let all : List Fact = share_of c.args.shares c.args.number c.self.inside.set in
    let is : inserted fact_ord.ghosts.cmp all [] ≡ all = sym (share_inserted c.args.shares c.args.number c.self.inside.set c.items-ordered.ensures.sorted) in
    let made : IfOk c.from_vec.result (λ share. share ≡ record { plan = c.self.inside.plan.value; facts = inserted fact_ord.ghosts.cmp all [] }) =
    rw (← c.in_ok-share.ensures, ← c.in_ok-plan.ensures) c.from_vec.ensures in
    rw (← c.self.view_is) (subst (λ (fs : List Fact). IfOk c.from_vec.result (λ share. share ≡ record { plan = c.self.inside.plan.value; facts = fs })) is made)
