use Rattle.std.proofs.Common.{◌≡◌, sym, ◌∙◌, ap, subst, None}
use Rattle.aud_event.specs.Plans.{first_plan_fault, number_of, plan_of}
use Rattle.aud_event.proofs.Names.{lookup-clone}
use Rattle.aud_event.proofs.plan.PlanDup.dup.Goals as goal

pub invariant_of-result : goal.invariant_of-result
invariant_of-result g c =
    let same = sym (c.in_ok-objects.ensures ∙ c.deref.ensures.value) in
    let fine = subst (λ objects. first_plan_fault (plan_of c.self.inside.format c.self.inside.logs objects) ≡ None) same c.self.invariant.0 in
    let numbers = c.in_ok-numbers.numbers in
    (fine, λ name. lookup-clone name c.self.inside.numbers.entries numbers.entries c.in_ok-numbers.ensures.cases ∙ c.self.invariant.1 name ∙ ap (number_of name) same)
