use Rattle.std.proofs.Common.{◌≡◌, subst}
use Rattle.std.specs.Prelude.{None}
use Rattle.aud_event.specs.Meanings.{PlanOf}
use Rattle.aud_event.specs.Plans.{first_plan_fault}
use Rattle.aud_facts.proofs.Limits.{sound_within, within_limits}
use Rattle.aud_facts.proofs.fact_set.history_of_set.Goals as goal

pub new-requires : goal.new-requires
new-requires g c =
    let sound = subst (λ (p : PlanOf). first_plan_fault p ≡ None) c.deref.ensures c.logs-sound.ensures.sound in
    rw c.in_ok-events.ensures
    (within_limits c.args.plan.value c.args.set.now c.items-ordered.ensures.sorted c.requires.sound (sound_within c.args.plan.value c.args.set.now sound c.requires.sound) c.requires.sealed)
