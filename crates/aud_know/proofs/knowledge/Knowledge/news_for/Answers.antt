use Rattle.std.proofs.Common.{◌≡◌, sym, subst}
use Rattle.aud_event.specs.Meanings.{PlanOf}
use Rattle.aud_facts.specs.Sets.{AreSound}
use Rattle.aud_know.specs.Known.{Held, linked}
use Rattle.aud_know.specs.Truth.{IsKnowledge}
use Rattle.aud_know.specs.Beyond.{IsBeyond}
use Rattle.aud_know.proofs.Beyonds.{is_beyond, beyond_keeps, enough}
use Rattle.aud_know.proofs.knowledge.Knowledge.news_for.Goals as goal

pub invariant_of-result : goal.invariant_of-result
invariant_of-result g c =
    let n : Held = record { facts = c.self.inside.facts.facts; cover = c.self.inside.cover.value; witness = linked c.self.inside.witness } in
    let m : Held = record { facts = c.other.inside.facts.facts; cover = c.other.inside.cover.value; witness = linked c.other.inside.witness } in
    let d : Held = record { facts = c.in_ok-facts.facts.facts; cover = c.in_ok-cover.cover.value; witness = linked c.in_ok-witness.witness } in
    let new : IsBeyond n m d = is_beyond n m d c.has_finding-all.result c.in_ok-cover.ensures.new c.in_ok-witness.ensures c.has_finding-all.ensures c.in_ok-facts.ensures.facts in
    let plans : c.in_ok-facts.facts.plan ≡ c.self.inside.facts.plan = c.in_ok-facts.ensures.plan in
    let sound : AreSound c.self.inside.facts.plan d.facts = subst (λ (p : PlanOf). AreSound p d.facts) plans c.set-sound.ensures.sound in
    subst (λ (p : PlanOf). IsKnowledge p d) (sym plans)
    (beyond_keeps c.self.inside.facts.plan n m d c.self.invariant new (record { facts = c.set-sound.ensures.ordered; cover = c.in_ok-cover.ensures.cover }) sound)

pub returns-clause-beyond : goal.returns-clause-beyond
returns-clause-beyond g c =
    let n : Held = record { facts = c.self.inside.facts.facts; cover = c.self.inside.cover.value; witness = linked c.self.inside.witness } in
    let m : Held = record { facts = c.other.inside.facts.facts; cover = c.other.inside.cover.value; witness = linked c.other.inside.witness } in
    let d : Held = record { facts = c.in_ok-facts.facts.facts; cover = c.in_ok-cover.cover.value; witness = linked c.in_ok-witness.witness } in
    rw (← c.self.view_is, ← c.other.view_is)
    (is_beyond n m d c.has_finding-all.result c.in_ok-cover.ensures.new c.in_ok-witness.ensures c.has_finding-all.ensures c.in_ok-facts.ensures.facts)

pub returns-clause-joins : goal.returns-clause-joins
returns-clause-joins g c =
    let n : Held = record { facts = c.self.inside.facts.facts; cover = c.self.inside.cover.value; witness = linked c.self.inside.witness } in
    let m : Held = record { facts = c.other.inside.facts.facts; cover = c.other.inside.cover.value; witness = linked c.other.inside.witness } in
    let d : Held = record { facts = c.in_ok-facts.facts.facts; cover = c.in_ok-cover.cover.value; witness = linked c.in_ok-witness.witness } in
    let new : IsBeyond n m d = is_beyond n m d c.has_finding-all.result c.in_ok-cover.ensures.new c.in_ok-witness.ensures c.has_finding-all.ensures c.in_ok-facts.ensures.facts in
    rw (← c.self.view_is, ← c.other.view_is)
    (enough n m d c.self.invariant.normal c.other.invariant.normal (record { facts = c.set-sound.ensures.ordered; cover = c.in_ok-cover.ensures.cover }) new)
