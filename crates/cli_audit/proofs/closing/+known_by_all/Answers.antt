use Rattle.std.proofs.Common.{◌≡◌, ◌∙◌, ◌∷◌, [], ℕ, List, ◌+◌, IfSome, inl, inr, sym, ap, subst, arith, length, length-append}
use Rattle.aud_witness.specs.declared.decision.Decision.{Decision}
use Rattle.aud_order.specs.Shapes.{ShapeOf}
use Rattle.cli_findings.specs.Searches.{KnowsEnd}
use Rattle.cli_audit.specs.Searches.{HaveEnded}
use Rattle.cli_audit.proofs.Meshing.{last_crew, last_planned, mesh_last, mesh_less}
use Rattle.cli_audit.proofs.Ending.{ended_cases, none_ended}
use Rattle.cli_audit.proofs.closing.+known_by_all.Goals as goal

pub known_by-requires-clause-crew : goal.known_by-requires-clause-crew
known_by-requires-clause-crew g t c =
    let last = mesh_last c.args.facts.now.plan c.args.mesh.nodes.items c.pop.new.self.items c.args.mesh.collectors.items c.pop-2.new.self.items c.args.mesh.crews.items c.pop-3.new.self.items c.in-Some.node c.in-Some-pop.collector c.in-Some-pop-2.crew
    c.in-Some.ensures.items c.in-Some-pop.ensures.items c.in-Some-pop-2.ensures.items c.requires in
    last_crew c.args.facts.now.plan c.pop.new.self.items c.pop-2.new.self.items c.pop-3.new.self.items c.in-Some.node c.in-Some-pop.collector c.in-Some-pop-2.crew last

pub known_by_all-requires : goal.known_by_all-requires
known_by_all-requires g t c κs outlive =
    let last = mesh_last c.args.facts.now.plan c.args.mesh.nodes.items c.pop.new.self.items c.args.mesh.collectors.items c.pop-2.new.self.items c.args.mesh.crews.items c.pop-3.new.self.items c.in-Some.node c.in-Some-pop.collector c.in-Some-pop-2.crew
    c.in-Some.ensures.items c.in-Some-pop.ensures.items c.in-Some-pop-2.ensures.items c.requires in
    let count : length c.args.mesh.nodes.items ≡ length c.pop.new.self.items + 1 = ap length c.in-Some.ensures.items ∙ length-append c.pop.new.self.items (c.in-Some.node ∷ []) in
    let falls = c.decreases in
    (omega (arith, count, falls), (outlive.0, (outlive.1.0, (outlive.1.1, mesh_less c.args.facts.now.plan c.pop.new.self.items c.pop-2.new.self.items c.pop-3.new.self.items c.in-Some.node c.in-Some-pop.collector c.in-Some-pop-2.crew last))))

pub joined-requires : goal.joined-requires
joined-requires g t c =
    let last = mesh_last c.args.facts.now.plan c.args.mesh.nodes.items c.pop.new.self.items c.args.mesh.collectors.items c.pop-2.new.self.items c.args.mesh.crews.items c.pop-3.new.self.items c.in-Some.node c.in-Some-pop.collector c.in-Some-pop-2.crew
    c.in-Some.ensures.items c.in-Some-pop.ensures.items c.in-Some-pop-2.ensures.items c.requires in
    let planned = last_planned c.args.facts.now.plan c.pop.new.self.items c.pop-2.new.self.items c.pop-3.new.self.items c.in-Some.node c.in-Some-pop.collector c.in-Some-pop-2.crew last in
    let others = subst (λ o. IfSome o (λ k. k.plan ≡ c.args.facts.now.plan)) c.in-Some-2.is c.in_ok-known_by_all.ensures.plan in
    c.in_ok-known.ensures.plan ∙ planned ∙ sym others

pub returns-in-None-clause-plan : goal.returns-in-None-clause-plan
returns-in-None-clause-plan g t c =
    let last = mesh_last c.args.facts.now.plan c.args.mesh.nodes.items c.pop.new.self.items c.args.mesh.collectors.items c.pop-2.new.self.items c.args.mesh.crews.items c.pop-3.new.self.items c.in-Some.node c.in-Some-pop.collector c.in-Some-pop-2.crew
    c.in-Some.ensures.items c.in-Some-pop.ensures.items c.in-Some-pop-2.ensures.items c.requires in
    c.in_ok-known.ensures.plan ∙ last_planned c.args.facts.now.plan c.pop.new.self.items c.pop-2.new.self.items c.pop-3.new.self.items c.in-Some.node c.in-Some-pop.collector c.in-Some-pop-2.crew last

pub returns-in_ok-joined-in-Some-2-clause-plan : goal.returns-in_ok-joined-in-Some-2-clause-plan
returns-in_ok-joined-in-Some-2-clause-plan g t c =
    let last = mesh_last c.args.facts.now.plan c.args.mesh.nodes.items c.pop.new.self.items c.args.mesh.collectors.items c.pop-2.new.self.items c.args.mesh.crews.items c.pop-3.new.self.items c.in-Some.node c.in-Some-pop.collector c.in-Some-pop-2.crew
    c.in-Some.ensures.items c.in-Some-pop.ensures.items c.in-Some-pop-2.ensures.items c.requires in
    c.in_ok-joined-in-Some-2.ensures.plan ∙ c.in_ok-known.ensures.plan ∙ last_planned c.args.facts.now.plan c.pop.new.self.items c.pop-2.new.self.items c.pop-3.new.self.items c.in-Some.node c.in-Some-pop.collector c.in-Some-pop-2.crew last

pub returns-in-None-clause-ends : goal.returns-in-None-clause-ends
returns-in-None-clause-ends g t c = λ s budget task ended.
    elim (ended_cases s budget task c.args.mesh.crews.items c.pop-3.new.self.items c.in-Some-pop-2.crew c.in-Some-pop-2.ensures.items ended) [
      | inl before ↦ absurd (none_ended s budget task c.pop-3.new.self.items (c.in_ok-known_by_all.ensures.some c.in-None.is).1 before)
      | inr mine ↦ c.in_ok-known.ensures.ends s budget task mine
    ]

pub returns-in_ok-joined-in-Some-2-clause-ends : goal.returns-in_ok-joined-in-Some-2-clause-ends
returns-in_ok-joined-in-Some-2-clause-ends g t c = λ s budget task ended.
    let others = subst (λ o. IfSome o (λ k. (s : ShapeOf) (budget : ℕ) (task : List Decision) → HaveEnded s budget c.pop-3.new.self.items task → KnowsEnd s budget k task)) c.in-Some-2.is c.in_ok-known_by_all.ensures.ends in
    elim (ended_cases s budget task c.args.mesh.crews.items c.pop-3.new.self.items c.in-Some-pop-2.crew c.in-Some-pop-2.ensures.items ended) [
      | inl before ↦ c.in_ok-joined-in-Some-2.ensures.other s budget task (others s budget task before)
      | inr mine ↦ c.in_ok-joined-in-Some-2.ensures.one s budget task (c.in_ok-known.ensures.ends s budget task mine)
    ]
