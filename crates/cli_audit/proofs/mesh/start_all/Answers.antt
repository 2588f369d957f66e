use Rattle.std.proofs.Common.{◌≡◌, ◌∙◌, ◌+◌, ◌++◌, ◌∷◌, [], ℕ, List, length, ap, sym, subst, rules, arith, length-append}
use Rattle.aud_node.specs.Meanings.{NodeOf, OpenedOf}
use Rattle.cli_audit.specs.Meshes.{IsMesh}
use Rattle.cli_audit.specs.Seats.{AreOpenedFrom, CrewOf, CollectorOf}
use Rattle.cli_audit.proofs.Meshing.{mesh_add, opened_first, opened_next}
use Rattle.cli_audit.proofs.mesh.start_all.Goals as goal

pub loop-one-preserved : goal.loop-one-preserved
loop-one-preserved g c =
    let steps : c.loop-one.one-iterator.rest.items ≡ c.in-Some.one ∷ c.next.new.self.rest.items = search rules in
    let opened = subst (λ (l : List OpenedOf). AreOpenedFrom (length c.loop-one.yielded) g.J.Fleet.book l) steps c.loop-one.invariant.2 in
    let first : c.in-Some.one.number ≡ length c.loop-one.yielded = opened_first (length c.loop-one.yielded) g.J.Fleet.book c.in-Some.one c.next.new.self.rest.items opened in
    let number : c.in_ok-started.started.node.number ≡ length c.loop-one.mesh.nodes.items = ap (λ (n : NodeOf). n.number) c.in_ok-started.ensures.node ∙ first ∙ sym c.loop-one.invariant.1 in
    let planned : c.in_ok-started.started.node.plan ≡ c.args.plan.now = ap (λ (n : NodeOf). n.plan) c.in_ok-started.ensures.node in
    let mesh = mesh_add c.args.plan.now c.loop-one.mesh.nodes.items c.loop-one.mesh.collectors.items c.loop-one.mesh.crews.items c.in_ok-started.started.node c.in_ok-started.started.collector c.in_ok-started.started.crew
    c.loop-one.invariant.0 number planned c.in_ok-started.ensures.collector c.in_ok-started.ensures.crew in
    let grown : length c.add.new.self.nodes.items ≡ length c.loop-one.mesh.nodes.items + 1 = ap length c.in_ok-add.ensures.nodes ∙ length-append c.loop-one.mesh.nodes.items (c.in_ok-started.started.node ∷ []) in
    let seen = length-append c.loop-one.yielded (c.in-Some.one ∷ []) in
    let before = c.loop-one.invariant.1 in (
      subst (λ (l : List NodeOf). IsMesh c.args.plan.now l c.add.new.self.collectors.items c.add.new.self.crews.items) (sym c.in_ok-add.ensures.nodes)
          (subst (λ (l : List CollectorOf). IsMesh c.args.plan.now (c.loop-one.mesh.nodes.items ++ c.in_ok-started.started.node ∷ []) l c.add.new.self.crews.items) (sym c.in_ok-add.ensures.collectors)
          (subst (λ (l : List CrewOf). IsMesh c.args.plan.now (c.loop-one.mesh.nodes.items ++ c.in_ok-started.started.node ∷ []) (c.loop-one.mesh.collectors.items ++ c.in_ok-started.started.collector ∷ []) l) (sym c.in_ok-add.ensures.crews) mesh)),
      omega (arith, grown, seen, before),
      subst (λ (m : ℕ). AreOpenedFrom m g.J.Fleet.book c.next.new.self.rest.items) (sym seen) (opened_next (length c.loop-one.yielded) g.J.Fleet.book c.in-Some.one c.next.new.self.rest.items opened),
    )
