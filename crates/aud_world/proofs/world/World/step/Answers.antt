use Rattle.std.proofs.Common.{◌<◌, List, length, slice_index_or, refl, sym, ap, subst, ◌∙◌}
use Rattle.std.proofs.lemmas.Bool.{false≢true}
use Rattle.std.proofs.lemmas.Option.{slice_get_read}
use Rattle.aud_know.specs.Known.{KnowledgeOf}
use Rattle.aud_world.specs.Faults.{IsAllowed, IsFaultOf}
use Rattle.aud_world.specs.Worlds.{WorldOf, IsWorldOf, AreOfPlan}
use Rattle.aud_world.specs.declared.moves.MoveFault.TheVariants.{OutOfMemory}
use Rattle.aud_world.proofs.Gaining.{of_plan, of_plan_at}
use Rattle.aud_world.proofs.Stepping.{fed, found_by, posted_by, delivered_to, fed_allowed, fed_fault, fed_true, found_allowed, found_fault, found_true, posted_allowed, posted_true, delivered_allowed, delivered_fault, delivered_true, nothing_made, left, reported, plan_seen, nodes_seen, as_many_seen, nodes_left, packets_left, node_there, no_node, packet_there, no_packet, same_plan, other_plan, of_plan_seen, of_plan_posted}
use Rattle.aud_world.proofs.world.World.step.Goals as goal

-- there is no node of the number
pub returns-then-node-len-clause-fault : goal.returns-then-node-len-clause-fault
returns-then-node-len-clause-fault g c = no_node _ _ c.self.view_is c.node-node.result _ c.len.result c.node-node.ensures (c.len.ensures ∙ c.self.inside.nodes.ok.0) c.if-node-len.true

-- there is one
pub feed-requires : goal.feed-requires
feed-requires g c = subst (λ l. c.node-node.result < l) (c.len.ensures ∙ c.self.inside.nodes.ok.0) c.if-node-len.false

pub find-requires : goal.find-requires
find-requires g c = subst (λ l. c.node-node.result < l) (c.len.ensures ∙ c.self.inside.nodes.ok.0) c.if-node-len.false

pub deliver-requires : goal.deliver-requires
deliver-requires g c = subst (λ l. c.node-node.result < l) (c.len.ensures ∙ c.self.inside.nodes.ok.0) c.if-node-len.false

-- the plans stay
pub invariant_of-self : goal.invariant_of-self
invariant_of-self g c = (of_plan c.self.inside.plan.value c.self.inside.nodes.items c.feed.new.nodes.items c.in_err-feed-in-Feed.ensures.plans c.self.invariant.0, c.self.invariant.1)

pub invariant_of-self-in_err-find-in-Find : goal.invariant_of-self-in_err-find-in-Find
invariant_of-self-in_err-find-in-Find g c = (of_plan c.self.inside.plan.value c.self.inside.nodes.items c.find.new.nodes.items c.in_err-find-in-Find.ensures.plans c.self.invariant.0, c.self.invariant.1)

pub invariant_of-self-in_err-deliver-in-Deliver : goal.invariant_of-self-in_err-deliver-in-Deliver
invariant_of-self-in_err-deliver-in-Deliver g c = (of_plan c.self.inside.plan.value c.self.inside.nodes.items c.deliver.new.nodes.items c.in_err-deliver-in-Deliver.ensures.plans c.self.invariant.0, c.self.invariant.1)

pub invariant_of-self-in-Feed : goal.invariant_of-self-in-Feed
invariant_of-self-in-Feed g c = (of_plan c.self.inside.plan.value c.self.inside.nodes.items c.feed.new.nodes.items c.in_ok-feed-in-Feed.ensures.plans c.self.invariant.0, c.self.invariant.1)

pub invariant_of-self-in-Find : goal.invariant_of-self-in-Find
invariant_of-self-in-Find g c = (of_plan c.self.inside.plan.value c.self.inside.nodes.items c.find.new.nodes.items c.in_ok-find-in-Find.ensures.plans c.self.invariant.0, c.self.invariant.1)

pub invariant_of-self-in-Deliver : goal.invariant_of-self-in-Deliver
invariant_of-self-in-Deliver g c = (of_plan c.self.inside.plan.value c.self.inside.nodes.items c.deliver.new.nodes.items c.in_ok-deliver-in-Deliver.ensures.plans c.self.invariant.0, c.self.invariant.1)

pub invariant_of-self-in_err-post-in-Post : goal.invariant_of-self-in_err-post-in-Post
invariant_of-self-in_err-post-in-Post g c = (c.self.invariant.0, subst (λ (ks : List KnowledgeOf). AreOfPlan c.self.inside.plan.value ks) (sym c.in_err-post-in-Post.ensures.err) c.self.invariant.1)

pub invariant_of-self-in-Post : goal.invariant_of-self-in-Post
invariant_of-self-in-Post g c = (
  c.self.invariant.0,
  of_plan_posted c.self.inside.plan.value c.self.inside.nodes.items c.self.inside.packets.items c.post.new.packets.items c.node-node.result c.index.result.now
      (slice_get_read c.self.inside.nodes.items (length c.self.inside.nodes.items) c.node-node.result c.index.result.now refl (subst (λ l. c.node-node.result < l) (c.len.ensures ∙ c.self.inside.nodes.ok.0) c.if-node-len.false) c.index.ensures) c.in_ok-post-in-Post.ensures.posted c.self.invariant.0 c.self.invariant.1,
)

-- the fact was refused
pub returns-in_err-feed-in-Feed-clause-moved : goal.returns-in_err-feed-in-Feed-clause-moved
returns-in_err-feed-in-Feed-clause-moved g c = nothing_made c.from_residual.result _ c.from_residual.ensures.0

pub returns-in_err-feed-in-Feed-clause-plan : goal.returns-in_err-feed-in-Feed-clause-plan
returns-in_err-feed-in-Feed-clause-plan g c = plan_seen _ _ c.self.view_is

pub returns-in_err-feed-in-Feed-clause-len : goal.returns-in_err-feed-in-Feed-clause-len
returns-in_err-feed-in-Feed-clause-len g c = as_many_seen _ _ c.self.view_is c.feed.new.nodes.items c.in_err-feed-in-Feed.ensures.plans

pub returns-in_err-feed-in-Feed-clause-truth : goal.returns-in_err-feed-in-Feed-clause-truth
returns-in_err-feed-in-Feed-clause-truth g c = nothing_made c.from_residual.result _ c.from_residual.ensures.0

pub returns-in_err-feed-in-Feed-clause-err : goal.returns-in_err-feed-in-Feed-clause-err
returns-in_err-feed-in-Feed-clause-err g c = left c.from_residual.result _ (nodes_left _ _ c.self.view_is c.feed.new.nodes.items c.in_err-feed-in-Feed.ensures.err)

pub returns-in_err-feed-in-Feed-clause-fault : goal.returns-in_err-feed-in-Feed-clause-fault
returns-in_err-feed-in-Feed-clause-fault g c = reported c.from_residual.result c.in_err-feed-in-Feed.field-0.0 c.in_err-feed-in-Feed.field-0.0 (λ _. IsAllowed c.args.self.now c.args.next.now) (IsFaultOf c.args.self.now c.args.next.now) c.from_residual.ensures.1 refl
    (fed_fault c.args.self.now c.args.next.now (node_there _ _ c.self.view_is c.node-node.result _ c.len.result c.node-node.ensures (c.len.ensures ∙ c.self.inside.nodes.ok.0) c.if-node-len.false) c.in-Feed.field-0 _ c.in_err-feed-in-Feed.field-0.0 c.in-Feed.is (c.in_err-feed-in-Feed.ensures.fault c.args.self.now.plan (of_plan_seen _ _ c.self.view_is c.self.inside.nodes.items c.args.self.now.plan refl c.self.invariant.0)))

-- the finding was refused
pub returns-in_err-find-in-Find-clause-moved : goal.returns-in_err-find-in-Find-clause-moved
returns-in_err-find-in-Find-clause-moved g c = nothing_made c.from_residual-in_err-find-in-Find.result _ c.from_residual-in_err-find-in-Find.ensures.0

pub returns-in_err-find-in-Find-clause-plan : goal.returns-in_err-find-in-Find-clause-plan
returns-in_err-find-in-Find-clause-plan g c = plan_seen _ _ c.self.view_is

pub returns-in_err-find-in-Find-clause-len : goal.returns-in_err-find-in-Find-clause-len
returns-in_err-find-in-Find-clause-len g c = as_many_seen _ _ c.self.view_is c.find.new.nodes.items c.in_err-find-in-Find.ensures.plans

pub returns-in_err-find-in-Find-clause-truth : goal.returns-in_err-find-in-Find-clause-truth
returns-in_err-find-in-Find-clause-truth g c = nothing_made c.from_residual-in_err-find-in-Find.result _ c.from_residual-in_err-find-in-Find.ensures.0

pub returns-in_err-find-in-Find-clause-err : goal.returns-in_err-find-in-Find-clause-err
returns-in_err-find-in-Find-clause-err g c = left c.from_residual-in_err-find-in-Find.result _ (nodes_left _ _ c.self.view_is c.find.new.nodes.items c.in_err-find-in-Find.ensures.err)

pub returns-in_err-find-in-Find-clause-fault : goal.returns-in_err-find-in-Find-clause-fault
returns-in_err-find-in-Find-clause-fault g c =
    let same = same_plan _ _ c.self.view_is c.in-Find.finding.facts c.facts.result.now c.plan.result.now c.deref.result.now c.facts.ensures.facts c.plan.ensures c.deref.ensures (c.if-not-same.ensures.0 refl) in
    reported c.from_residual-in_err-find-in-Find.result c.in_err-find-in-Find.field-0.0 OutOfMemory (λ _. IsAllowed c.args.self.now c.args.next.now) (IsFaultOf c.args.self.now c.args.next.now) c.from_residual-in_err-find-in-Find.ensures.1 (c.in_err-find-in-Find.ensures.fault (of_plan_seen _ _ c.self.view_is c.self.inside.nodes.items c.in-Find.finding.facts.plan same c.self.invariant.0))
    (found_allowed c.args.self.now c.args.next.now (node_there _ _ c.self.view_is c.node-node.result _ c.len.result c.node-node.ensures (c.len.ensures ∙ c.self.inside.nodes.ok.0) c.if-node-len.false) c.in-Find.field-0 c.in-Find.finding c.in-Find.is same)

-- the post was refused
pub returns-in_err-post-in-Post-clause-moved : goal.returns-in_err-post-in-Post-clause-moved
returns-in_err-post-in-Post-clause-moved g c = nothing_made c.from_residual-in_err-post-in-Post.result _ c.from_residual-in_err-post-in-Post.ensures.0

pub returns-in_err-post-in-Post-clause-plan : goal.returns-in_err-post-in-Post-clause-plan
returns-in_err-post-in-Post-clause-plan g c = plan_seen _ _ c.self.view_is

pub returns-in_err-post-in-Post-clause-len : goal.returns-in_err-post-in-Post-clause-len
returns-in_err-post-in-Post-clause-len g c = nodes_seen _ _ c.self.view_is

pub returns-in_err-post-in-Post-clause-truth : goal.returns-in_err-post-in-Post-clause-truth
returns-in_err-post-in-Post-clause-truth g c = nothing_made c.from_residual-in_err-post-in-Post.result _ c.from_residual-in_err-post-in-Post.ensures.0

pub returns-in_err-post-in-Post-clause-err : goal.returns-in_err-post-in-Post-clause-err
returns-in_err-post-in-Post-clause-err g c = left c.from_residual-in_err-post-in-Post.result _ (packets_left _ _ c.self.view_is c.post.new.packets.items c.in_err-post-in-Post.ensures.err)

pub returns-in_err-post-in-Post-clause-fault : goal.returns-in_err-post-in-Post-clause-fault
returns-in_err-post-in-Post-clause-fault g c = reported c.from_residual-in_err-post-in-Post.result OutOfMemory OutOfMemory (λ _. IsAllowed c.args.self.now c.args.next.now) (IsFaultOf c.args.self.now c.args.next.now) c.from_residual-in_err-post-in-Post.ensures.1 refl (posted_allowed c.args.self.now c.args.next.now (node_there _ _ c.self.view_is c.node-node.result _ c.len.result c.node-node.ensures (c.len.ensures ∙ c.self.inside.nodes.ok.0) c.if-node-len.false) c.in-Post.field-0 c.in-Post.is)

-- the delivery was refused
pub returns-in_err-deliver-in-Deliver-clause-moved : goal.returns-in_err-deliver-in-Deliver-clause-moved
returns-in_err-deliver-in-Deliver-clause-moved g c = nothing_made c.from_residual-in_err-deliver-in-Deliver.result _ c.from_residual-in_err-deliver-in-Deliver.ensures.0

pub returns-in_err-deliver-in-Deliver-clause-plan : goal.returns-in_err-deliver-in-Deliver-clause-plan
returns-in_err-deliver-in-Deliver-clause-plan g c = plan_seen _ _ c.self.view_is

pub returns-in_err-deliver-in-Deliver-clause-len : goal.returns-in_err-deliver-in-Deliver-clause-len
returns-in_err-deliver-in-Deliver-clause-len g c = as_many_seen _ _ c.self.view_is c.deliver.new.nodes.items c.in_err-deliver-in-Deliver.ensures.plans

pub returns-in_err-deliver-in-Deliver-clause-truth : goal.returns-in_err-deliver-in-Deliver-clause-truth
returns-in_err-deliver-in-Deliver-clause-truth g c = nothing_made c.from_residual-in_err-deliver-in-Deliver.result _ c.from_residual-in_err-deliver-in-Deliver.ensures.0

pub returns-in_err-deliver-in-Deliver-clause-err : goal.returns-in_err-deliver-in-Deliver-clause-err
returns-in_err-deliver-in-Deliver-clause-err g c = left c.from_residual-in_err-deliver-in-Deliver.result _ (nodes_left _ _ c.self.view_is c.deliver.new.nodes.items c.in_err-deliver-in-Deliver.ensures.err)

pub returns-in_err-deliver-in-Deliver-clause-fault : goal.returns-in_err-deliver-in-Deliver-clause-fault
returns-in_err-deliver-in-Deliver-clause-fault g c =
    let lookup = slice_get_read c.self.inside.packets.items (length c.self.inside.packets.items) c.in-Deliver.packet c.in-Some.packet.now refl (subst (λ (ks : List KnowledgeOf). c.in-Deliver.packet < length ks) c.deref-in-Deliver.ensures.value c.in-Some.ensures.lookup.3.0) (c.in-Some.ensures.lookup.1 ∙ ap (λ l. slice_index_or l c.in-Deliver.packet c.in-Some.packet.now) c.deref-in-Deliver.ensures.value) in
    let same = of_plan_at c.self.inside.plan.value c.self.inside.packets.items c.in-Deliver.packet c.in-Some.packet.now c.self.invariant.1 lookup ∙ plan_seen _ _ c.self.view_is in
    reported c.from_residual-in_err-deliver-in-Deliver.result c.in_err-deliver-in-Deliver.field-0.0 OutOfMemory (λ _. IsAllowed c.args.self.now c.args.next.now) (IsFaultOf c.args.self.now c.args.next.now) c.from_residual-in_err-deliver-in-Deliver.ensures.1 (c.in_err-deliver-in-Deliver.ensures.fault (of_plan_seen _ _ c.self.view_is c.self.inside.nodes.items c.in-Some.packet.now.plan same c.self.invariant.0))
    (delivered_allowed c.args.self.now c.args.next.now (node_there _ _ c.self.view_is c.node-node.result _ c.len.result c.node-node.ensures (c.len.ensures ∙ c.self.inside.nodes.ok.0) c.if-node-len.false) c.in-Deliver.packet c.in-Deliver.field-1 c.in-Deliver.is (packet_there _ _ c.self.view_is c.deref-in-Deliver.result.now c.in-Deliver.packet c.deref-in-Deliver.ensures.value c.in-Some.ensures.lookup.3.0))

-- the finding is of another plan, and the packet was not posted
pub returns-then-not-same-clause-fault : goal.returns-then-not-same-clause-fault
returns-then-not-same-clause-fault g c = found_fault c.args.self.now c.args.next.now (node_there _ _ c.self.view_is c.node-node.result _ c.len.result c.node-node.ensures (c.len.ensures ∙ c.self.inside.nodes.ok.0) c.if-node-len.false) c.in-Find.field-0 c.in-Find.finding c.in-Find.is (other_plan _ _ c.self.view_is c.in-Find.finding.facts c.facts.result.now c.plan.result.now c.deref.result.now c.facts.ensures.facts c.plan.ensures c.deref.ensures (λ e. false≢true (c.if-not-same.ensures.1 e)))

pub returns-in_default-clause-fault : goal.returns-in_default-clause-fault
returns-in_default-clause-fault g c = delivered_fault c.args.self.now c.args.next.now (node_there _ _ c.self.view_is c.node-node.result _ c.len.result c.node-node.ensures (c.len.ensures ∙ c.self.inside.nodes.ok.0) c.if-node-len.false) c.in-Deliver.packet c.in-Deliver.field-1 c.in-Deliver.is (no_packet _ _ c.self.view_is c.deref-in-Deliver.result.now c.in-Deliver.packet c.deref-in-Deliver.ensures.value c.in_default.ensures.lookup.3)

-- the node gains the fact
pub returns-in_ok-feed-in-Feed-clause-moved : goal.returns-in_ok-feed-in-Feed-clause-moved
returns-in_ok-feed-in-Feed-clause-moved g c c' s = fed (record { plan = c.self.inside.plan.value; nodes = c.self.inside.nodes.items; packets = c.self.inside.packets.items }) _ c' c.args.next.now c.node-node.result c.in-Feed.field-0 (subst (λ (v : WorldOf). IsWorldOf v c') (sym c.self.view_is) s) c.node-node.ensures refl _ c.in-Feed.is refl c.in_ok-feed-in-Feed.ensures.gains

pub returns-in_ok-feed-in-Feed-clause-plan : goal.returns-in_ok-feed-in-Feed-clause-plan
returns-in_ok-feed-in-Feed-clause-plan g c = plan_seen _ _ c.self.view_is

pub returns-in_ok-feed-in-Feed-clause-len : goal.returns-in_ok-feed-in-Feed-clause-len
returns-in_ok-feed-in-Feed-clause-len g c = as_many_seen _ _ c.self.view_is c.feed.new.nodes.items c.in_ok-feed-in-Feed.ensures.plans

pub returns-in_ok-feed-in-Feed-clause-truth : goal.returns-in_ok-feed-in-Feed-clause-truth
returns-in_ok-feed-in-Feed-clause-truth g c = fed_true c.args.self.now.plan c.args.next.now c.in-Feed.field-0 _ c.in-Feed.is (c.in_ok-feed-in-Feed.ensures.fault c.args.self.now.plan (of_plan_seen _ _ c.self.view_is c.self.inside.nodes.items c.args.self.now.plan refl c.self.invariant.0))

pub returns-in_ok-feed-in-Feed-clause-fault : goal.returns-in_ok-feed-in-Feed-clause-fault
returns-in_ok-feed-in-Feed-clause-fault g c = fed_allowed c.args.self.now c.args.next.now (node_there _ _ c.self.view_is c.node-node.result _ c.len.result c.node-node.ensures (c.len.ensures ∙ c.self.inside.nodes.ok.0) c.if-node-len.false) c.in-Feed.field-0 _ c.in-Feed.is (c.in_ok-feed-in-Feed.ensures.fault c.args.self.now.plan (of_plan_seen _ _ c.self.view_is c.self.inside.nodes.items c.args.self.now.plan refl c.self.invariant.0))

-- the node gains what was found
pub returns-in_ok-find-in-Find-clause-moved : goal.returns-in_ok-find-in-Find-clause-moved
returns-in_ok-find-in-Find-clause-moved g c c' s = found_by (record { plan = c.self.inside.plan.value; nodes = c.self.inside.nodes.items; packets = c.self.inside.packets.items }) _ c' c.args.next.now c.node-node.result c.in-Find.field-0 (subst (λ (v : WorldOf). IsWorldOf v c') (sym c.self.view_is) s) c.node-node.ensures refl _ c.in-Find.is refl c.in_ok-find-in-Find.ensures.gains

pub returns-in_ok-find-in-Find-clause-plan : goal.returns-in_ok-find-in-Find-clause-plan
returns-in_ok-find-in-Find-clause-plan g c = plan_seen _ _ c.self.view_is

pub returns-in_ok-find-in-Find-clause-len : goal.returns-in_ok-find-in-Find-clause-len
returns-in_ok-find-in-Find-clause-len g c = as_many_seen _ _ c.self.view_is c.find.new.nodes.items c.in_ok-find-in-Find.ensures.plans

pub returns-in_ok-find-in-Find-clause-truth : goal.returns-in_ok-find-in-Find-clause-truth
returns-in_ok-find-in-Find-clause-truth g c = found_true c.args.self.now.plan c.args.next.now c.in-Find.field-0 c.in-Find.finding c.in-Find.is (same_plan _ _ c.self.view_is c.in-Find.finding.facts c.facts.result.now c.plan.result.now c.deref.result.now c.facts.ensures.facts c.plan.ensures c.deref.ensures (c.if-not-same.ensures.0 refl)) c.facts.ensures.is_true

pub returns-in_ok-find-in-Find-clause-fault : goal.returns-in_ok-find-in-Find-clause-fault
returns-in_ok-find-in-Find-clause-fault g c = found_allowed c.args.self.now c.args.next.now (node_there _ _ c.self.view_is c.node-node.result _ c.len.result c.node-node.ensures (c.len.ensures ∙ c.self.inside.nodes.ok.0) c.if-node-len.false) c.in-Find.field-0 c.in-Find.finding c.in-Find.is (same_plan _ _ c.self.view_is c.in-Find.finding.facts c.facts.result.now c.plan.result.now c.deref.result.now c.facts.ensures.facts c.plan.ensures c.deref.ensures (c.if-not-same.ensures.0 refl))

-- the packet holds what the node knows
pub returns-in_ok-post-in-Post-clause-moved : goal.returns-in_ok-post-in-Post-clause-moved
returns-in_ok-post-in-Post-clause-moved g c c' s = posted_by (record { plan = c.self.inside.plan.value; nodes = c.self.inside.nodes.items; packets = c.self.inside.packets.items }) _ c' c.args.next.now c.node-node.result c.in-Post.field-0 (subst (λ (v : WorldOf). IsWorldOf v c') (sym c.self.view_is) s) c.node-node.ensures refl c.index.result.now c.in-Post.is (slice_get_read c.self.inside.nodes.items (length c.self.inside.nodes.items) c.node-node.result c.index.result.now refl (subst (λ l. c.node-node.result < l) (c.len.ensures ∙ c.self.inside.nodes.ok.0) c.if-node-len.false) c.index.ensures) refl c.in_ok-post-in-Post.ensures.posted

pub returns-in_ok-post-in-Post-clause-plan : goal.returns-in_ok-post-in-Post-clause-plan
returns-in_ok-post-in-Post-clause-plan g c = plan_seen _ _ c.self.view_is

pub returns-in_ok-post-in-Post-clause-len : goal.returns-in_ok-post-in-Post-clause-len
returns-in_ok-post-in-Post-clause-len g c = nodes_seen _ _ c.self.view_is

pub returns-in_ok-post-in-Post-clause-truth : goal.returns-in_ok-post-in-Post-clause-truth
returns-in_ok-post-in-Post-clause-truth g c = posted_true c.args.self.now.plan c.args.next.now c.in-Post.field-0 c.in-Post.is

pub returns-in_ok-post-in-Post-clause-fault : goal.returns-in_ok-post-in-Post-clause-fault
returns-in_ok-post-in-Post-clause-fault g c = posted_allowed c.args.self.now c.args.next.now (node_there _ _ c.self.view_is c.node-node.result _ c.len.result c.node-node.ensures (c.len.ensures ∙ c.self.inside.nodes.ok.0) c.if-node-len.false) c.in-Post.field-0 c.in-Post.is

-- the node gains what the packet holds
pub returns-in_ok-deliver-in-Deliver-clause-moved : goal.returns-in_ok-deliver-in-Deliver-clause-moved
returns-in_ok-deliver-in-Deliver-clause-moved g c c' s = delivered_to (record { plan = c.self.inside.plan.value; nodes = c.self.inside.nodes.items; packets = c.self.inside.packets.items }) _ c' c.args.next.now c.node-node.result c.in-Deliver.field-1 (subst (λ (v : WorldOf). IsWorldOf v c') (sym c.self.view_is) s) c.node-node.ensures refl c.norm_absorbs.ensures _ c.in-Some.packet.now c.in-Deliver.is (slice_get_read c.self.inside.packets.items (length c.self.inside.packets.items) c.in-Deliver.packet c.in-Some.packet.now refl (subst (λ (ks : List KnowledgeOf). c.in-Deliver.packet < length ks) c.deref-in-Deliver.ensures.value c.in-Some.ensures.lookup.3.0) (c.in-Some.ensures.lookup.1 ∙ ap (λ l. slice_index_or l c.in-Deliver.packet c.in-Some.packet.now) c.deref-in-Deliver.ensures.value)) refl c.in_ok-deliver-in-Deliver.ensures.gains

pub returns-in_ok-deliver-in-Deliver-clause-plan : goal.returns-in_ok-deliver-in-Deliver-clause-plan
returns-in_ok-deliver-in-Deliver-clause-plan g c = plan_seen _ _ c.self.view_is

pub returns-in_ok-deliver-in-Deliver-clause-len : goal.returns-in_ok-deliver-in-Deliver-clause-len
returns-in_ok-deliver-in-Deliver-clause-len g c = as_many_seen _ _ c.self.view_is c.deliver.new.nodes.items c.in_ok-deliver-in-Deliver.ensures.plans

pub returns-in_ok-deliver-in-Deliver-clause-truth : goal.returns-in_ok-deliver-in-Deliver-clause-truth
returns-in_ok-deliver-in-Deliver-clause-truth g c = delivered_true c.args.self.now.plan c.args.next.now c.in-Deliver.packet c.in-Deliver.field-1 c.in-Deliver.is

pub returns-in_ok-deliver-in-Deliver-clause-fault : goal.returns-in_ok-deliver-in-Deliver-clause-fault
returns-in_ok-deliver-in-Deliver-clause-fault g c = delivered_allowed c.args.self.now c.args.next.now (node_there _ _ c.self.view_is c.node-node.result _ c.len.result c.node-node.ensures (c.len.ensures ∙ c.self.inside.nodes.ok.0) c.if-node-len.false) c.in-Deliver.packet c.in-Deliver.field-1 c.in-Deliver.is (packet_there _ _ c.self.view_is c.deref-in-Deliver.result.now c.in-Deliver.packet c.deref-in-Deliver.ensures.value c.in-Some.ensures.lookup.3.0)
