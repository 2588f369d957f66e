use Rattle.std.proofs.Common.{ap, sym, subst, ◌∙◌}
use Rattle.std.specs.Arc.{arc_value}
use Rattle.aud_know.specs.Known.{KnowledgeOf}
use Rattle.aud_node.specs.Logs.{Entry, IsWider}
use Rattle.aud_node.specs.Meanings.{FrontOf}
use Rattle.aud_node.proofs.Own.{state_next}
use Rattle.aud_node.proofs.desk.widen.Goals as goal

pub invariant_of-desk : goal.invariant_of-desk
invariant_of-desk g c =
    let old = c.args.held.now.latest in
    let known = c.args.known in
    let x : Entry = (c.args.seat, arc_value c.args.item.now) in
    let wider : IsWider old.known.value x.1 known.desk.value = subst (λ (k : KnowledgeOf). IsWider old.known.value x.1 k) (sym known.one.0) c.requires.wider in
    record { is = state_next old.known.value known.desk.value old.front.log c.copy-2.result.log x old.is wider (ap (λ (f : FrontOf). f.log) (c.copy-2.ensures ∙ c.extend-front.ensures)) }
