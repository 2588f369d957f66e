use Rattle.std.proofs.Common.{get_or, ◌∙◌, ap, arith}
use Rattle.aud_object.proofs.Places.{copy-more}
use Rattle.aud_object.proofs.store.dup_all.Goals as goal

pub loop-state-preserved : goal.loop-state-preserved
loop-state-preserved g c =
    copy-more c.loop-state.copy.items c.push.new.self.items c.args.states.now.items c.loop-state.state-index c.in_ok-dup.field-0 c.state-item.result (omega arith) (c.state-item.is ∙ ap (λ l. get_or l c.loop-state.state-index c.state-item.result) c.deref-state-items.ensures.value) c.in_ok-dup.ensures c.in_ok-push.ensures.items c.loop-state.invariant
