use Rattle.std.proofs.Common.{arith, sym, ◌∙◌, ℕ, ◌<◌}
use Rattle.aud_facts.specs.Status.{is_waiting}
use Rattle.aud_facts.proofs.Lists.{least_none, least_found, none_more}
use Rattle.aud_facts.proofs.conflict.waiting.Goals as goal

pub returns-then-is_short : goal.returns-then-is_short
returns-then-is_short g c = sym (least_found _ _ c.loop-log.log c.loop-log-test.true (sym c.is_short.ensures ∙ c.if-is_short.true) c.loop-log.invariant)

pub loop-log-preserved : goal.loop-log-preserved
loop-log-preserved g c = none_more (is_waiting c.args.set.now) c.loop-log.log c.loop-log.invariant (sym c.is_short.ensures ∙ c.if-is_short.false)

pub returns : goal.returns
returns g c = sym (least_none (is_waiting c.args.set.now) c.args.logs (λ (m : ℕ) (lt : m < c.args.logs). c.loop-log.invariant m (omega arith)))
