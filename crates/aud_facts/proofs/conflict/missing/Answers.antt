use Rattle.std.proofs.Common.{arith, sym, ◌∙◌, ℕ, ◌<◌}
use Rattle.aud_event.specs.declared.limits.TheConstants.{STAMPS}
use Rattle.aud_facts.specs.Status.{is_missing}
use Rattle.aud_facts.proofs.Lists.{least_none, least_found, none_more, missing_beyond}
use Rattle.aud_facts.proofs.conflict.missing.Goals as goal

pub returns-then-n-stamp : goal.returns-then-n-stamp
returns-then-n-stamp g c = sym (least_none (is_missing c.args.set.now) c.args.n (λ (m : ℕ) (lt : m < c.args.n). c.loop-stamp.invariant m (omega arith)))

pub returns-then-is_absent : goal.returns-then-is_absent
returns-then-is_absent g c = sym (least_found _ _ c.loop-stamp.stamp c.if-n-stamp.false (sym c.is_absent.ensures ∙ c.if-is_absent.true) c.loop-stamp.invariant)

pub loop-stamp-preserved : goal.loop-stamp-preserved
loop-stamp-preserved g c = none_more (is_missing c.args.set.now) c.loop-stamp.stamp c.loop-stamp.invariant (sym c.is_absent.ensures ∙ c.if-is_absent.false)

pub returns-then-n : goal.returns-then-n
returns-then-n g c = sym (least_none (is_missing c.args.set.now) c.args.n (λ (m : ℕ) (lt : m < c.args.n). c.loop-stamp.invariant m (omega arith)))

pub returns-else-n : goal.returns-else-n
returns-else-n g c = sym (least_found (is_missing c.args.set.now) c.args.n STAMPS (omega arith) (missing_beyond c.args.set.now STAMPS c.requires.within (omega arith)) (λ (m : ℕ) (lt : m < STAMPS). c.loop-stamp.invariant m (omega arith)))
