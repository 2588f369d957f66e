use Rattle.std.proofs.Common.{◌∙◌}
use Rattle.cert_earlier.proofs.Keys.{as-seen, sums-differ, tells-same}
use Rattle.cert_earlier.proofs.prefix_key.PrefixKeyPartialEq.eq.Goals as goal

pub returns-then-self-other : goal.returns-then-self-other
returns-then-self-other c =
    tells-same c.self.inside.list.now c.other.inside.list.now c.are_same.result c.are_same.ensures ∙ as-seen c.self.view_is c.other.view_is

pub returns-else-self-other : goal.returns-else-self-other
returns-else-self-other c =
    sums-differ c.self.inside.list.now c.other.inside.list.now c.self.inside.sum c.other.inside.sum c.self.invariant c.other.invariant c.if-self-other.false
    ∙ as-seen c.self.view_is c.other.view_is
