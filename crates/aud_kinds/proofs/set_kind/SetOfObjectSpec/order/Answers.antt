use Rattle.std.proofs.Common.{◌∙◌}
use Rattle.base_undo.specs.Keeps.{entries_in}
use Rattle.aud_kinds.proofs.Orders.{sets_order}
use Rattle.aud_kinds.proofs.set_kind.SetOfObjectSpec.order.Goals as goal

pub returns : goal.returns
returns g c = c.order.ensures ∙ sets_order (entries_in c.args.state.now) (entries_in c.args.other.now)
