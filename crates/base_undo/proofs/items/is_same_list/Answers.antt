use Rattle.std.proofs.Common.{◌≡◌, Decides, sym, subst}
use Rattle.std.specs.Cmp.Rules.{signed_items}
use Rattle.base_undo.proofs.items.is_same_list.Goals as goal

pub returns : goal.returns
returns c = subst (λ r. Decides r (c.args.a.now ≡ c.args.b.now)) (sym c.eq.ensures) (signed_items c.args.a.now c.args.b.now)
