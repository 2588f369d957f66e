use Rattle.std.proofs.Common.{sym, subst}
use Rattle.aud_witness.specs.Placings.{PlacingOf}
use Rattle.aud_order.specs.Cursors.{IsAt}
use Rattle.aud_order.proofs.cursor.Cursor.pop.Goals as goal

pub invariant_of-self : goal.invariant_of-self
invariant_of-self g c =
    let i = c.self.inside in
    subst (λ (p : PlacingOf). IsAt i.shape.now p i.first_open) (sym (c.take_back.ensures.root c.in_default.is).1) c.self.invariant
