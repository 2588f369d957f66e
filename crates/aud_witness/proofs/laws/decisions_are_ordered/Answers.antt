use Rattle.std.specs.Prelude.{◌≡◌, refl}
use Rattle.std.proofs.Common.{ap}
use Rattle.std.specs.Ordering.{nat_cmp, ordering_then}
use Rattle.aud_witness.specs.declared.decision.Fate.{Fate}
use Rattle.aud_witness.specs.declared.decision.Fate.TheVariants.{C, A}
use Rattle.aud_witness.specs.contracts.decision.FateOrd.TheImpl as fate_order
use Rattle.aud_witness.specs.Laws.{fate_place}
use Rattle.aud_witness.proofs.laws.decisions_are_ordered.Goals as goal

fates : (x y : Fate) → fate_order.ghosts.cmp x y ≡ nat_cmp (fate_place x) (fate_place y)
fates C C = refl
fates C A = refl
fates A C = refl
fates A A = refl

pub returns : goal.returns
returns c d e = ap (ordering_then (nat_cmp d.tx e.tx)) (fates d.fate e.fate)
