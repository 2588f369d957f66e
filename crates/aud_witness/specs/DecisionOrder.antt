-- The order of decisions and of prefixes ties only what is equal.
use Rattle.std.specs.Prelude.{◌≡◌, refl}
use Rattle.std.specs.declared.cmp.Ordering.{Ordering}
use Rattle.std.specs.declared.cmp.Ordering.TheVariants.{Equal}
use Rattle.std.specs.Cmp.{IsTotalOrder}
use Rattle.std.specs.Cmp.Lexicographic.{slice_cmp}
use Rattle.std.specs.FinSet.{slice_cmp-IsAntisymmetric}
use Rattle.base_values.specs.Exact.{IsExact, nat_exact, both_tie}
use Rattle.aud_witness.specs.declared.decision.Fate.{Fate}
use Rattle.aud_witness.specs.declared.decision.Fate.TheVariants.{C, A}
use Rattle.aud_witness.specs.declared.decision.Decision.{Decision}
use Rattle.aud_witness.specs.contracts.decision.FateOrd.TheImpl as fate_order
use Rattle.aud_witness.specs.contracts.decision.DecisionOrd.TheImpl as decision_order
use Rattle.aud_witness.specs.contracts.decision.DecisionOrd.TheImpl.Laws as laws

-- by the transaction's number, then C before A
abbrev pub decision_cmp : Decision → Decision → Ordering
decision_cmp = decision_order.ghosts.cmp

pub decisions_total : IsTotalOrder decision_cmp
decisions_total = laws.total-law

fate_exact : (x y : Fate) → fate_order.ghosts.cmp x y ≡ Equal → x ≡ y
fate_exact C C e = refl
fate_exact A A e = refl
fate_exact _ _ e = cc

pub decision_exact : IsExact decision_cmp
decision_exact x y e =
    let parts = both_tie _ _ e in
    let tx = nat_exact x.tx y.tx parts.0 in
    let fate = fate_exact x.fate y.fate parts.1 in
    λ i. record { tx = tx i; fate = fate i }

pub prefix_exact : IsExact (slice_cmp decision_cmp)
prefix_exact = slice_cmp-IsAntisymmetric decision_exact
