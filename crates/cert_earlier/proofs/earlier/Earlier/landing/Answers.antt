use Rattle.std.specs.Prelude.{◌≡◌, ℕ, List, Some, IfSome, slice_get}
use Rattle.std.specs.List.{Contains}
use Rattle.std.proofs.Common.{subst}
use Rattle.cert_earlier.specs.declared.landing.Landing.{Landing}
use Rattle.cert_earlier.specs.declared.earlier.Noted.{Noted}
use Rattle.cert_earlier.proofs.Beginnings.{found, landed-at}
use Rattle.cert_earlier.proofs.earlier.Earlier.landing.Goals as goal

pub returns : goal.returns
returns g c =
    landed-at c.self.inside.shape.now c.args.self.now c.self.inside.has_empty c.self.inside.landings.items c.self.inside.beginnings
    c.args.prefix.now c.in_ok-last.list.now c.in_ok-last.last.now c.in_ok-noted.noted.now.items c.in_ok-one.one c.landing_at.result
    c.self.view_is c.self.invariant c.in_ok-last.ensures.cases.0
    (found c.self.inside.beginnings c.in_ok-last.list.now c.of.result c.in_ok-noted.noted.now c.of.ensures c.in_ok-noted.ensures.value)
    (subst (λ (l : List Noted). Contains l c.in_ok-one.one) c.deref.ensures.value c.in_ok-one.ensures.0) c.in_ok-one.ensures.1
    (subst (λ (l : List Landing). IfSome c.landing_at.result (λ m. (k : ℕ) × (c.in_ok-one.one.landing ≡ Some k) × (slice_get l k ≡ Some m.now))) c.deref-2.ensures.value c.landing_at.ensures)
