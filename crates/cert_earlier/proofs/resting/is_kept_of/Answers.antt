use Rattle.std.proofs.Common.{subst}
use Rattle.aud_order.specs.Shapes.{ShapeOf}
use Rattle.cert_earlier.specs.Landings.{IsLandingOf}
use Rattle.cert_earlier.proofs.Alike.{land-alike}
use Rattle.cert_earlier.proofs.resting.is_kept_of.Goals as goal

pub returns-in-Some : goal.returns-in-Some
returns-in-Some g c holds =
    let at = c.args.cursor.now in
    let p = c.args.prefix.now in
    let l = c.in-Some.landing.now in
    let found = c.in-Some.ensures in record {
      line = found.0;
      alike = land-alike at.shape at.path p l c.prefix-good.ensures.good (c.requires.good p found.0) (c.is_of.ensures holds)
          (subst (λ (s : ShapeOf). IsLandingOf s p l) c.requires.shape found.1);
    }
