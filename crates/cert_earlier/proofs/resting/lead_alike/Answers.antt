use Rattle.cert_earlier.proofs.Alike.{not-alike, are-alike}
use Rattle.cert_earlier.proofs.resting.lead_alike.Goals as goal

pub returns-then-not-same : goal.returns-then-not-same
returns-then-not-same g c =
    not-alike c.args.cursor.now c.args.other.now c.placed.result.now c.placed-2.result.now c.same.result c.requires c.placed.ensures c.placed-2.ensures
    c.same.ensures c.if-not-same.true

pub returns : goal.returns
returns g c =
    are-alike c.args.cursor.now c.args.other.now c.placed.result.now c.placed-2.result.now c.same.result c.store.result.now.now c.store-2.result.now.now c.same-2.result
    c.requires c.prefix-good.ensures.good c.prefix-other_good.ensures.good c.placed.ensures c.placed-2.ensures
    c.same.ensures c.if-not-same.false c.store.ensures c.store-2.ensures c.same-2.ensures
