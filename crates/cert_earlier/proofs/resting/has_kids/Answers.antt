use Rattle.aud_order.specs.Shapes.{objects_of, history_of}
use Rattle.cert_earlier.proofs.Reported.{kids-reported}
use Rattle.cert_earlier.proofs.resting.has_kids.Goals as goal

pub returns-clause-accepted : goal.returns-clause-accepted
returns-clause-accepted g c =
    let at = c.args.cursor.now in
    kids-reported (objects_of at.shape) (history_of at.shape) c.args.earlier.now.prefixes at.path c.args.prefix.now c.in_ok-kids.kids.items c.deref.result.now c.full.result c.has_all.result
    c.requires c.full.ensures c.if-full.false c.in_ok-kids.ensures.kids c.deref.ensures.value c.has_all.ensures
