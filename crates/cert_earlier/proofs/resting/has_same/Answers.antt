use Rattle.std.specs.Prelude.{refl}
use Rattle.cert_earlier.proofs.Reported.{not-placed}
use Rattle.cert_earlier.proofs.resting.has_same.Goals as goal

pub returns-then-not-branch-clause-accepted : goal.returns-then-not-branch-clause-accepted
returns-then-not-branch-clause-accepted g c =
    not-placed c.args.cursor.now.shape c.args.other.now.shape c.args.earlier.now.prefixes c.args.cursor.now.path c.args.prefix.now c.args.prefix.now c.in_ok-go_to.field-0
    c.requires.shape c.requires.good refl c.in_ok-go_to.ensures.good c.if-not-branch.true
