use Rattle.std.proofs.Common.{◌∙◌}
use Rattle.cert_accept.proofs.Lines.{good-at}
use Rattle.cert_accept.proofs.checking.accepts.Goals as goal

pub has_same-requires-clause-good : goal.has_same-requires-clause-good
has_same-requires-clause-good g c p there =
    good-at c.args.shape.now c.go_to.new.cursor.shape p (c.in_ok-go_to.ensures.shape ∙ c.requires.cursor) (c.requires.good p there)
