use Rattle.std.specs.Prelude.{length}
use Rattle.cert_earlier.proofs.OnTheWay.{IsBack}
use Rattle.cert_earlier.proofs.moving.go_back.Given as goal

abbrev pub invariant-back : goal.invariant-back
invariant-back g l = IsBack l.initial.cursor l.cursor l.depth

abbrev pub decreases-back : goal.decreases-back
decreases-back g l = length l.cursor.path
