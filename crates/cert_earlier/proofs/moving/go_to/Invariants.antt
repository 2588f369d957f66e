use Rattle.std.specs.Prelude.{◌≡◌, take}
use Rattle.cert_earlier.proofs.Placing.{cursor_at}
use Rattle.cert_earlier.proofs.moving.go_to.Given as goal

abbrev pub invariant-loop-place : goal.invariant-loop-place
invariant-loop-place g l = l.cursor ≡ cursor_at l.fn.cursor (take l.place l.decisions)
