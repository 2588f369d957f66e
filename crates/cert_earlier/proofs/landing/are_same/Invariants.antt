use Rattle.std.specs.Prelude.{◌≡◌, take}
use Rattle.cert_earlier.proofs.landing.are_same.Given as goal

abbrev pub invariant-loop-object : goal.invariant-loop-object
invariant-loop-object l = take l.object l.a ≡ take l.object l.b
