use Rattle.std.specs.Prelude.{◌≡◌, map, take}
use Rattle.aud_object.specs.States.{numbered}
use Rattle.cert_earlier.proofs.landing.numbers_of.Given as goal

abbrev pub invariant-loop-object : goal.invariant-loop-object
invariant-loop-object g l = map numbered l.numbers.items ≡ take l.object l.store.now
