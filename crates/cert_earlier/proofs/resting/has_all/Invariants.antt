use Rattle.std.specs.Prelude.{◌++◌, ◌∷◌, [], take}
use Rattle.std.specs.List.{Contains}
use Rattle.aud_witness.specs.declared.decision.Decision.{Decision}
use Rattle.cert_earlier.proofs.resting.has_all.Given as goal

abbrev pub invariant-loop-kid : goal.invariant-loop-kid
invariant-loop-kid g l = (d : Decision) → Contains (take l.kid-index l.kids) d → Contains l.earlier.prefixes (l.prefix ++ d ∷ [])
