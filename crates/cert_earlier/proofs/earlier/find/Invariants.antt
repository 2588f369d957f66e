use Rattle.std.specs.Prelude.{take}
use Rattle.std.specs.List.{Contains}
use Rattle.cert_earlier.specs.Beginnings.{decisions_of}
use Rattle.cert_earlier.proofs.earlier.find.Given as goal

abbrev pub invariant-loop-one : goal.invariant-loop-one
invariant-loop-one l = Contains (decisions_of (take l.one-index l.noted)) l.decision → ⊥
