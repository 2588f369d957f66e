use Rattle.std.specs.Prelude.{◌≡◌, take}
use Rattle.cert_earlier.specs.PrefixKeys.{sum_of}
use Rattle.cert_earlier.proofs.prefix_key.sum_of.Given as goal

abbrev pub invariant-loop-decision : goal.invariant-loop-decision
invariant-loop-decision l = l.sum ≡ sum_of (take l.decision-index l.decisions)
