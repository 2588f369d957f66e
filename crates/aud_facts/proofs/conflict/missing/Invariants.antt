use Rattle.std.proofs.Common.{◌≡◌, ℕ, ◌<◌}
use Rattle.std.specs.Prelude.{false}
use Rattle.aud_facts.specs.Status.{is_missing}
use Rattle.aud_facts.proofs.conflict.missing.Given as goal

abbrev pub invariant-loop-stamp : goal.invariant-loop-stamp
invariant-loop-stamp g l = (m : ℕ) → m < l.stamp → is_missing l.set m ≡ false
