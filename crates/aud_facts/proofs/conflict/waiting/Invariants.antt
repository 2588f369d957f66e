use Rattle.std.proofs.Common.{◌≡◌, ℕ, ◌<◌}
use Rattle.std.specs.Prelude.{false}
use Rattle.aud_facts.specs.Status.{is_waiting}
use Rattle.aud_facts.proofs.conflict.waiting.Given as goal

abbrev pub invariant-loop-log : goal.invariant-loop-log
invariant-loop-log g l = (m : ℕ) → m < l.log → is_waiting l.set m ≡ false
