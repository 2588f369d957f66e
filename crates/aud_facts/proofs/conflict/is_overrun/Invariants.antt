use Rattle.std.proofs.Common.{ℕ, ◌<◌}
use Rattle.aud_facts.specs.Scans.{IsUnderrun}
use Rattle.aud_facts.proofs.conflict.is_overrun.Given as goal

abbrev pub invariant-loop-log : goal.invariant-loop-log
invariant-loop-log l = (m : ℕ) → m < l.log → IsUnderrun l.survey m
