use Rattle.std.proofs.Common.{◌≡◌, ◌+◌, length}
use Rattle.cli_audit.proofs.meeting.push_clones.Given as goal

abbrev pub invariant-loop-sender : goal.invariant-loop-sender
invariant-loop-sender l = length l.others.items ≡ length l.initial.others.items + l.sender-index
