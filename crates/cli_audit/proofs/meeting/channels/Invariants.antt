use Rattle.std.proofs.Common.{◌≡◌, length}
use Rattle.cli_audit.proofs.meeting.channels.Given as goal

abbrev pub invariant-loop-place : goal.invariant-loop-place
invariant-loop-place l = (length l.senders.items ≡ l._place) × (length l.inboxes.items ≡ l._place)
