use Rattle.std.proofs.Common.{◌≤◌}
use Rattle.aud_gossip.proofs.outbox.Outbox.post.Given as goal

abbrev pub invariant-loop-sender : goal.invariant-loop-sender
invariant-loop-sender g l = l.sent ≤ l.sender-index
