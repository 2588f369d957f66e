use Rattle.std.proofs.Common.{◌≡◌, ◌<◌, ◌++◌, decimal, length}
use Rattle.aud_cert.proofs.order.number_at.Given as goal
use Rattle.aud_event.specs.Limits.{most_transactions}

abbrev pub invariant-digits : goal.invariant-digits
invariant-digits l = record {
  spelled : l.text ≡ decimal l.number ++ l.rest;
  some : 0 < l.number;
  low : l.number < most_transactions;
}

abbrev pub decreases-digits : goal.decreases-digits
decreases-digits l = length l.rest
