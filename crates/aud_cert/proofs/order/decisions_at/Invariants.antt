use Rattle.std.proofs.Common.{◌≡◌, ◌<◌, ◌++◌, length}
use Rattle.std.specs.List.{All}
use Rattle.aud_text.specs.Orders.{order_text}
use Rattle.aud_cert.specs.Written.{Low}
use Rattle.aud_cert.proofs.order.decisions_at.Given as goal

abbrev pub invariant-decisions : goal.invariant-decisions
invariant-decisions l = record {
  spelled : l.text ≡ order_text l.scratch.items ++ l.rest;
  some : 0 < length l.scratch.items;
  low : All Low l.scratch.items;
}

abbrev pub decreases-decisions : goal.decreases-decisions
decreases-decisions l = length l.rest
