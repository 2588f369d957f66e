use Rattle.std.proofs.Common.{◌≡◌, take, true}
use Rattle.aud_event.specs.Plans.{names_differ, IsIndex}
use Rattle.aud_event.proofs.plan.index_of.Given as goal

abbrev pub invariant-loop-number : goal.invariant-loop-number
invariant-loop-number g l = (names_differ (take l.number l.objects) ≡ true) × IsIndex l.numbers (take l.number l.objects)
