use Rattle.std.proofs.Common.{◌≡◌, take}
use Rattle.aud_event.proofs.plan.same_objects.Given as goal

abbrev pub invariant-loop-i : goal.invariant-loop-i
invariant-loop-i g l = take l.i l.objects ≡ take l.i l.others
