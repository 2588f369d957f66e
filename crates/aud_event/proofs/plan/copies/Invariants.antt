use Rattle.std.proofs.Common.{◌≡◌, take}
use Rattle.aud_event.proofs.plan.copies.Given as goal

abbrev pub invariant-loop-decl : goal.invariant-loop-decl
invariant-loop-decl g l = l.copies.items ≡ take l.decl-index l.objects
