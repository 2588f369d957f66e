use Rattle.std.proofs.Common.{◌≡◌, ◌+◌, ◌-◌, ◌≤◌, length}
use Rattle.aud_text.specs.PlanText.{objects_left}
use Rattle.aud_text.proofs.Objects.{onto}
use Rattle.aud_text.proofs.plan.read_objects.Given as goal

abbrev pub invariant-loop-i : goal.invariant-loop-i
invariant-loop-i l = record {
  same : objects_left l.header.format l.text l.left l.number l.header.objects ≡ onto l.objects.items (objects_left l.header.format l.text l.rest l.line (l.header.objects - l.i));
  within : length l.rest ≤ length l.text;
  room : l.line + length l.rest ≤ length l.text + 1;
}
