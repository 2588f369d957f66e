use Rattle.std.specs.Prelude.{◌≡◌, ◌≤◌, ◌-◌, length, take}
use Rattle.cert_earlier.proofs.moving.in_common.Given as goal

abbrev pub invariant-count : goal.invariant-count
invariant-count l = record {
  first : l.count ≤ length l.a;
  second : l.count ≤ length l.b;
  same : take l.count l.a ≡ take l.count l.b;
}

abbrev pub decreases-count : goal.decreases-count
decreases-count l = length l.a - l.count
