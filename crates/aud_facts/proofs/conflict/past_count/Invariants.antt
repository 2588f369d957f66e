use Rattle.std.proofs.Common.{◌≡◌}
use Rattle.aud_facts.specs.Scans.{AreWithin, first_place, is_past}
use Rattle.aud_facts.proofs.conflict.past_count.Given as goal

abbrev pub invariant-loop-fact : goal.invariant-loop-fact
invariant-loop-fact g l = record {
  within : AreWithin l.fact-iterator;
  rest : first_place (is_past l.set) l.fact-iterator ≡ first_place (is_past l.set) l.set;
}
