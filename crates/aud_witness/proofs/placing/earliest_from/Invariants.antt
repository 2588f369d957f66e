use Rattle.std.specs.Prelude.{◌≡◌, ℕ, ◌<◌, ◌≤◌, ◌-◌, true, false, length, slice_index_or}
use Rattle.aud_witness.specs.declared.end.End.{End}
use Rattle.aud_witness.proofs.placing.earliest_from.Given as goal

abbrev pub invariant-loop-earliest : goal.invariant-loop-earliest
invariant-loop-earliest g l = (l.earliest ≤ length l.ends) × ((k : ℕ) (d : End) → k < l.earliest → slice_index_or l.placed (slice_index_or l.ends k d).row false ≡ true)

abbrev pub decreases-loop-earliest : goal.decreases-loop-earliest
decreases-loop-earliest g l = length l.ends - l.earliest
