use Rattle.std.proofs.Common.{◌≡◌, ◌≤◌, length, drop}
use Rattle.aud_witness.specs.OrderFaults.{least_tx}
use Rattle.aud_witness.specs.Configurations.{unplaced}
use Rattle.aud_witness.proofs.placing.Placing.least_unplaced.Given as goal

abbrev pub invariant-loop-place : goal.invariant-loop-place
invariant-loop-place g l = (l.place ≤ length l.rows) × (l.least ≡ least_tx (unplaced (drop l.place l.rows) (drop l.place l.self.configuration.placed)))

abbrev pub decreases-loop-place : goal.decreases-loop-place
decreases-loop-place g l = l.place
