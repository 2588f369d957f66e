use Rattle.std.specs.Prelude.{◌-◌}
use Rattle.aud_order.specs.Cursors.{ArePlaced}
use Rattle.aud_order.proofs.cursor.open_from.Given as goal

abbrev pub invariant-loop-open : goal.invariant-loop-open
invariant-loop-open g l = ArePlaced l.placing.configuration.placed l.open

abbrev pub decreases-loop-open : goal.decreases-loop-open
decreases-loop-open g l = l.count - l.open
