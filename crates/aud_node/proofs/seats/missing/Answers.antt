use Rattle.std.proofs.Common.{ℕ}
use Rattle.std.specs.List.{Any}
use Rattle.aud_node.specs.Faults.{HasSeat}
use Rattle.aud_node.proofs.Growing.{below_more}
use Rattle.aud_node.proofs.seats.missing.Goals as goal

pub loop-seat-preserved : goal.loop-seat-preserved
loop-seat-preserved g c = below_more (λ (k : ℕ). Any (HasSeat c.args.number k) c.args.passes.now) c.loop-seat.seat c.loop-seat.invariant c.if-not-is_there.ensures
