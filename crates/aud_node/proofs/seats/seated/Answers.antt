use Rattle.aud_node.specs.Meanings.{first_pass}
use Rattle.aud_node.proofs.Growing.{made_next}
use Rattle.aud_node.proofs.seats.seated.Goals as goal

pub loop-seat-preserved : goal.loop-seat-preserved
loop-seat-preserved g c = (
  made_next (first_pass c.args.held.now.latest.front.number) c.loop-seat.passes.items c.push.new.self.items c.in_ok-pass.pass c.loop-seat.seat c.in-Ok.ensures.items c.loop-seat.invariant.0 c.in_ok-pass.ensures.pass,
  c.loop-seat.invariant.1,
)
