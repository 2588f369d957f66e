use Rattle.std.proofs.Common.{◌≡◌, [], map}
use Rattle.aud_node.specs.Logs.{upto}
use Rattle.aud_node.specs.Meanings.{first_pass}
use Rattle.aud_node.proofs.seats.seated.Given as goal

abbrev pub invariant-loop-seat : goal.invariant-loop-seat
invariant-loop-seat g l = (l.passes.items ≡ map (first_pass l.held.latest.front.number) (upto l.seat)) × (l.held.latest.front.log ≡ [])
