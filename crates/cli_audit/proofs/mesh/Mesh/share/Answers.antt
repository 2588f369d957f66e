use Rattle.std.proofs.Common.{rules}
use Rattle.cli_audit.specs.Seats.{AreCrews}
use Rattle.cli_audit.proofs.Connecting.{crews_connected}
use Rattle.cli_audit.proofs.mesh.Mesh.share.Goals as goal

pub post-requires-after_bounds : goal.post-requires-after_bounds
post-requires-after_bounds g c κs within =
    let all : AreCrews c.connect.new.self.nodes.items c.offer.new.self.crews.items = search rules in
    crews_connected c.connect.new.self.nodes.items c.offer.new.self.crews.items c.connect.new.self.crews.items c.in_ok-inboxes.ensures.connected all
