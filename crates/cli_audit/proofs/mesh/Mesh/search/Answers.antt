use Rattle.std.proofs.Common.{◌≡◌, ◌<◌, false, List, All, length, subst, rules}
use Rattle.aud_order.specs.Shapes.{plan_of}
use Rattle.cli_audit.specs.Seats.{AreCrews, CrewOf}
use Rattle.cli_audit.specs.Meshes.{IsMesh}
use Rattle.cli_audit.specs.Searches.{SharesHaveEnded}
use Rattle.cli_audit.proofs.Connecting.{crews_connected}
use Rattle.cli_audit.proofs.Meshing.{all_ended}
use Rattle.cli_audit.proofs.mesh.Mesh.search.Goals as goal
use Rattle.base_values.proofs.Results.{on_ok}

pub work-requires-clause-crews : goal.work-requires-clause-crews
work-requires-clause-crews g c κs within =
    let all : AreCrews c.connect.new.self.nodes.items c.args.self.now.crews.items = search rules in
    crews_connected c.connect.new.self.nodes.items c.args.self.now.crews.items c.connect.new.self.crews.items c.in_ok-inboxes.ensures.connected all

pub returns-clause-ended : goal.returns-clause-ended
returns-clause-ended g c =
    let new = c.receive.new.self in
    let s = c.args.search.now.shape.value in
    let ended : SharesHaveEnded s c.args.search.now.budget c.args.search.now.tasks.items new.nodes.items new.crews.items = search rules in
    let mesh : IsMesh (plan_of s) new.nodes.items new.collectors.items new.crews.items = search rules in
    let some : 0 < length new.nodes.items = search rules in
    on_ok c.checked.result _ _ (λ done. all_ended s c.args.search.now.budget c.args.search.now.tasks.items (plan_of s) new.nodes.items new.collectors.items new.crews.items ended mesh some (subst (λ (l : List CrewOf). All (λ (v : CrewOf). v.failed ≡ false) l) c.deref-3.ensures.value done.1)) c.checked.ensures
