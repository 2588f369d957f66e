use Rattle.std.proofs.Common.{◌≡◌, length}
use Rattle.cli_audit.specs.Meshes.{IsMesh}
use Rattle.cli_audit.specs.Seats.{AreOpenedFrom}
use Rattle.cli_audit.proofs.mesh.start_all.Given as goal

abbrev pub invariant-loop-one : goal.invariant-loop-one
invariant-loop-one g l =
    IsMesh l.plan l.mesh.nodes.items l.mesh.collectors.items l.mesh.crews.items
    × (length l.mesh.nodes.items ≡ length l.yielded)
    × AreOpenedFrom (length l.yielded) g.J.Fleet.book l.one-iterator.rest.items
