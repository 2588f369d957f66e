use Rattle.std.proofs.Common.{length}
use Rattle.cli_audit.proofs.closing.+known_by_all.Given as goal

abbrev pub decreases-known_by_all : goal.decreases-known_by_all
decreases-known_by_all g l = length l.mesh.nodes.items
