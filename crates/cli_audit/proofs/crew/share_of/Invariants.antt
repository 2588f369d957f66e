use Rattle.std.proofs.Common.{◌≡◌, ◌++◌, drop}
use Rattle.cli_audit.specs.Searches.{share_from}
use Rattle.cli_audit.proofs.crew.share_of.Given as goal

abbrev pub invariant-loop-place : goal.invariant-loop-place
invariant-loop-place l = share_from l.nodes l.number 0 l.tasks ≡ l.share.items ++ share_from l.nodes l.number l.place (drop l.place l.tasks)
