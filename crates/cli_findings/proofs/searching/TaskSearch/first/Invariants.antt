use Rattle.std.proofs.Common.{◌≡◌, take}
use Rattle.cli_findings.proofs.searching.TaskSearch.first.Given as goal

abbrev pub invariant-loop-place : goal.invariant-loop-place
invariant-loop-place l = l.tasks.items ≡ take l.place l.self.tasks.items
