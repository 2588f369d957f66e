use Rattle.std.proofs.Common.{get_or}
use Rattle.cli_audit.proofs.run.audit_facts.Given as goal

-- the histories that were just opened, and the plan of the facts
abbrev pub ghosts-findings_of : goal.ghosts-findings_of
ghosts-findings_of g a = record { book = λ n. (get_or a.opened.items n (record { number = 0; book = record { number = 0; log_name = 0; cells_name = 0 } })).book; plan = λ _. a.facts.now.plan }
