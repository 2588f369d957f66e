-- What a run may be asked for.
use Rattle.std.specs.Prelude.{◌≤◌, ℕ, ⊤, IfSome}
use Rattle.cli_lines.specs.declared.job.AuditJob.{AuditJob}
use Rattle.cli_lines.specs.declared.job.Command.{Command}
use Rattle.cli_lines.specs.declared.job.Command.TheVariants.{Lines, Audit}

abbrev pub most_nodes : ℕ
most_nodes = 8

-- of each node
abbrev pub most_workers : ℕ
most_workers = 16

-- of expansions
abbrev pub most_budget : ℕ
most_budget = 1000000000000

-- the numbers of an audit are in their ranges
abbrev pub IsAuditJob : AuditJob → Type 0
IsAuditJob job = ((1 ≤ job.nodes) × (job.nodes ≤ most_nodes)) × (((1 ≤ job.workers) × (job.workers ≤ most_workers)) × IfSome job.budget (λ b. b ≤ most_budget))

-- of an audit, its numbers are in their ranges
abbrev pub IsInRange : Command → Type 0
IsInRange (Lines job) = ⊤
IsInRange (Audit job) = IsAuditJob job
