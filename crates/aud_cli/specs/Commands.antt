-- What a command may say of an input in memory, and how its run ends.
use Rattle.std.specs.Prelude.{◌≡◌, ℕ, List, []}
use Rattle.cli_lines.specs.Outcomes.{IsLine}
use Rattle.cli_lines.specs.declared.ended.Cause.{Cause}
use Rattle.cli_lines.specs.declared.ended.Cause.TheVariants.{Memory}
use Rattle.cli_lines.specs.declared.ended.Ended.{Ended}
use Rattle.cli_lines.specs.declared.ended.Ended.TheVariants as ended
use Rattle.cli_lines.specs.declared.job.Command.{Command}
use Rattle.cli_lines.specs.declared.job.Command.TheVariants.{Audit, Lines}
use Rattle.cli_audit.specs.Lines.{IsAuditLine, IsOfAudit}

-- the bytes are a line that the command may say of the input, and its run ends so that says it
abbrev pub CommandSays : Command → List ℕ → List ℕ → Ended → Type 0
CommandSays (Lines job) input out e = IsLine job input out e
CommandSays (Audit job) input out e = IsAuditLine job.budget input out e

-- what the run of a command over an input in memory may fail for
abbrev pub FailsBy : Command → Cause → Type 0
FailsBy (Lines job) cause = cause ≡ Memory
FailsBy (Audit job) cause = IsOfAudit cause

-- a run of the command over the input may hand out this and end so: a line that it may say, or nothing where it fails
abbrev pub CommandOutcome : Command → List ℕ → List ℕ → Ended → Type 0
CommandOutcome command input out (ended.Failed cause) = (out ≡ []) × FailsBy command cause
CommandOutcome command input out ended.Opaque = CommandSays command input out ended.Opaque
CommandOutcome command input out ended.NotOpaque = CommandSays command input out ended.NotOpaque
CommandOutcome command input out ended.Unfinished = CommandSays command input out ended.Unfinished
CommandOutcome command input out ended.Refused = CommandSays command input out ended.Refused
