-- What an audit may say of an input, and what its run leaves.
use Rattle.std.specs.Prelude.{◌≡◌, ℕ, List, Option, ⊤}
use Rattle.aud_report.specs.Lines.{line_of}
use Rattle.aud_report.specs.declared.said.Said.{Said}
use Rattle.cli_input.specs.Inputs.{input_read}
use Rattle.cli_lines.specs.Line.{InputSays}
use Rattle.cli_lines.specs.Outcomes.{NothingSaid, RunOutcome, DeviceSeen, ended_by}
use Rattle.cli_lines.specs.declared.ended.Cause.{Cause}
use Rattle.cli_lines.specs.declared.ended.Cause.TheVariants.{Input, Memory, Output, Thread}
use Rattle.cli_lines.specs.declared.ended.Ended.{Ended}
use Rattle.cli_lines.specs.declared.ended.Ended.TheVariants as ended
use Rattle.cli_findings.specs.Says.{AuditSays}

-- what an audit may say of an input: the first of these that applies
abbrev pub AuditLine : Option ℕ → List ℕ → Said → Type 0
AuditLine budget input s = InputSays (AuditSays budget) (input_read input) s

-- the bytes are a line that an audit may say of the input, and a run ends so that says it
abbrev pub IsAuditLine : Option ℕ → List ℕ → List ℕ → Ended → Type 0
IsAuditLine budget input line e = (s : Said) × (AuditLine budget input s × ((line ≡ line_of s) × (ended_by s ≡ e)))

-- what an audit fails for before it writes
abbrev pub IsOfAudit : Cause → Type 0
IsOfAudit Memory = ⊤
IsOfAudit Input = ⊥
IsOfAudit Output = ⊥
IsOfAudit Thread = ⊤

-- what a run leaves that ends so, as one of `check`, `decide` or `verify` does; where a thread was not to be had, nothing
-- went out
abbrev pub AuditOutcome : (Said → Type 0) → DeviceSeen → DeviceSeen → Ended → Type 0
AuditOutcome May before after (ended.Failed Thread) = NothingSaid 0 before after
AuditOutcome May before after e = RunOutcome May before after e
