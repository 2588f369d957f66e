-- What the run of an audit leaves.
use Rattle.aud_report.specs.declared.said.Said.{Said}
use Rattle.cli_lines.specs.Outcomes.{DeviceSeen, Whole}
use Rattle.cli_lines.specs.declared.ended.Ended.{Ended}
use Rattle.cli_lines.specs.declared.ended.Ended.TheVariants as ended
use Rattle.cli_lines.proofs.Ends.{line-ends}
use Rattle.cli_audit.specs.Lines.{AuditOutcome}

-- an audit that said a whole line has left what a run leaves that ends so
pub whole_audit : (May : Said → Type 0) (before after : DeviceSeen) (e : Ended) → Whole May before after e → AuditOutcome May before after e
whole_audit May before after ended.Opaque whole = whole
whole_audit May before after ended.NotOpaque whole = whole
whole_audit May before after ended.Unfinished whole = whole
whole_audit May before after ended.Refused whole = whole
whole_audit May before after (ended.Failed cause) whole = absurd (line-ends whole.said cause whole.ends)
