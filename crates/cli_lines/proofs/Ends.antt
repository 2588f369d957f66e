-- How jobs end that say a line.
use Rattle.std.specs.Prelude.{◌≡◌}
use Rattle.aud_know.specs.declared.verdict.Verdict.{Verdict}
use Rattle.aud_know.specs.declared.verdict.Verdict.TheVariants as verdict
use Rattle.aud_report.specs.declared.said.Said.{Said}
use Rattle.aud_report.specs.declared.said.Said.TheVariants as said
use Rattle.cli_lines.specs.declared.ended.Cause.{Cause}
use Rattle.cli_lines.specs.declared.ended.Ended.{Ended}
use Rattle.cli_lines.specs.declared.ended.Ended.TheVariants as ended
use Rattle.cli_lines.specs.Outcomes.{DeviceSeen, Whole, RunOutcome, verdict_ends, ended_by}

verdict-ends : {X : Type 0} (v : Verdict X) (cause : Cause) → verdict_ends v ≡ ended.Failed cause → ⊥
verdict-ends (verdict.Opaque order) cause is = absurd (cc)
verdict-ends verdict.NotOpaque cause is = absurd (cc)
verdict-ends verdict.Unfinished cause is = absurd (cc)
verdict-ends (verdict.Conflict kind log at) cause is = absurd (cc)
verdict-ends (verdict.Waiting log) cause is = absurd (cc)
verdict-ends (verdict.Gap stamp) cause is = absurd (cc)
verdict-ends (verdict.IllFormed stamp rule) cause is = absurd (cc)

-- none ends as failed
pub line-ends : (s : Said) (cause : Cause) → ended_by s ≡ ended.Failed cause → ⊥
line-ends (said.Verdict v) cause is = verdict-ends v cause is
line-ends (said.OrderRefused e) cause is = absurd (cc)
line-ends (said.OrderTextRefused e) cause is = absurd (cc)
line-ends (said.PlanRefused e) cause is = absurd (cc)
line-ends (said.RecordRefused line e) cause is = absurd (cc)
line-ends (said.CertificateLineRefused line e) cause is = absurd (cc)
line-ends said.CertificateRefused cause is = absurd (cc)
line-ends (said.Certified cert) cause is = absurd (cc)
line-ends (said.Refuted lines) cause is = absurd (cc)
line-ends (said.RefutationLineRefused line) cause is = absurd (cc)

-- a run that said a whole line has left what a run leaves that ends so
pub whole-outcome : (May : Said → Type 0) (before after : DeviceSeen) (e : Ended) → Whole May before after e → RunOutcome May before after e
whole-outcome May before after ended.Opaque whole = whole
whole-outcome May before after ended.NotOpaque whole = whole
whole-outcome May before after ended.Unfinished whole = whole
whole-outcome May before after ended.Refused whole = whole
whole-outcome May before after (ended.Failed cause) whole = absurd (line-ends whole.said cause whole.ends)
