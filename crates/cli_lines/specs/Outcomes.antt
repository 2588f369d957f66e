-- How a run ends, and what it leaves of its source and its sink.
use Rattle.std.specs.Prelude.{◌≡◌, ◌+◌, ◌++◌, ℕ, List, Result, Ok, Err, codes, ⊤}
use Rattle.aud_know.specs.declared.verdict.Verdict.{Verdict}
use Rattle.aud_know.specs.declared.verdict.Verdict.TheVariants as verdict
use Rattle.aud_report.specs.Devices.{BeginsOnly}
use Rattle.aud_report.specs.Lines.{line_of}
use Rattle.aud_report.specs.declared.said.Said.{Said}
use Rattle.aud_report.specs.declared.said.Said.TheVariants as said
use Rattle.cli_lines.specs.declared.ended.Cause.{Cause}
use Rattle.cli_lines.specs.declared.ended.Cause.TheVariants.{Memory, Input, Output, Thread}
use Rattle.cli_lines.specs.declared.ended.Ended.{Ended}
use Rattle.cli_lines.specs.declared.job.Job.{Job}
use Rattle.cli_lines.specs.Line.{Line}
use Rattle.cli_lines.specs.declared.ended.Ended.TheVariants as ended

-- how a run ends that says this verdict
abbrev pub verdict_ends : {X : Type 0} → Verdict X → Ended
verdict_ends (verdict.Opaque order) = ended.Opaque
verdict_ends verdict.NotOpaque = ended.NotOpaque
verdict_ends verdict.Unfinished = ended.Unfinished
verdict_ends (verdict.Conflict kind log at) = ended.Refused
verdict_ends (verdict.Waiting log) = ended.Refused
verdict_ends (verdict.Gap stamp) = ended.Refused
verdict_ends (verdict.IllFormed stamp rule) = ended.Refused

-- how a run ends that says this
abbrev pub ended_by : Said → Ended
ended_by (said.Verdict v) = verdict_ends v
ended_by (said.OrderRefused e) = ended.Refused
ended_by (said.OrderTextRefused e) = ended.Refused
ended_by (said.PlanRefused e) = ended.Refused
ended_by (said.RecordRefused line e) = ended.Refused
ended_by (said.CertificateLineRefused line e) = ended.Refused
ended_by said.CertificateRefused = ended.Refused
ended_by (said.Certified cert) = ended.NotOpaque
ended_by (said.Refuted lines) = ended.NotOpaque
ended_by (said.RefutationLineRefused line) = ended.Refused

-- the bytes are a line that the job may say of the input, and a job ends so that says it
abbrev pub IsLine : Job → List ℕ → List ℕ → Ended → Type 0
IsLine job input line e = (s : Said) × (Line job input s × (line ≡ line_of s) × (ended_by s ≡ e))

-- the exit status of a run that ends so
abbrev pub exit_status_of : Ended → ℕ
exit_status_of ended.Opaque = 0
exit_status_of ended.NotOpaque = 1
exit_status_of ended.Unfinished = 2
exit_status_of ended.Refused = 3
exit_status_of (ended.Failed cause) = 4

-- and of the program, which may have run nothing
abbrev pub exit_status : {U : Type 0} → Result Ended U → ℕ
exit_status (Ok e) = exit_status_of e
exit_status (Err usage) = 64

-- what standard error has where a run failed
abbrev pub message : Cause → List ℕ
message Memory = codes "opaq: out of memory\n"
message Input = codes "opaq: input failed\n"
message Output = codes "opaq: output failed\n"
message Thread = codes "opaq: no thread\n"

-- what reading an input fails for
abbrev pub IsOfReading : Cause → Type 0
IsOfReading Memory = ⊤
IsOfReading Input = ⊤
IsOfReading Output = ⊥
IsOfReading Thread = ⊥

-- what is seen of the devices at one moment: how often the source and the sink failed so far, and what the sink holds
pub record DeviceSeen : Type 0 where
  pub source_failures : ℕ
  pub sink_failures : ℕ
  pub held : List ℕ

-- one line went out that may be said, no device failed, and the run ends as the line says
pub record Whole (May : Said → Type 0) (before after : DeviceSeen) (e : Ended) : Type 0 where
  pub said : Said
  pub may : May said
  pub ends : ended_by said ≡ e
  pub written : after.held ≡ before.held ++ line_of said
  pub read : after.source_failures ≡ before.source_failures
  pub wrote : after.sink_failures ≡ before.sink_failures

-- the sink failed, and a beginning of a line went out that may be said
pub record Cut (May : Said → Type 0) (before after : DeviceSeen) : Type 0 where
  pub said : Said
  pub may : May said
  pub written : BeginsOnly before.held after.held (line_of said)
  pub read : after.source_failures ≡ before.source_failures
  pub wrote : after.sink_failures ≡ before.sink_failures + 1

-- nothing went out, and the source failed so often
pub record NothingSaid (failures : ℕ) (before after : DeviceSeen) : Type 0 where
  pub written : after.held ≡ before.held
  pub read : after.source_failures ≡ before.source_failures + failures
  pub wrote : after.sink_failures ≡ before.sink_failures

abbrev pub CutBy : Cause → (Said → Type 0) → DeviceSeen → DeviceSeen → Type 0
CutBy Memory May before after = NothingSaid 0 before after
CutBy Input May before after = NothingSaid 1 before after
CutBy Output May before after = Cut May before after
CutBy Thread May before after = ⊥

-- what a run leaves that ends so, where these are the things that it may say
abbrev pub RunOutcome : (Said → Type 0) → DeviceSeen → DeviceSeen → Ended → Type 0
RunOutcome May before after ended.Opaque = Whole May before after ended.Opaque
RunOutcome May before after ended.NotOpaque = Whole May before after ended.NotOpaque
RunOutcome May before after ended.Unfinished = Whole May before after ended.Unfinished
RunOutcome May before after ended.Refused = Whole May before after ended.Refused
RunOutcome May before after (ended.Failed cause) = CutBy cause May before after
