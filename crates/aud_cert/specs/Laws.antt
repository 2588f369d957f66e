-- Laws of the definitions, each the contract of a function of src/laws.rt.
use Rattle.std.specs.Prelude.{◌≡◌, ◌<◌, ◌^◌, Ok, List, All, length}
use Rattle.aud_event.specs.Meanings.{PlanOf}
use Rattle.aud_history.specs.Histories.{History}
use Rattle.aud_history.specs.FirstFault.{IsWithinLimits}
use Rattle.cert_accept.specs.Acceptance.{IsAccepted}
use Rattle.aud_cert.specs.LineText.{OwnCertLine}
use Rattle.aud_cert.specs.CertText.{cert_read}
use Rattle.aud_cert.specs.Written.{cert_text, IsWithin}

-- what is written of the lines reads as them
abbrev pub ReadsAsThem : List OwnCertLine → Type 0
ReadsAsThem lines = length lines < 2 ^ 63 → cert_read (cert_text lines) ≡ Ok lines

-- what is written of lines within the limits reads as them
abbrev pub CertificatesReadBack : Type 0
CertificatesReadBack = (lines : List OwnCertLine) → All IsWithin lines → ReadsAsThem lines

-- each line of what is accepted is within the limits, and what is written of the lines reads as them
abbrev pub AcceptedReadsBack : Type 0
AcceptedReadsBack = (plan : PlanOf) (h : History) (lines : List OwnCertLine) → IsWithinLimits plan h → IsAccepted plan.objects h lines →
    All IsWithin lines × ReadsAsThem lines
