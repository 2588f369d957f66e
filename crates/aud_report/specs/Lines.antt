-- The line that says what a run found, byte for byte.
use Rattle.std.specs.Prelude.{ℕ, List, [], ◌∷◌, ◌++◌, Option, Some, None, codes, decimal}
use Rattle.aud_facts.specs.Kinds.{kind_number}
use Rattle.aud_facts.specs.declared.status.Kind.{Kind}
use Rattle.aud_history.specs.ByState.{rule_number}
use Rattle.aud_history.specs.declared.rule.Rule.{Rule}
use Rattle.aud_know.specs.declared.verdict.Verdict.{Verdict}
use Rattle.aud_know.specs.declared.verdict.Verdict.TheVariants as verdict
use Rattle.aud_json.specs.Faults.{fault_number, inner_number}
use Rattle.aud_text.specs.Orders.{order_text}
use Rattle.aud_json.specs.declared.fault.TextFault.{TextFault}
use Rattle.aud_witness.specs.OrderFaultNumbers.{order_fault_number, order_fault_transaction}
use Rattle.aud_cert.specs.Written.{cert_text}
use Rattle.aud_report.specs.declared.report.ReportFault.{ReportFault}
use Rattle.aud_report.specs.declared.report.ReportFault.TheVariants.{OutputFailed, OutOfMemory}
use Rattle.aud_report.specs.declared.said.Said.{Said}
use Rattle.aud_report.specs.declared.said.Said.TheVariants as said

-- the number after 8 and after 10
abbrev pub inner_text : Option ℕ → List ℕ
inner_text None = []
inner_text (Some n) = codes " " ++ decimal n

-- a text's fault: its number, and the inner fault's after it
abbrev pub fault_text : TextFault → List ℕ
fault_text e = decimal (fault_number e) ++ inner_text (inner_number e)

abbrev pub conflict_words : Kind → ℕ → ℕ → List ℕ
conflict_words kind log at = codes "conflict " ++ decimal (kind_number kind) ++ codes " at log " ++ decimal log ++ codes " place " ++ decimal at

abbrev pub ill_formed_words : ℕ → Rule → List ℕ
ill_formed_words stamp rule = codes "ill-formed rule " ++ decimal (rule_number rule) ++ codes " at stamp " ++ decimal stamp

-- the line of a verdict without its line feed
abbrev pub verdict_words : {X : Type 0} → Verdict X → List ℕ
verdict_words (verdict.Conflict kind log at) = conflict_words kind log at
verdict_words (verdict.Waiting log) = codes "waiting for log " ++ decimal log
verdict_words (verdict.Gap stamp) = codes "gap at stamp " ++ decimal stamp
verdict_words (verdict.IllFormed stamp rule) = ill_formed_words stamp rule
verdict_words (verdict.Opaque order) = codes "opaque " ++ order_text order
verdict_words verdict.NotOpaque = codes "not opaque"
verdict_words verdict.Unfinished = codes "unfinished"

-- the line of a verdict
abbrev pub verdict_line : {X : Type 0} → Verdict X → List ℕ
verdict_line v = verdict_words v ++ 10 ∷ []

-- the line without its line feed
abbrev pub words_of : Said → List ℕ
words_of (said.Verdict v) = verdict_words v
words_of (said.OrderRefused e) = codes "order refused " ++ decimal (order_fault_number e) ++ codes " tx " ++ decimal (order_fault_transaction e)
words_of (said.OrderTextRefused e) = codes "order text refused " ++ fault_text e
words_of (said.PlanRefused e) = codes "plan line " ++ decimal e.line ++ codes " refused " ++ fault_text e.fault
words_of (said.RecordRefused line e) = codes "record line " ++ decimal line ++ codes " refused " ++ fault_text e
words_of (said.CertificateLineRefused line e) = codes "certificate line " ++ decimal line ++ codes " refused " ++ fault_text e
words_of said.CertificateRefused = codes "certificate refused"
words_of (said.Certified cert) = codes "not opaque"
words_of (said.Refuted lines) = codes "not opaque"
words_of (said.RefutationLineRefused line) = codes "refutation line " ++ decimal line ++ codes " refused"

-- the lines of a certificate or a refutation, where one is said
abbrev pub evidence_of : Said → List ℕ
evidence_of (said.Certified cert) = cert_text cert.lines.items
evidence_of (said.Refuted lines) = lines.items
evidence_of _ = []

-- what is printed: the line, and the evidence after it
abbrev pub line_of : Said → List ℕ
line_of s = words_of s ++ 10 ∷ evidence_of s

abbrev pub report_fault_number : ReportFault → ℕ
report_fault_number OutputFailed = 1
report_fault_number OutOfMemory = 2
