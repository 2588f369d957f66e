-- What may be said of an input.
use Rattle.std.specs.Prelude.{◌≡◌, ◌≢◌, ℕ, ◌+◌, Bool, true, false, List, [], Option, Some, None, Result, Ok, Err, length, map, string_bytes}
use Rattle.aud_event.specs.declared.fact.Fact.{Fact}
use Rattle.aud_event.specs.Meanings.{PlanOf}
use Rattle.aud_history.specs.Histories.{History}
use Rattle.aud_witness.specs.declared.decision.Decision.{Decision}
use Rattle.aud_witness.specs.Orders.{Shows, Opaque}
use Rattle.aud_witness.specs.OrderFaults.{first_order_fault}
use Rattle.aud_facts.specs.Status.{hist}
use Rattle.aud_event.specs.contracts.fact.FactOrd.TheImpl as fact_ord
use Rattle.base_sorted.specs.Sets.{inserted}
use Rattle.aud_know.specs.Verdicts.{FactsReport}
use Rattle.aud_know.specs.declared.verdict.Verdict.TheVariants as verdict
use Rattle.search_prefix.specs.Searches.{SpentBy}
use Rattle.aud_text.specs.Orders.{order_read}
use Rattle.aud_text.specs.Lines.{lines_of}
use Rattle.aud_json.specs.declared.fault.TextFault.{TextFault}
use Rattle.aud_json.specs.declared.fault.TextFault.TheVariants as text_fault
use Rattle.cert_accept.specs.Acceptance.{IsAccepted, elsewhere}
use Rattle.aud_cert.specs.LineText.{OwnCertLine as CertLineOf}
use Rattle.aud_cert.specs.CertText.{cert_read}
use Rattle.aud_cert.specs.declared.fault.CertTextFault.{CertTextFault}
use Rattle.aud_report.specs.declared.said.Said.{Said}
use Rattle.aud_report.specs.declared.said.Said.TheVariants as said
use Rattle.cli_input.specs.Inputs.{InputOf, input_read}
use Rattle.cli_lines.specs.Evidences.{place_of, text_before, text_from}
use Rattle.cli_lines.specs.declared.evidence.Evidence.TheVariants.{Certificate, Refutation}
use Rattle.cli_input.specs.declared.input.InputFault.{InputFault}
use Rattle.cli_input.specs.declared.input.InputFault.TheVariants as fault
use Rattle.cli_lines.specs.declared.request.Request.{Request}
use Rattle.cli_lines.specs.declared.request.Request.TheVariants as request
use Rattle.cli_lines.specs.declared.job.Job.{Job}
use Rattle.cli_lines.specs.declared.job.Job.TheVariants.{Check, Decide, Verify, Refute, Confirm}

-- what a job may say of a well-formed history of a plan
abbrev pub Answers : Type 1
Answers = PlanOf → History → Said → Type 0

-- check: `opaque` with the order if it shows the history, else the order's fault
abbrev pub CheckSays : List Decision → Answers
CheckSays order plan h (said.Verdict (verdict.Opaque p)) = (p ≡ order) × Shows plan.objects h order
CheckSays order plan h (said.OrderRefused e) = first_order_fault plan.objects h order ≡ Some e
CheckSays order plan h _ = ⊥

-- where no order shows the history: `not opaque`, and where a certificate is asked for one that is accepted
abbrev pub NoneSays : Bool → Answers
NoneSays false plan h (said.Verdict verdict.NotOpaque) = Opaque plan.objects h → ⊥
NoneSays true plan h (said.Certified cert) = IsAccepted plan.objects h cert.lines.items × (Opaque plan.objects h → ⊥)
NoneSays certifying plan h _ = ⊥

-- the budget can be spent with neither found
abbrev pub IsSpent : Option ℕ → PlanOf → History → Type 0
IsSpent None plan h = ⊥
IsSpent (Some b) plan h = SpentBy plan.objects h [] b

-- decide: `opaque` with any order that shows the history, or what is said where none does; where there is a budget, or
-- `unfinished` if it can be spent
abbrev pub DecideSays : Option ℕ → Bool → Answers
DecideSays budget certifying plan h (said.Verdict (verdict.Opaque p)) = Shows plan.objects h p
DecideSays budget certifying plan h (said.Verdict verdict.Unfinished) = IsSpent budget plan h
DecideSays budget certifying plan h s = NoneSays certifying plan h s

-- verify: `not opaque` only where the certificate is accepted, and then no order shows the history; else that it is refused
abbrev pub VerifySays : List CertLineOf → Answers
VerifySays lines plan h (said.Verdict verdict.NotOpaque) = IsAccepted plan.objects h lines × (Opaque plan.objects h → ⊥)
VerifySays lines plan h said.CertificateRefused = IsAccepted plan.objects h lines → ⊥
VerifySays lines plan h _ = ⊥

-- refute: an order that shows the history; or `not opaque` with the lines of a refutation, where none does; or `unfinished`
abbrev pub RefuteSays : Answers
RefuteSays plan h (said.Verdict (verdict.Opaque p)) = Shows plan.objects h p
RefuteSays plan h (said.Verdict verdict.Unfinished) = Unit {0}
RefuteSays plan h (said.Refuted lines) = Opaque plan.objects h → ⊥
RefuteSays plan h _ = ⊥

-- confirm: `not opaque` only where no order shows the history; or that a line of the refutation is refused, of which nothing is said
abbrev pub ConfirmSays : Answers
ConfirmSays plan h (said.Verdict verdict.NotOpaque) = Opaque plan.objects h → ⊥
ConfirmSays plan h (said.RefutationLineRefused line) = Unit {0}
ConfirmSays plan h _ = ⊥

-- what may be said where this is asked
abbrev pub RequestSays : Request → Answers
RequestSays (request.Check order) = CheckSays order
RequestSays (request.Decide budget certifying) = DecideSays budget certifying
RequestSays (request.Verify cert) = VerifySays (map elsewhere cert.now.lines.items)
RequestSays request.Refute = RefuteSays
RequestSays (request.Confirm text lines) = ConfirmSays

-- of a set of facts: the status, if they are not sealed, ill-formedness, if their history is not well-formed, else the
-- answer
abbrev pub SetSays : Answers → PlanOf → List Fact → Said → Type 0
SetSays A plan facts s = FactsReport said.Verdict plan.logs facts (A plan (hist facts)) s

-- the same of the facts of an input, as a set
abbrev pub FactsSay : Answers → InputOf → Said → Type 0
FactsSay A i s = SetSays A i.plan (inserted fact_ord.ghosts.cmp i.facts []) s

-- the plan's or the first refused line's refusal; running out of memory is no refusal
abbrev pub RefusesInput : InputFault → Said → Type 0
RefusesInput (fault.Plan e) s = s ≡ said.PlanRefused e
RefusesInput (fault.Record line e) s = s ≡ said.RecordRefused line e
RefusesInput fault.OutOfMemory s = ⊥

-- the input's refusal, else what is said of the facts
abbrev pub InputSays : Answers → Result InputOf InputFault → Said → Type 0
InputSays A (Err e) s = RefusesInput e s
InputSays A (Ok i) s = FactsSay A i s

-- the order text's refusal, else what is said of the input
abbrev pub OrderSays : Result (List Decision) TextFault → List ℕ → Said → Type 0
OrderSays (Err e) input s = s ≡ said.OrderTextRefused e
OrderSays (Ok order) input s = InputSays (CheckSays order) (input_read input) s

-- a line of the certificate is refused, which begins after so many lines; running out of memory is no refusal
abbrev pub RefusesLine : ℕ → CertTextFault → Said → Type 0
RefusesLine before e s = (s ≡ said.CertificateLineRefused (before + e.line) e.fault) × (e.fault ≢ text_fault.OutOfMemory)

-- the refusal of the lines before the certificate, else the refusal of the certificate's first wrong line, counted over the
-- whole input, else what is said of the facts
abbrev pub CertifiedSays : ℕ → Result InputOf InputFault → Result (List CertLineOf) CertTextFault → Said → Type 0
CertifiedSays before (Ok i) (Err e) s = s ≡ said.CertificateLineRefused (before + e.line) e.fault
CertifiedSays before (Ok i) (Ok lines) s = FactsSay (VerifySays lines) i s
CertifiedSays before (Err e) cert s = RefusesInput e s

-- the same where no line begins a certificate: it is missing at the line after the last
abbrev pub UncertifiedSays : ℕ → Result InputOf InputFault → Said → Type 0
UncertifiedSays after (Ok i) s = s ≡ said.CertificateLineRefused after text_fault.KeyMissing
UncertifiedSays after (Err e) s = RefusesInput e s

-- verify: by the place of the first line that begins a certificate
abbrev pub PlaceSays : List ℕ → Option ℕ → Said → Type 0
PlaceSays input None s = UncertifiedSays (length (lines_of input) + 1) (input_read input) s
PlaceSays input (Some n) s = CertifiedSays n (input_read (text_before input n)) (cert_read (text_from input n)) s

-- where no line begins a refutation: it is missing at the line after the last
abbrev pub UnrefutedSays : ℕ → Result InputOf InputFault → Said → Type 0
UnrefutedSays after (Ok i) s = s ≡ said.RefutationLineRefused after
UnrefutedSays after (Err e) s = RefusesInput e s

-- confirm: by the place of the first line that begins a refutation
abbrev pub RefutationSays : List ℕ → Option ℕ → Said → Type 0
RefutationSays input None s = UnrefutedSays (length (lines_of input) + 1) (input_read input) s
RefutationSays input (Some n) s = InputSays ConfirmSays (input_read (text_before input n)) s

-- what a job may say of an input: the first of these that applies
abbrev pub Line : Job → List ℕ → Said → Type 0
Line (Check text) input s = OrderSays (order_read (string_bytes text)) input s
Line (Decide budget certifying) input s = InputSays (DecideSays budget certifying) (input_read input) s
Line Verify input s = PlaceSays input (place_of Certificate input) s
Line Refute input s = InputSays RefuteSays (input_read input) s
Line Confirm input s = RefutationSays input (place_of Refutation input) s
