-- The verdict on what is known.
use Rattle.std.specs.Prelude.{◌≡◌, ◌⊎◌, ℕ, List, [], Option, Some, None}
use Rattle.aud_event.specs.declared.fact.Fact.{Fact}
use Rattle.aud_history.specs.Histories.{History}
use Rattle.aud_history.specs.WellFormed.{IsWellFormed}
use Rattle.aud_history.specs.FirstFault.{IsFirstFault}
use Rattle.aud_facts.specs.declared.status.FactStatus.{FactStatus}
use Rattle.aud_facts.specs.declared.status.FactStatus.TheVariants as status
use Rattle.aud_facts.specs.Status.{fact_status, hist}
use Rattle.aud_witness.specs.declared.decision.Decision.{Decision}
use Rattle.aud_cover.specs.Closings.{IsClosed}
use Rattle.aud_know.specs.Known.{KnowledgeOf}
use Rattle.aud_know.specs.declared.verdict.Verdict.{Verdict}
use Rattle.aud_know.specs.declared.verdict.Verdict.TheVariants as verdict

-- the witness, if there is one; else whether the cover closes the empty prefix
abbrev pub OfWellFormed : {X : Type 0} → Type 0 → Option (List Decision) → Verdict X → Type 0
OfWellFormed Closed (Some p) v = v ≡ verdict.Opaque p
OfWellFormed Closed None v = ((v ≡ verdict.NotOpaque) × Closed) ⊎ ((v ≡ verdict.Unfinished) × (Closed → ⊥))

-- what is reported of facts by their status alone
abbrev pub status_reported : {X : Type 0} → FactStatus → Option (Verdict X)
status_reported (status.Conflict kind log at) = Some (verdict.Conflict kind log at)
status_reported (status.Waiting log) = Some (verdict.Waiting log)
status_reported (status.Gap stamp) = Some (verdict.Gap stamp)
status_reported status.Sealed = None

-- of a history: the first rule that it breaks, or what is answered of it where it is well-formed
abbrev pub HistoryReports : {X S : Type 0} → (Verdict X → S) → History → (S → Type 0) → S → Type 0
HistoryReports reported h Answers s =
    ((stamp : _) × ((rule : _) × (IsFirstFault h stamp rule × (s ≡ reported (verdict.IllFormed stamp rule))))) ⊎ (IsWellFormed h × Answers s)

abbrev pub StatusReports : {X S : Type 0} → (Verdict X → S) → History → (S → Type 0) → Option (Verdict X) → S → Type 0
StatusReports reported h Answers (Some v) s = s ≡ reported v
StatusReports reported h Answers None s = HistoryReports reported h Answers s

-- of facts: the first that holds of a conflict, a log that waits, a gap, and a rule that their history breaks, as it is
-- reported; else what is answered of the history
abbrev pub FactsReport : {X S : Type 0} → (Verdict X → S) → ℕ → List Fact → (S → Type 0) → S → Type 0
FactsReport reported logs facts Answers s = StatusReports reported (hist facts) Answers (status_reported (fact_status logs facts)) s

-- what is reported before any answer
abbrev pub FactsReportAtOnce : {X : Type 0} → ℕ → List Fact → Verdict X → Type 0
FactsReportAtOnce logs facts v = FactsReport (λ reported. reported) logs facts (λ answer. ⊥) v

-- the verdict on what is known: what its facts say, the answer being the witness, or whether the cover closes all orders
abbrev pub IsVerdict : {X : Type 0} → KnowledgeOf → Verdict X → Type 0
IsVerdict k v =
    FactsReport (λ reported. reported) k.plan.logs k.held.facts
    (OfWellFormed (IsClosed k.plan.objects (hist k.held.facts) k.held.cover []) k.held.witness) v
