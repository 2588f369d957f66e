-- What an audit may say of a well-formed history.
use Rattle.std.specs.Prelude.{ℕ, List, [], Option, Some, None, false}
use Rattle.aud_event.specs.Meanings.{PlanOf}
use Rattle.aud_history.specs.Histories.{History}
use Rattle.aud_witness.specs.declared.decision.Decision.{Decision}
use Rattle.aud_know.specs.declared.verdict.Verdict.TheVariants as verdict
use Rattle.aud_split.specs.Searched.{AreUnfinished}
use Rattle.aud_split.specs.Tasks.{AreTasks}
use Rattle.aud_report.specs.declared.said.Said.TheVariants as said
use Rattle.cli_lines.specs.Line.{Answers, DecideSays}

-- of the tasks below the empty prefix, at a depth of two, each is refuted or its budget can be spent, and of one it can
abbrev pub AreLeftOpen : ℕ → PlanOf → History → Type 0
AreLeftOpen budget plan h = (tasks : List (List Decision)) × (AreTasks plan.objects h [] 2 tasks × AreUnfinished plan.objects h budget tasks)

-- an audit: what decide says without a budget; where there is one, or `unfinished` if it leaves tasks open
abbrev pub AuditSays : Option ℕ → Answers
AuditSays (Some budget) plan h (said.Verdict verdict.Unfinished) = AreLeftOpen budget plan h
AuditSays budget plan h s = DecideSays None false plan h s
