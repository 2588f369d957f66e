-- The lines of facts.
use Rattle.std.specs.Prelude.{ℕ, List, Result, Ok, Err}
use Rattle.serde_json.specs.Data.{Data}
use Rattle.aud_event.specs.Meanings.{PlanOf}
use Rattle.aud_event.specs.declared.fact.Fact.{Fact}
use Rattle.aud_json.specs.declared.fault.TextFault.{TextFault}
use Rattle.aud_json.specs.Judged.{judged}
use Rattle.aud_text.specs.Json.{json_read}
use Rattle.aud_text.specs.Limits.{longest_line}

abbrev pub judged_json : PlanOf → Result Data TextFault → Result Fact TextFault
judged_json plan (Err e) = Err e
judged_json plan (Ok d) = judged plan d

-- what a line says in the plan
abbrev pub fact_read : PlanOf → List ℕ → Result Fact TextFault
fact_read plan line = judged_json plan (json_read longest_line line)
