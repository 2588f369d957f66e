-- An input: a plan, and the facts of the lines after it.
use Rattle.std.specs.Prelude.{ℕ, List, [], ◌∷◌, Result, Ok, Err, nat_lt, filter}
use Rattle.aud_event.specs.Meanings.{PlanOf}
use Rattle.aud_event.specs.declared.fact.Fact.{Fact}
use Rattle.aud_text.specs.Lines.{Filled, filled_lines}
use Rattle.aud_text.specs.FactText.{fact_read}
use Rattle.aud_text.specs.PlanText.{plan_read}
use Rattle.aud_json.specs.declared.fault.TextFault.{TextFault}
use Rattle.aud_text.specs.declared.fault.PlanTextFault.{PlanTextFault}
use Rattle.cli_input.specs.declared.input.InputFault.{InputFault}
use Rattle.cli_input.specs.declared.input.InputFault.TheVariants.{Plan, Record}

pub record InputOf : Type 0 where
  pub plan : PlanOf
  pub facts : List Fact

-- the lines that are not empty and end after the first `used` bytes
abbrev pub lines_after : ℕ → List ℕ → List Filled
lines_after used text = filter (λ l. nat_lt used l.ends) (filled_lines text)

-- what a line says, with the number of the line where it is refused
abbrev pub reported_at : ℕ → Result Fact TextFault → Result Fact InputFault
reported_at n (Err e) = Err (Record n e)
reported_at n (Ok f) = Ok f

abbrev pub fact_at : PlanOf → ℕ → List ℕ → Result Fact InputFault
fact_at plan n line = reported_at n (fact_read plan line)

-- a line's fact before those of the later lines; of two refused lines the earlier is reported
abbrev pub with_fact : Result Fact InputFault → Result (List Fact) InputFault → Result (List Fact) InputFault
with_fact (Err e) later = Err e
with_fact (Ok f) (Err e) = Err e
with_fact (Ok f) (Ok fs) = Ok (f ∷ fs)

-- the facts of the lines in their order
abbrev pub facts_read : PlanOf → List Filled → Result (List Fact) InputFault
facts_read plan [] = Ok []
facts_read plan (l ∷ ls) = with_fact (fact_at plan l.number l.line) (facts_read plan ls)

abbrev pub with_plan : PlanOf → Result (List Fact) InputFault → Result InputOf InputFault
with_plan plan (Err e) = Err e
with_plan plan (Ok fs) = Ok (record { plan = plan; facts = fs })

abbrev pub after_plan : List ℕ → Result (PlanOf × ℕ) PlanTextFault → Result InputOf InputFault
after_plan text (Err e) = Err (Plan e)
after_plan text (Ok p) = with_plan p.0 (facts_read p.0 (lines_after p.1 text))

-- what a text says: a plan and facts, or the first line that is refused
abbrev pub input_read : List ℕ → Result InputOf InputFault
input_read text = after_plan text (plan_read text)
