-- The line that is written for a fact.
use Rattle.std.specs.Prelude.{ℕ, ℤ, List, [], Option, Some, None, codes, unwrap_or, option_map, slice_get, FitsSigned, ◌≡◌}
use Rattle.std.specs.Int.{w64}
use Rattle.serde_json.specs.Data.{Data, boolean, number, unsigned, string, object, Members, no_members, member}
use Rattle.serde_json.specs.Find.{of_integer}
use Rattle.aud_event.specs.Meanings.{PlanOf}
use Rattle.aud_event.specs.Objects.{name_of, args_of, word_of_op}
use Rattle.aud_event.specs.declared.signature.Args.{Args}
use Rattle.aud_event.specs.declared.signature.Args.TheVariants as args
use Rattle.aud_event.specs.declared.object.OpName.{OpName}
use Rattle.aud_event.specs.declared.object.Answer.{Answer}
use Rattle.aud_event.specs.declared.object.Answer.TheVariants.{Done, Int, Flag, Empty}
use Rattle.aud_event.specs.declared.fact.Event.{Event}
use Rattle.aud_event.specs.declared.fact.Event.TheVariants as event
use Rattle.aud_event.specs.declared.fact.EndMark.{EndMark}
use Rattle.aud_event.specs.declared.fact.Record.{Record}
use Rattle.aud_event.specs.declared.fact.Fact.{Fact}
use Rattle.aud_event.specs.declared.fact.Fact.TheVariants.{Rec, End}
use Rattle.aud_event.specs.Plans.{first_plan_fault}
use Rattle.aud_event.specs.Facts.{first_fact_fault}

abbrev pub whole_data : ℤ → Data
whole_data z = number (of_integer z)

abbrev pub small_data : ℕ → Data
small_data n = number (unsigned n)

abbrev pub answer_data : Answer → Data
answer_data Done = string (codes "done")
answer_data (Int z) = whole_data z
answer_data (Flag b) = boolean b
answer_data Empty = string (codes "empty")

-- the name of an object, by its number
abbrev pub object_name : PlanOf → ℕ → List ℕ
object_name plan ob = unwrap_or (option_map (λ d. d.name) (slice_get plan.objects ob)) []

-- the keys `at`, `ev` and `log`, then the others
abbrev pub headed : Record → List ℕ → Members → Members
headed r ev rest = member (codes "at") (small_data r.at) (member (codes "ev") (string ev) (member (codes "log") (small_data r.log) rest))

-- the keys `stamp` and `tx`, then what ends the line
abbrev pub tailed : Record → Members → Members
tailed r rest = member (codes "stamp") (small_data r.stamp) (member (codes "tx") (small_data r.tx) rest)

-- the value of a pair, which is the last
abbrev pub with_value : Args → Members
with_value args.Nothing = no_members
with_value (args.Number _) = no_members
with_value (args.Pair _ v) = member (codes "val") (whole_data v) no_members

-- the keys `ob` and `op`, then the others
abbrev pub operated : PlanOf → ℕ → OpName → Members → Members
operated plan ob o rest = member (codes "ob") (string (object_name plan ob)) (member (codes "op") (string (word_of_op o)) rest)

-- the number or the key, which is the first
abbrev pub first_of : Args → Option ℤ
first_of args.Nothing = None
first_of (args.Number z) = Some z
first_of (args.Pair z _) = Some z

abbrev pub with_argument : Option ℤ → Members → Members
with_argument None rest = rest
with_argument (Some z) rest = member (codes "arg") (whole_data z) rest

-- an invocation with its arguments
abbrev pub invoked : PlanOf → Record → ℕ → OpName → Args → Members
invoked plan r ob o a = with_argument (first_of a) (headed r (codes "inv") (operated plan ob o (tailed r (with_value a))))

abbrev pub record_members : PlanOf → Record → Event → Members
record_members plan r (event.Inv ob o) = invoked plan r ob (name_of o) (args_of o)
record_members plan r (event.Ret ob o a) = member (codes "ans") (answer_data a) (headed r (codes "ret") (operated plan ob o (tailed r no_members)))
record_members plan r event.TryC = headed r (codes "tryc") (tailed r no_members)
record_members plan r event.TryA = headed r (codes "trya") (tailed r no_members)
record_members plan r event.Commit = headed r (codes "commit") (tailed r no_members)
record_members plan r event.Abort = headed r (codes "abort") (tailed r no_members)

abbrev pub end_members : EndMark → Members
end_members m = member (codes "end") (small_data m.count) (member (codes "log") (small_data m.log) no_members)

-- the keys of a fact's line in the order of their bytes, with their values
abbrev pub fact_members : PlanOf → Fact → Members
fact_members plan (End m) = end_members m
fact_members plan (Rec r) = record_members plan r r.event

abbrev pub data_of : PlanOf → Fact → Data
data_of plan f = object (fact_members plan f)

-- ---- whole numbers of i64

abbrev pub AnswerFits : Answer → Type 0
AnswerFits Done = Unit {0}
AnswerFits (Int z) = FitsSigned w64 z
AnswerFits (Flag b) = Unit {0}
AnswerFits Empty = Unit {0}

abbrev pub ArgsFit : Args → Type 0
ArgsFit args.Nothing = Unit {0}
ArgsFit (args.Number z) = FitsSigned w64 z
ArgsFit (args.Pair k v) = FitsSigned w64 k × FitsSigned w64 v

abbrev pub EventFits : Event → Type 0
EventFits (event.Inv ob o) = ArgsFit (args_of o)
EventFits (event.Ret ob o a) = AnswerFits a
EventFits event.TryC = Unit {0}
EventFits event.TryA = Unit {0}
EventFits event.Commit = Unit {0}
EventFits event.Abort = Unit {0}

-- the arguments or the answer of a fact are whole numbers of i64, where they are numbers
abbrev pub FactFits : Fact → Type 0
FactFits (End m) = Unit {0}
FactFits (Rec r) = EventFits r.event

-- the plan is one, and the fact one of it
pub record IsFactOf (plan : PlanOf) (f : Fact) : Type 0 where
  pub plan_is : first_plan_fault plan ≡ None
  pub fits : FactFits f
  pub taken : first_fact_fault plan f ≡ None
