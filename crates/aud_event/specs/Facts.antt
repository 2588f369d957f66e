-- Which fault is reported of a fact that does not fit its plan.
use Rattle.std.specs.Prelude.{ℕ, Bool, ◌&&◌, if◌then◌else◌, Option, Some, None, nat_lt, nat_le, slice_get}
use Rattle.aud_event.specs.declared.object.OpName.{OpName}
use Rattle.aud_event.specs.declared.signature.Format.{Format}
use Rattle.aud_event.specs.declared.fact.Event.{Event}
use Rattle.aud_event.specs.declared.fact.Event.TheVariants.{Inv, Ret, TryC, TryA, Commit, Abort}
use Rattle.aud_event.specs.declared.fact.Record.{Record}
use Rattle.aud_event.specs.declared.fact.EndMark.{EndMark}
use Rattle.aud_event.specs.declared.fact.Fact.{Fact}
use Rattle.aud_event.specs.declared.fact.Fact.TheVariants.{Rec, End}
use Rattle.aud_event.specs.declared.fact.FactFault.{FactFault}
use Rattle.aud_event.specs.declared.fact.FactFault.TheVariants.{LogRange, AtRange, StampRange, TxRange, NoObject, OpKind, AnswerKind, ArgRange}
use Rattle.aud_event.specs.Limits.{places, stamps, transactions}
use Rattle.aud_event.specs.Meanings.{Declared, PlanOf}
use Rattle.aud_event.specs.Objects.{name_of, is_of_kind, is_in_format, is_answer_of, has_fitting_args}

-- whether objects of the declared kind have the operation in the format
abbrev pub has_operation : Format → Declared → OpName → Bool
has_operation format d name = is_of_kind d.kind name && is_in_format format name

-- the first fault of an operation on what stands at an object's number
abbrev pub first_use_fault : Format → Option Declared → OpName → Option FactFault
first_use_fault format None name = Some NoObject
first_use_fault format (Some d) name = if has_operation format d name then None else Some OpKind

-- a further fault is looked at where nothing else is wrong
abbrev pub or_else_fault : Option FactFault → Bool → FactFault → Option FactFault
or_else_fault (Some fault) fits last = Some fault
or_else_fault None fits last = if fits then None else Some last

-- the first fault of an event, whoever recorded it
abbrev pub first_event_fault : PlanOf → Event → Option FactFault
first_event_fault plan (Inv ob op) =
    or_else_fault (first_use_fault plan.format (slice_get plan.objects ob) (name_of op)) (has_fitting_args op) ArgRange
first_event_fault plan (Ret ob name answer) =
    or_else_fault (first_use_fault plan.format (slice_get plan.objects ob) name) (is_answer_of name answer) AnswerKind
first_event_fault plan TryC = None
first_event_fault plan TryA = None
first_event_fault plan Commit = None
first_event_fault plan Abort = None

-- the first fault of a record, in the order of their numbers
abbrev pub first_record_fault : PlanOf → Record → Option FactFault
first_record_fault plan r =
    if nat_le plan.logs r.log then Some LogRange
    else (if nat_le places r.at then Some AtRange
    else (if nat_le stamps r.stamp then Some StampRange
    else (if nat_le (transactions plan.format) r.tx then Some TxRange
    else first_event_fault plan r.event)))

-- the first fault of an end mark
abbrev pub first_end_mark_fault : PlanOf → EndMark → Option FactFault
first_end_mark_fault plan e =
    if nat_le plan.logs e.log then Some LogRange
    else (if nat_lt places e.count then Some AtRange
    else None)

abbrev pub first_fact_fault : PlanOf → Fact → Option FactFault
first_fact_fault plan (Rec r) = first_record_fault plan r
first_fact_fault plan (End e) = first_end_mark_fault plan e

abbrev pub fact_fault_number : FactFault → ℕ
fact_fault_number LogRange = 1
fact_fault_number AtRange = 2
fact_fault_number StampRange = 3
fact_fault_number TxRange = 4
fact_fault_number NoObject = 5
fact_fault_number OpKind = 6
fact_fault_number AnswerKind = 7
fact_fault_number ArgRange = 8
