-- The text of a plan: a header line and a line for each object.
use Rattle.std.specs.Prelude.{ℕ, zero, suc, ◌+◌, ◌-◌, ◌==◌, ℤ, pos, List, [], ◌∷◌, ◌&&◌, Bool, true, false, Option, Some, None, Result, Ok, Err, nat_lt, nat_eq, if◌then◌else◌, length, codes, option_map, option_and_then}
use Rattle.serde_json.specs.Data.{Data, Members}
use Rattle.serde_json.specs.Find.{as_object}
use Rattle.aud_event.specs.Meanings.{Declared, PlanOf}
use Rattle.aud_event.specs.Objects.{row_of_kind}
use Rattle.aud_event.specs.Plans.{plan_of, first_plan_fault}
use Rattle.aud_event.specs.Words.{kind_of_word_in}
use Rattle.aud_event.specs.declared.signature.Format.{Format}
use Rattle.aud_event.specs.declared.signature.Format.TheVariants.{One, Two}
use Rattle.aud_event.specs.declared.signature.Opens.{Opens}
use Rattle.aud_event.specs.declared.signature.Opens.TheVariants as opens
use Rattle.aud_event.specs.Limits.{most_logs, most_objects}
use Rattle.aud_event.specs.declared.object.ObjKind.{ObjKind}
use Rattle.aud_event.specs.declared.plan.PlanFault.{PlanFault}
use Rattle.aud_event.specs.declared.plan.PlanFault.TheVariants.{NoLogs, TooManyLogs, TooManyObjects, OutOfMemory}
use Rattle.aud_json.specs.declared.fault.TextFault.{TextFault}
use Rattle.aud_json.specs.declared.fault.TextFault.TheVariants as fault
use Rattle.aud_text.specs.declared.fault.PlanTextFault.{PlanTextFault}
use Rattle.aud_text.specs.declared.header.Header.{Header}
use Rattle.aud_text.specs.declared.object.ObjectLine.{ObjectLine}
use Rattle.aud_text.specs.Json.{json_read}
use Rattle.aud_json.specs.Keys.{Key, has_all, has_only, small_at, whole_at, word_at, text_fits, whole_fits}
use Rattle.aud_text.specs.Lines.{Filled, lines_of, filled_left, filled_lines}
use Rattle.aud_text.specs.Limits.{longest_line}

-- ---- the header line

abbrev pub header_keys : List Key
header_keys = codes "format" ∷ codes "logs" ∷ codes "objects" ∷ []

-- the format of a number
abbrev pub format_of : ℕ → Option Format
format_of n = if n == 1 then Some One else (if n == 2 then Some Two else None)

-- `format` is 1 or 2, and the others are whole numbers from 0 to 4,294,967,295
abbrev pub header_of : Data → Option Header
header_of d =
    option_and_then (λ format. option_and_then (λ logs. option_map (λ objects. record { format = format; logs = logs; objects = objects })
    (small_at (codes "objects") d)) (small_at (codes "logs") d)) (option_and_then format_of (small_at (codes "format") d))

abbrev pub header_or_type : Option Header → Result Header TextFault
header_or_type None = Err fault.TypeOrRange
header_or_type (Some h) = Ok h

abbrev pub header_members : Data → Option Members → Result Header TextFault
header_members d None = Err fault.NotObject
header_members d (Some ms) =
    if has_all header_keys d
    then (if has_only header_keys ms then header_or_type (header_of d) else Err fault.KeyUnknown)
    else Err fault.KeyMissing

abbrev pub header_json : Result Data TextFault → Result Header TextFault
header_json (Err e) = Err e
header_json (Ok d) = header_members d (as_object d)

-- what a line says as the header
abbrev pub header_read : List ℕ → Result Header TextFault
header_read line = header_json (json_read longest_line line)

-- the first fault of a plan that shows before its objects are read
abbrev pub header_fault : Header → Option PlanFault
header_fault h =
    if nat_eq h.logs 0 then Some NoLogs
    else (if nat_lt most_logs h.logs then Some TooManyLogs
    else (if nat_lt most_objects h.objects then Some TooManyObjects
    else None))

-- ---- an object line

-- whether an object that opens so says where: all do but those that open empty
abbrev pub is_said : Opens → Bool
is_said opens.Anywhere = true
is_said opens.InRange = true
is_said opens.Empty = false

abbrev pub says_opening : ObjKind → Bool
says_opening k = is_said (row_of_kind k).opens

-- the kind of the format, where `kind` has the word of one
abbrev pub kind_at : Format → Data → Option ObjKind
kind_at format d = option_and_then (kind_of_word_in format) (word_at (codes "kind") d)

abbrev pub closed_keys : List Key
closed_keys = codes "kind" ∷ codes "name" ∷ []

abbrev pub open_keys : List Key
open_keys = codes "kind" ∷ codes "name" ∷ codes "open" ∷ []

-- the keys that must stand
abbrev pub object_required : Option ObjKind → List Key
object_required None = closed_keys
object_required (Some k) = if says_opening k then open_keys else closed_keys

-- the keys that may stand: no others than those that must, where the kind is known
abbrev pub object_allowed : Option ObjKind → List Key
object_allowed None = open_keys
object_allowed (Some k) = object_required (Some k)

-- each key that stands has a value of its type
abbrev pub object_types_fit : Data → Bool
object_types_fit d = text_fits (codes "kind") d && (text_fits (codes "name") d && whole_fits (codes "open") d)

abbrev pub opening_at : ObjKind → Data → Option ℤ
opening_at k d = if says_opening k then whole_at (codes "open") d else Some (pos 0)

-- where keys and types are right, this is None for an unknown word alone
abbrev pub object_of : Data → Option ObjKind → Option Declared
object_of d None = None
object_of d (Some k) =
    option_and_then (λ name. option_map (λ opening. record { name = name; kind = k; opening = opening }) (opening_at k d)) (word_at (codes "name") d)

abbrev pub object_or_word : Option Declared → Result Declared TextFault
object_or_word None = Err fault.UnknownWord
object_or_word (Some o) = Ok o

abbrev pub object_as : Data → Members → Option ObjKind → Result Declared TextFault
object_as d ms k =
    if has_all (object_required k) d
    then (if has_only (object_allowed k) ms
    then (if object_types_fit d then object_or_word (object_of d k) else Err fault.TypeOrRange)
    else Err fault.KeyUnknown)
    else Err fault.KeyMissing

abbrev pub object_members : Format → Data → Option Members → Result Declared TextFault
object_members format d None = Err fault.NotObject
object_members format d (Some ms) = object_as d ms (kind_at format d)

abbrev pub object_judged : Format → Data → Result Declared TextFault
object_judged format d = object_members format d (as_object d)

abbrev pub object_json : Format → Result Data TextFault → Result Declared TextFault
object_json format (Err e) = Err e
object_json format (Ok d) = object_judged format d

-- what a line says as an object
abbrev pub object_read : Format → List ℕ → Result Declared TextFault
object_read format line = object_json format (json_read longest_line line)

-- what a line says, as a declaration
abbrev pub declared : ObjectLine → Declared
declared o = record { name = o.name.now; kind = o.kind; opening = o.opening }

-- ---- the whole text

abbrev pub at_line : ℕ → TextFault → PlanTextFault
at_line n e = record { line = n; fault = e }

-- an object before those of the later lines; of two faults that of the earlier line
abbrev pub with_object : ℕ → Result Declared TextFault → Result (List Declared × ℕ) PlanTextFault → Result (List Declared × ℕ) PlanTextFault
with_object n (Err e) later = Err (at_line n e)
with_object n (Ok o) (Err e) = Err e
with_object n (Ok o) (Ok p) = Ok (o ∷ p.0, p.1)

-- the objects of so many lines, and the bytes up to the end of the last of them; `after` is the number of the line after the text's last
abbrev pub objects_read : Format → ℕ → ℕ → ℕ → List Filled → Result (List Declared × ℕ) PlanTextFault
objects_read format after used zero ls = Ok ([], used)
objects_read format after used (suc k) [] = Err (at_line after fault.KeyMissing)
objects_read format after used (suc k) (l ∷ ls) = with_object l.number (object_read format l.line) (objects_read format after l.ends k ls)

-- the objects of so many lines of what is left of a text, from a line of this number on
abbrev pub objects_left : Format → List ℕ → List ℕ → ℕ → ℕ → Result (List Declared × ℕ) PlanTextFault
objects_left format text left number count = objects_read format (length (lines_of text) + 1) (length text - length left) count (filled_left (length text) number left)

-- a fault of the objects together, as it is reported
abbrev pub reported_as : PlanFault → TextFault
reported_as OutOfMemory = fault.OutOfMemory
reported_as e = fault.Plan e

abbrev pub plan_checked : PlanOf → ℕ → Option PlanFault → Result (PlanOf × ℕ) PlanTextFault
plan_checked plan used None = Ok (plan, used)
plan_checked plan used (Some e) = Err (at_line 0 (fault.Plan e))

abbrev pub plan_made : Format → ℕ → Result (List Declared × ℕ) PlanTextFault → Result (PlanOf × ℕ) PlanTextFault
plan_made format logs (Err e) = Err e
plan_made format logs (Ok p) = plan_checked (plan_of format logs p.0) p.1 (first_plan_fault (plan_of format logs p.0))

abbrev pub plan_begun : ℕ → Filled → List Filled → Header → Option PlanFault → Result (PlanOf × ℕ) PlanTextFault
plan_begun after l ls h (Some e) = Err (at_line l.number (fault.Plan e))
plan_begun after l ls h None = plan_made h.format h.logs (objects_read h.format after l.ends h.objects ls)

abbrev pub plan_headed : ℕ → Filled → List Filled → Result Header TextFault → Result (PlanOf × ℕ) PlanTextFault
plan_headed after l ls (Err e) = Err (at_line l.number e)
plan_headed after l ls (Ok h) = plan_begun after l ls h (header_fault h)

abbrev pub plan_of_lines : ℕ → List Filled → Result (PlanOf × ℕ) PlanTextFault
plan_of_lines after [] = Err (at_line after fault.KeyMissing)
plan_of_lines after (l ∷ ls) = plan_headed after l ls (header_read l.line)

-- the plan that a text begins with, and the bytes up to the end of its last line
abbrev pub plan_read : List ℕ → Result (PlanOf × ℕ) PlanTextFault
plan_read text = plan_of_lines (length (lines_of text) + 1) (filled_lines text)
