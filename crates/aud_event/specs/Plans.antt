-- What makes a plan, and which fault is reported of what is none.
use Rattle.std.specs.Prelude.{◌≡◌, suc, option_map, ℕ, ℤ, pos, Bool, true, not, ◌&&◌, ◌||◌, if◌then◌else◌, List, [], ◌∷◌, length, Option, Some, None, nat_eq, nat_lt, nat_le, int_le, bytes_eq, MatchOption, MatchResult, Result, false, ◌⊎◌}
use Rattle.std.specs.List.{list_all, list_any}
use Rattle.std.specs.BTreeMap.{BTreeMap, get_by_text}
use Rattle.std.specs.declared.string.String.{String}
use Rattle.std.specs.Char.{is_ascii_alphanumeric}
use Rattle.std.specs.Ordering.{int_eq}
use Rattle.aud_event.specs.declared.plan.PlanFault.{PlanFault}
use Rattle.aud_event.specs.declared.plan.PlanFault.TheVariants.{NoLogs, TooManyLogs, TooManyObjects, NameTwice, OpeningRange, BadName, OutOfMemory, KindFormat}
use Rattle.aud_event.specs.Limits.{most_logs, most_objects, longest_name, least_opening, greatest_opening}
use Rattle.aud_event.specs.Meanings.{Declared, PlanOf}
use Rattle.aud_event.specs.Objects.{has_since, row_of_kind}
use Rattle.aud_event.specs.declared.signature.Format.{Format}
use Rattle.aud_event.specs.declared.signature.Format.TheVariants.{One}
use Rattle.aud_event.specs.declared.signature.Opens.{Opens}
use Rattle.aud_event.specs.declared.signature.Opens.TheVariants as opens

-- an ASCII letter, a digit or an underscore
abbrev pub is_name_byte : ℕ → Bool
is_name_byte b = is_ascii_alphanumeric b || nat_eq b 95

abbrev pub is_name : List ℕ → Bool
is_name name = nat_le 1 (length name) && nat_le (length name) longest_name && list_all is_name_byte name

-- whether a declaration has the name
abbrev pub has_name : List ℕ → Declared → Bool
has_name name d = bytes_eq d.name name

abbrev pub names_differ : List Declared → Bool
names_differ [] = true
names_differ (d ∷ ds) = not (list_any (has_name d.name) ds) && names_differ ds

abbrev pub opens_at_value : Opens → ℤ → Bool
opens_at_value opens.Anywhere v = true
opens_at_value opens.InRange v = int_le least_opening v && int_le v greatest_opening
opens_at_value opens.Empty v = int_eq v (pos 0)

-- a register opens anywhere, a counter within its range, all others empty
abbrev pub is_opening : Declared → Bool
is_opening d = opens_at_value (row_of_kind d.kind).opens d.opening

-- whether the format has the object's kind
abbrev pub is_kind_in : Format → Declared → Bool
is_kind_in format d = has_since format (row_of_kind d.kind).since

-- the first fault of the objects one by one
abbrev pub first_value_fault : Format → List Declared → Option PlanFault
first_value_fault format objects =
    if not (list_all is_opening objects) then Some OpeningRange
    else (if not (list_all (λ d. is_name d.name) objects) then Some BadName
    else (if not (list_all (is_kind_in format) objects) then Some KindFormat
    else None))

-- the first fault of a plan to be, in the order in which they are looked for
abbrev pub first_plan_fault : PlanOf → Option PlanFault
first_plan_fault plan =
    if nat_eq plan.logs 0 then Some NoLogs
    else (if nat_lt most_logs plan.logs then Some TooManyLogs
    else (if nat_lt most_objects (length plan.objects) then Some TooManyObjects
    else (if not (names_differ plan.objects) then Some NameTwice
    else first_value_fault plan.format plan.objects)))

-- what a plan of these would be
abbrev pub plan_of : Format → ℕ → List Declared → PlanOf
plan_of format logs objects = record { format = format; logs = logs; objects = objects }

-- of no logs and no objects, which is none
abbrev pub empty_plan : PlanOf
empty_plan = plan_of One 0 []

abbrev pub plan_fault_number : PlanFault → ℕ
plan_fault_number NoLogs = 1
plan_fault_number TooManyLogs = 2
plan_fault_number TooManyObjects = 3
plan_fault_number NameTwice = 4
plan_fault_number OpeningRange = 5
plan_fault_number BadName = 6
plan_fault_number OutOfMemory = 7
plan_fault_number KindFormat = 8

-- the number of the first object of the name
abbrev pub number_of : List ℕ → List Declared → Option ℕ
number_of name [] = None
number_of name (d ∷ ds) = if has_name name d then Some 0 else option_map suc (number_of name ds)

-- a map from names to numbers that answers what a look through the objects answers
abbrev pub IsIndex : {Y : Type 0} → BTreeMap (String Y) ℕ → List Declared → Type 0
IsIndex numbers objects = (name : List ℕ) → get_by_text numbers name ≡ number_of name objects

-- the numbers of the objects by their names; none where a name stands twice
abbrev pub NumbersNames : {Y : Type 0} → List Declared → Option (BTreeMap (String Y) ℕ) → Type 0
NumbersNames objects found = MatchOption found (names_differ objects ≡ false) (λ numbers. (names_differ objects ≡ true) × IsIndex numbers objects)

-- a plan was made where it has no fault; else its first fault was answered, or memory was refused
abbrev pub JudgesParts : {X : Type 0} → PlanOf → Result X PlanFault → Type 0
JudgesParts plan result =
    MatchResult result (λ _. first_plan_fault plan ≡ None) (λ e. (e ≡ OutOfMemory) ⊎ (first_plan_fault plan ≡ Some e))
