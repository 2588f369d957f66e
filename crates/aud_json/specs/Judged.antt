-- What a JSON value says as a fact.
use Rattle.std.specs.Prelude.{ℕ, List, [], ◌∷◌, ◌&&◌, Bool, true, false, Option, Some, None, Result, Ok, Err, if◌then◌else◌, codes, is_some, unwrap_or, option_map, option_and_then, bytes_eq}
use Rattle.std.specs.List.{list_all}
use Rattle.serde_json.specs.Data.{Data, null, boolean, number, string, array, object, Members}
use Rattle.serde_json.specs.Find.{get, as_object, as_i64}
use Rattle.aud_event.specs.Meanings.{PlanOf}
use Rattle.aud_event.specs.Plans.{number_of}
use Rattle.aud_event.specs.Facts.{first_fact_fault}
use Rattle.aud_event.specs.Words.{op_of_word_in}
use Rattle.aud_event.specs.Limits.{most_objects}
use Rattle.aud_event.specs.Objects.{signature_of, op_with}
use Rattle.aud_event.specs.declared.signature.Args.{Args}
use Rattle.aud_event.specs.declared.signature.Args.TheVariants as args
use Rattle.aud_event.specs.declared.signature.Format.{Format}
use Rattle.aud_event.specs.declared.signature.Format.TheVariants.{One, Two}
use Rattle.aud_event.specs.declared.signature.Takes.{Takes}
use Rattle.aud_event.specs.declared.signature.Takes.TheVariants as takes
use Rattle.aud_event.specs.declared.object.OpName.{OpName}
use Rattle.aud_event.specs.declared.object.Answer.{Answer}
use Rattle.aud_event.specs.declared.object.Answer.TheVariants.{Done, Int, Flag, Empty}
use Rattle.aud_event.specs.declared.fact.Event.{Event}
use Rattle.aud_event.specs.declared.fact.Event.TheVariants as event
use Rattle.aud_event.specs.declared.fact.Fact.{Fact}
use Rattle.aud_event.specs.declared.fact.Fact.TheVariants.{Rec, End}
use Rattle.aud_event.specs.declared.fact.FactFault.{FactFault}
use Rattle.aud_json.specs.declared.fault.TextFault.{TextFault}
use Rattle.aud_json.specs.declared.fault.TextFault.TheVariants as fault
use Rattle.aud_json.specs.declared.shape.LineShape.{LineShape}
use Rattle.aud_json.specs.declared.shape.LineShape.TheVariants.{EndMark, Invoke, Respond, TryCommit, TryAbort, Commit, Abort, Strange}
use Rattle.aud_json.specs.Keys.{Key, has, has_all, has_only, small_at, whole_at, word_at, fits_at, small_fits, text_fits, whole_fits}

-- ---- words

abbrev pub answer_of_word : List ℕ → Option Answer
answer_of_word w = if bytes_eq w (codes "done") then Some Done else (if bytes_eq w (codes "empty") then Some Empty else None)

-- ---- which keys

-- the operation of the format that `op` has the word of
abbrev pub op_at : Format → Data → Option OpName
op_at format d = option_and_then (op_of_word_in format) (word_at (codes "op") d)

-- what a word at `ev` makes of a line; an invocation is known by its operation, where `op` has the word of one
abbrev pub shape_of_event : Format → Data → List ℕ → LineShape
shape_of_event format d w =
    if bytes_eq w (codes "inv") then Invoke (op_at format d)
    else (if bytes_eq w (codes "ret") then Respond
    else (if bytes_eq w (codes "tryc") then TryCommit
    else (if bytes_eq w (codes "trya") then TryAbort
    else (if bytes_eq w (codes "commit") then Commit
    else (if bytes_eq w (codes "abort") then Abort else Strange)))))

abbrev pub shape_of_ev : Format → Data → Option (List ℕ) → LineShape
shape_of_ev format d None = Strange
shape_of_ev format d (Some w) = shape_of_event format d w

-- a line with the key `end` is an end mark, and any other is a record
abbrev pub shape_of : Format → Data → LineShape
shape_of format d = if has (codes "end") d then EndMark else shape_of_ev format d (word_at (codes "ev") d)

abbrev pub base_keys : List Key
base_keys = codes "at" ∷ codes "ev" ∷ codes "log" ∷ codes "stamp" ∷ codes "tx" ∷ []

abbrev pub operation_keys : List Key
operation_keys = codes "ob" ∷ codes "op" ∷ base_keys

-- the keys of what an operation takes, then the others
abbrev pub argument_keys : Takes → List Key → List Key
argument_keys takes.Nothing keys = keys
argument_keys takes.Number keys = codes "arg" ∷ keys
argument_keys takes.Addend keys = codes "arg" ∷ keys
argument_keys takes.Pair keys = codes "arg" ∷ codes "val" ∷ keys

-- the keys that a line of a record can have at all
abbrev pub all_keys : Format → List Key
all_keys One = codes "ans" ∷ codes "arg" ∷ operation_keys
all_keys Two = codes "ans" ∷ codes "arg" ∷ codes "val" ∷ operation_keys

-- the keys that must stand
abbrev pub required : LineShape → List Key
required EndMark = codes "end" ∷ codes "log" ∷ []
required (Invoke (Some o)) = argument_keys (signature_of o).takes operation_keys
required (Invoke None) = operation_keys
required Respond = codes "ans" ∷ operation_keys
required TryCommit = base_keys
required TryAbort = base_keys
required Commit = base_keys
required Abort = base_keys
required Strange = base_keys

-- the keys that may stand: no others than those that must, where event and operation are known
abbrev pub allowed : Format → LineShape → List Key
allowed format EndMark = required EndMark
allowed format (Invoke (Some o)) = required (Invoke (Some o))
allowed format (Invoke None) = all_keys format
allowed format Respond = required Respond
allowed format TryCommit = required TryCommit
allowed format TryAbort = required TryAbort
allowed format Commit = required Commit
allowed format Abort = required Abort
allowed format Strange = all_keys format

-- ---- types

-- an answer by itself: a whole number of i64, a flag, or a word
abbrev pub answer_fits : Data → Bool
answer_fits null = false
answer_fits (boolean b) = true
answer_fits (number n) = is_some (as_i64 n)
answer_fits (string s) = true
answer_fits (array ds) = false
answer_fits (object ms) = false

-- each key that stands has a value of its type
abbrev pub types_fit : Data → Bool
types_fit d =
    list_all (λ k. small_fits k d) (codes "at" ∷ codes "end" ∷ codes "log" ∷ codes "stamp" ∷ codes "tx" ∷ [])
    && (list_all (λ k. text_fits k d) (codes "ev" ∷ codes "ob" ∷ codes "op" ∷ [])
    && (whole_fits (codes "arg") d && (whole_fits (codes "val") d && fits_at answer_fits (codes "ans") d)))

-- ---- the fact

abbrev pub answer_of : Data → Option Answer
answer_of null = None
answer_of (boolean b) = Some (Flag b)
answer_of (number n) = option_map Int (as_i64 n)
answer_of (string s) = answer_of_word s
answer_of (array ds) = None
answer_of (object ms) = None

abbrev pub answer_at : Data → Option Answer
answer_at d = option_and_then answer_of (get (codes "ans") d)

-- an object's number, or the first past the greatest, which no object has
abbrev pub object_number : PlanOf → List ℕ → ℕ
object_number plan w = unwrap_or (number_of w plan.objects) most_objects

abbrev pub object_at : PlanOf → Data → Option ℕ
object_at plan d = option_map (object_number plan) (word_at (codes "ob") d)

-- the arguments that stand, where an operation takes such
abbrev pub args_at : Takes → Data → Option Args
args_at takes.Nothing d = Some args.Nothing
args_at takes.Number d = option_map args.Number (whole_at (codes "arg") d)
args_at takes.Addend d = option_map args.Number (whole_at (codes "arg") d)
args_at takes.Pair d = option_and_then (λ key. option_map (args.Pair key) (whole_at (codes "val") d)) (whole_at (codes "arg") d)

abbrev pub event_of : PlanOf → Data → LineShape → Option Event
event_of plan d EndMark = None
event_of plan d (Invoke None) = None
event_of plan d (Invoke (Some o)) =
    option_and_then (λ ob. option_and_then (λ a. option_map (event.Inv ob) (op_with o a)) (args_at (signature_of o).takes d)) (object_at plan d)
event_of plan d Respond = option_and_then (λ ob. option_and_then (λ o. option_map (event.Ret ob o) (answer_at d)) (op_at plan.format d)) (object_at plan d)
event_of plan d TryCommit = Some event.TryC
event_of plan d TryAbort = Some event.TryA
event_of plan d Commit = Some event.Commit
event_of plan d Abort = Some event.Abort
event_of plan d Strange = None

abbrev pub record_of : Data → Event → Option Fact
record_of d e =
    option_and_then (λ log. option_and_then (λ at. option_and_then (λ stamp. option_map (λ tx.
    Rec (record { log = log; at = at; stamp = stamp; tx = tx; event = e }))
    (small_at (codes "tx") d)) (small_at (codes "stamp") d)) (small_at (codes "at") d)) (small_at (codes "log") d)

abbrev pub end_of : Data → Option Fact
end_of d = option_and_then (λ log. option_map (λ n. End (record { log = log; count = n })) (small_at (codes "end") d)) (small_at (codes "log") d)

-- where keys and types are right, this is None for an unknown word alone
abbrev pub fact_of : PlanOf → Data → LineShape → Option Fact
fact_of plan d EndMark = end_of d
fact_of plan d (Invoke o) = option_and_then (record_of d) (event_of plan d (Invoke o))
fact_of plan d Respond = option_and_then (record_of d) (event_of plan d Respond)
fact_of plan d TryCommit = record_of d event.TryC
fact_of plan d TryAbort = record_of d event.TryA
fact_of plan d Commit = record_of d event.Commit
fact_of plan d Abort = record_of d event.Abort
fact_of plan d Strange = None

-- ---- the answer: the first fault that the line deserves, else the fact

abbrev pub checked : Fact → Option FactFault → Result Fact TextFault
checked f None = Ok f
checked f (Some e) = Err (fault.Fact e)

abbrev pub fact_or_word : PlanOf → Option Fact → Result Fact TextFault
fact_or_word plan None = Err fault.UnknownWord
fact_or_word plan (Some f) = checked f (first_fact_fault plan f)

abbrev pub judged_as : PlanOf → Data → Members → LineShape → Result Fact TextFault
judged_as plan d ms s =
    if has_all (required s) d
    then (if has_only (allowed plan.format s) ms
    then (if types_fit d then fact_or_word plan (fact_of plan d s) else Err fault.TypeOrRange)
    else Err fault.KeyUnknown)
    else Err fault.KeyMissing

abbrev pub judged_members : PlanOf → Data → Option Members → Result Fact TextFault
judged_members plan d None = Err fault.NotObject
judged_members plan d (Some ms) = judged_as plan d ms (shape_of plan.format d)

-- what a JSON value says in the plan
abbrev pub judged : PlanOf → Data → Result Fact TextFault
judged plan d = judged_members plan d (as_object d)
