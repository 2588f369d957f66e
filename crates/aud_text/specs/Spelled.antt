-- The line that is written for a fact, part by part.
use Rattle.std.specs.Prelude.{ℕ, ℤ, List, ◌++◌, true, false, Option, Some, None, codes, decimal}
use Rattle.std.specs.Fmt.{signed_decimal}
use Rattle.aud_event.specs.Meanings.{PlanOf}
use Rattle.aud_event.specs.Objects.{name_of, args_of, word_of_op}
use Rattle.aud_event.specs.declared.signature.Args.{Args}
use Rattle.aud_event.specs.declared.signature.Args.TheVariants as args
use Rattle.aud_event.specs.declared.object.OpName.{OpName}
use Rattle.aud_event.specs.declared.object.Answer.{Answer}
use Rattle.aud_event.specs.declared.object.Answer.TheVariants.{Done, Int, Flag, Empty}
use Rattle.aud_event.specs.declared.fact.Event.{Event}
use Rattle.aud_event.specs.declared.fact.Event.TheVariants as event
use Rattle.aud_event.specs.declared.fact.EndMark.{EndMark}
use Rattle.aud_event.specs.declared.fact.Record.{Record}
use Rattle.aud_event.specs.declared.fact.Fact.{Fact}
use Rattle.aud_event.specs.declared.fact.Fact.TheVariants.{Rec, End}
use Rattle.aud_text.specs.Written.{object_name, first_of}

-- the place in the log, before the event's word
abbrev pub place_text : ℕ → List ℕ → List ℕ
place_text at rest = codes "\"at\":" ++ (decimal at ++ (codes ",\"ev\":\"" ++ rest))

-- the event's word and the log
abbrev pub log_text : List ℕ → ℕ → List ℕ → List ℕ
log_text word log rest = word ++ (codes "\",\"log\":" ++ (decimal log ++ rest))

-- an operation on an object
abbrev pub use_text : List ℕ → List ℕ → List ℕ → List ℕ
use_text name op rest = codes ",\"ob\":\"" ++ (name ++ (codes "\",\"op\":\"" ++ (op ++ (codes "\"" ++ rest))))

-- the stamp and the transaction
abbrev pub tail_text : ℕ → ℕ → List ℕ → List ℕ
tail_text stamp tx rest = codes ",\"stamp\":" ++ (decimal stamp ++ (codes ",\"tx\":" ++ (decimal tx ++ rest)))

-- the end of a line, before which the value of a pair stands
abbrev pub end_text : Args → List ℕ
end_text args.Nothing = codes "}"
end_text (args.Number _) = codes "}"
end_text (args.Pair _ v) = codes ",\"val\":" ++ (signed_decimal v ++ codes "}")

abbrev pub answer_text : Answer → List ℕ
answer_text Done = codes "\"done\""
answer_text (Int z) = signed_decimal z
answer_text (Flag true) = codes "true"
answer_text (Flag false) = codes "false"
answer_text Empty = codes "\"empty\""

-- the word of an event that has no object
abbrev pub end_word : Event → Option (List ℕ)
end_word (event.Inv ob o) = None
end_word (event.Ret ob o a) = None
end_word event.TryC = Some (codes "tryc")
end_word event.TryA = Some (codes "trya")
end_word event.Commit = Some (codes "commit")
end_word event.Abort = Some (codes "abort")

-- from the place on, of an event with an object
abbrev pub called_text : PlanOf → Record → List ℕ → ℕ → OpName → List ℕ → List ℕ
called_text plan r word ob o rest = place_text r.at (log_text word r.log (use_text (object_name plan ob) (word_of_op o) (tail_text r.stamp r.tx rest)))

-- the same of an event without one
abbrev pub ended_text : Record → List ℕ → List ℕ
ended_text r word = codes "{" ++ place_text r.at (log_text word r.log (tail_text r.stamp r.tx (codes "}")))

-- the number or the key, which is the first
abbrev pub argument_text : Option ℤ → List ℕ → List ℕ
argument_text None rest = codes "{" ++ rest
argument_text (Some z) rest = codes "{\"arg\":" ++ (signed_decimal z ++ (codes "," ++ rest))

abbrev pub invoked_text : PlanOf → Record → ℕ → OpName → Args → List ℕ
invoked_text plan r ob o a = argument_text (first_of a) (called_text plan r (codes "inv") ob o (end_text a))

abbrev pub record_text : PlanOf → Record → Event → List ℕ
record_text plan r (event.Inv ob o) = invoked_text plan r ob (name_of o) (args_of o)
record_text plan r (event.Ret ob o a) = codes "{\"ans\":" ++ (answer_text a ++ (codes "," ++ called_text plan r (codes "ret") ob o (codes "}")))
record_text plan r event.TryC = ended_text r (codes "tryc")
record_text plan r event.TryA = ended_text r (codes "trya")
record_text plan r event.Commit = ended_text r (codes "commit")
record_text plan r event.Abort = ended_text r (codes "abort")

abbrev pub mark_text : EndMark → List ℕ
mark_text m = codes "{\"end\":" ++ (decimal m.count ++ (codes ",\"log\":" ++ (decimal m.log ++ codes "}")))

abbrev pub spelled_text : PlanOf → Fact → List ℕ
spelled_text plan (Rec r) = record_text plan r r.event
spelled_text plan (End m) = mark_text m
