-- The status of a set of facts.
use Rattle.std.specs.Prelude.{ℕ, zero, suc, Bool, true, false, not, ◌&&◌, if◌then◌else◌, List, [], ◌∷◌, ◌++◌, length, Option, Some, None, nat_eq, nat_le}
use Rattle.std.specs.List.{list_any, filter}
use Rattle.std.specs.Option.{option_or}
use Rattle.aud_event.specs.declared.fact.Event.{Event}
use Rattle.aud_event.specs.declared.fact.Fact.{Fact}
use Rattle.aud_event.specs.declared.fact.Fact.TheVariants.{Rec, End}
use Rattle.aud_facts.specs.declared.status.Kind.{Kind}
use Rattle.aud_facts.specs.declared.status.Kind.TheVariants.{TwoRecords, StampTwice, TwoCounts, PastCount, StampOrder}
use Rattle.aud_facts.specs.declared.status.FactStatus.{FactStatus}
use Rattle.aud_facts.specs.declared.status.FactStatus.TheVariants.{Conflict, Waiting, Gap, Sealed}
use Rattle.aud_facts.specs.Clashes.{Place, conflict}

-- the fact is a record
abbrev pub is_record : Fact → Bool
is_record (Rec r) = true
is_record (End e) = false

-- a record of the log
abbrev pub is_record_of : ℕ → Fact → Bool
is_record_of log (Rec r) = nat_eq r.log log
is_record_of log (End e) = false

-- a record with the stamp
abbrev pub has_stamp : ℕ → Fact → Bool
has_stamp stamp (Rec r) = nat_eq r.stamp stamp
has_stamp stamp (End e) = false

-- an end mark of the log whose count is at most n
abbrev pub is_mark_within : ℕ → ℕ → Fact → Bool
is_mark_within log n (Rec r) = false
is_mark_within log n (End e) = nat_eq e.log log && nat_le e.count n

-- how many facts pass
abbrev pub count : (Fact → Bool) → List Fact → ℕ
count test facts = length (filter test facts)

-- without an end mark, or with fewer records than its count
abbrev pub is_waiting : List Fact → ℕ → Bool
is_waiting facts log = not (list_any (is_mark_within log (count (is_record_of log) facts)) facts)

-- no record has the stamp
abbrev pub is_missing : List Fact → ℕ → Bool
is_missing facts stamp = not (list_any (has_stamp stamp) facts)

-- the least number below n that passes
abbrev pub least_below : (ℕ → Bool) → ℕ → Option ℕ
least_below test zero = None
least_below test (suc n) = option_or (least_below test n) (if test n then Some n else None)

-- a place of a kind is reported before what comes after
abbrev pub reported : Kind → Option Place → FactStatus → FactStatus
reported k None s = s
reported k (Some p) s = Conflict k p.0 p.1

-- a log that waits is reported before a gap
abbrev pub or_waiting : Option ℕ → FactStatus → FactStatus
or_waiting None s = s
or_waiting (Some log) s = Waiting log

-- sealed where no stamp is missing
abbrev pub or_gap : Option ℕ → FactStatus
or_gap None = Sealed
or_gap (Some stamp) = Gap stamp

-- the status of facts of a plan of so many logs: the first that holds
abbrev pub fact_status : ℕ → List Fact → FactStatus
fact_status logs facts =
    reported TwoRecords (conflict TwoRecords facts)
    (reported StampTwice (conflict StampTwice facts)
    (reported TwoCounts (conflict TwoCounts facts)
    (reported PastCount (conflict PastCount facts)
    (reported StampOrder (conflict StampOrder facts)
    (or_waiting (least_below (is_waiting facts) logs)
    (or_gap (least_below (is_missing facts) (count is_record facts))))))))

-- the events of a stamp, with their transactions
abbrev pub events_at : ℕ → List Fact → List (ℕ × Event)
events_at stamp [] = []
events_at stamp (Rec r ∷ facts) = if nat_eq r.stamp stamp then (r.tx, r.event) ∷ events_at stamp facts else events_at stamp facts
events_at stamp (End e ∷ facts) = events_at stamp facts

-- those of the stamps below n, in the order of stamps
abbrev pub events_below : ℕ → List Fact → List (ℕ × Event)
events_below zero facts = []
events_below (suc n) facts = events_below n facts ++ events_at n facts

-- the history: the events in the order of their stamps
abbrev pub hist : List Fact → List (ℕ × Event)
hist facts = events_below (count is_record facts) facts
