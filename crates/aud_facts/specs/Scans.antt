-- What one pass over the facts finds.
use Rattle.std.specs.Prelude.{◌≡◌, ℕ, zero, suc, ◌<◌, ◌≤◌, Bool, true, false, ◌&&◌, if◌then◌else◌, List, [], ◌∷◌, Option, Some, None, nat_eq, nat_lt, nat_le, slice_index_or, slice_set, ◌||◌, ◌+◌, length}
use Rattle.std.specs.List.{list_any, AllByRecursion}
use Rattle.std.specs.Option.{option_or}
use Rattle.aud_event.specs.declared.limits.TheConstants.{LOGS_MAX, PLACES, STAMPS}
use Rattle.aud_event.specs.declared.fact.Event.{Event}
use Rattle.aud_event.specs.declared.fact.Fact.{Fact}
use Rattle.aud_event.specs.declared.fact.Fact.TheVariants.{Rec, End}
use Rattle.aud_facts.specs.declared.scan.Scan.{Scan}
use Rattle.aud_facts.specs.declared.survey.Survey.{Survey}
use Rattle.aud_facts.specs.Clashes.{Place, place_of}
use Rattle.aud_facts.specs.Status.{is_mark_within, is_record, is_record_of, has_stamp, count}

abbrev pub is_at : Option Place → Place → Bool
is_at None p = false
is_at (Some q) p = nat_eq q.0 p.0 && nat_eq q.1 p.1

abbrev pub is_in : Option Place → ℕ → Bool
is_in None log = false
is_in (Some q) log = nat_eq q.0 log

-- the log is that of the last, and the stamp is no greater
abbrev pub is_fall : Option (ℕ × ℕ) → ℕ → ℕ → Bool
is_fall None log stamp = false
is_fall (Some q) log stamp = nat_eq q.0 log && nat_le stamp q.1

-- the first record at the place of the one before it
abbrev pub twins : Option Place → List Fact → Option Place
twins last [] = None
twins last (Rec r ∷ facts) = if is_at last (r.log, r.at) then Some (r.log, r.at) else twins (Some (r.log, r.at)) facts
twins last (End e ∷ facts) = twins last facts

-- the first end mark whose log is that of the next
abbrev pub marks_twice : Option Place → List Fact → Option Place
marks_twice last [] = None
marks_twice last (Rec r ∷ facts) = marks_twice last facts
marks_twice last (End e ∷ facts) = if is_in last e.log then last else marks_twice (Some (e.log, e.count)) facts

-- the first record whose stamp is not above that of the one before it in its log
abbrev pub falls : Option (ℕ × ℕ) → List Fact → Option Place
falls last [] = None
falls last (Rec r ∷ facts) = if is_fall last r.log r.stamp then Some (r.log, r.at) else falls (Some (r.log, r.stamp)) facts
falls last (End e ∷ facts) = falls last facts

-- the place of the first that passes
abbrev pub first_place : (Fact → Bool) → List Fact → Option Place
first_place test [] = None
first_place test (f ∷ facts) = if test f then Some (place_of f) else first_place test facts

-- none, one, or more
abbrev pub up_to_two : ℕ → ℕ
up_to_two zero = 0
up_to_two (suc zero) = 1
up_to_two (suc (suc n)) = 2

-- within the limits
abbrev pub IsWithin : Fact → Type 0
IsWithin (Rec r) = (r.log < LOGS_MAX) × (r.at < PLACES) × (r.stamp < STAMPS)
IsWithin (End e) = (e.log < LOGS_MAX) × (e.count ≤ PLACES)

abbrev pub AreWithin : List Fact → Type 0
AreWithin facts = AllByRecursion IsWithin facts

-- a scan that found something goes no further
abbrev pub twins_after : Scan → List Fact → Option Place
twins_after s rest = option_or s.found (twins s.last rest)

abbrev pub counts_after : Scan → List Fact → Option Place
counts_after s rest = option_or s.found (marks_twice s.last rest)

abbrev pub falls_after : Scan → List Fact → Option Place
falls_after s rest = option_or s.found (falls s.last rest)

-- a count that is there, and is at most n
abbrev pub is_bounded : Option ℕ → ℕ → Bool
is_bounded None n = false
is_bounded (Some c) n = nat_le c n

-- a record of the log at the place n or a later one
abbrev pub is_record_from : ℕ → ℕ → Fact → Bool
is_record_from log n (Rec r) = nat_eq r.log log && nat_le n r.at
is_record_from log n (End e) = false

-- the least counts of the logs' end marks
abbrev pub AreBounds : List Fact → List (Option ℕ) → Type 0
AreBounds facts bounds = (log n : ℕ) → log < LOGS_MAX → is_bounded (slice_index_or bounds log None) n ≡ list_any (is_mark_within log n) facts

-- the numbers after the logs' greatest places
abbrev pub AreTops : List Fact → List ℕ → Type 0
AreTops facts tops = (log n : ℕ) → log < LOGS_MAX → nat_lt n (slice_index_or tops log 0) ≡ list_any (is_record_from log n) facts

-- how many records the logs have
abbrev pub AreCounts : List Fact → List ℕ → Type 0
AreCounts facts counts = (log : ℕ) → log < LOGS_MAX → slice_index_or counts log 0 ≡ count (is_record_of log) facts

-- how often the stamps stand
abbrev pub AreStamps : List Fact → List ℕ → Type 0
AreStamps facts marks = (stamp : ℕ) → stamp < STAMPS → up_to_two (slice_index_or marks stamp 0) ≡ up_to_two (count (has_stamp stamp) facts)

-- no stamp stands twice
abbrev pub IsCalm : List ℕ → Type 0
IsCalm marks = (stamp : ℕ) → stamp < STAMPS → nat_lt 1 (slice_index_or marks stamp 0) ≡ false

-- what a walk over all facts learns
pub record IsSurvey (facts : List Fact) (s : Survey) : Type 0 where
  pub twins : s.twins ≡ twins None facts
  pub two_counts : s.two_counts ≡ marks_twice None facts
  pub falls : s.falls ≡ falls None facts
  pub bounds : AreBounds facts s.bounds
  pub tops : AreTops facts s.tops
  pub counts : AreCounts facts s.counts
  pub records : s.records ≡ count is_record facts

-- no place of the log is at or past its least count
abbrev pub IsUnderrun : Survey → ℕ → Type 0
IsUnderrun s log = (n : ℕ) → nat_lt n (slice_index_or s.tops log 0) ≡ true → is_bounded (slice_index_or s.bounds log None) n ≡ false

-- a record at or past a count of its log
abbrev pub is_past : List Fact → Fact → Bool
is_past facts (Rec r) = list_any (is_mark_within r.log r.at) facts
is_past facts (End e) = false

-- a record whose stamp stands twice
abbrev pub is_twice : List Fact → Fact → Bool
is_twice facts (Rec r) = nat_lt 1 (count (has_stamp r.stamp) facts)
is_twice facts (End e) = false

-- the slots after each record's event was put at its stamp
abbrev pub placed : List (ℕ × Event) → List Fact → List (ℕ × Event)
placed slots [] = slots
placed slots (Rec r ∷ facts) = placed (slice_set slots r.stamp (r.tx, r.event)) facts
placed slots (End e ∷ facts) = placed slots facts

-- # What a walk notes of one fact more

-- the least count of the log is at most this one, those of the others stay
abbrev pub NotesCount : List (Option ℕ) → List (Option ℕ) → ℕ → ℕ → Type 0
NotesCount old new log count =
    (l n : ℕ) → l < LOGS_MAX → is_bounded (slice_index_or new l None) n ≡ (is_bounded (slice_index_or old l None) n || (nat_eq log l && nat_le count n))

-- the number after the greatest place of the log is above this place, those of the others stay
abbrev pub NotesPlace : List ℕ → List ℕ → ℕ → ℕ → Type 0
NotesPlace old new log at = (l n : ℕ) → l < LOGS_MAX → nat_lt n (slice_index_or new l 0) ≡ (nat_lt n (slice_index_or old l 0) || (nat_eq log l && nat_le n at))

-- the log has one record more, the others have as many; k is what comes after
abbrev pub CountsOneMore : List ℕ → List ℕ → ℕ → Type 0
CountsOneMore old new log = (l k : ℕ) → l < LOGS_MAX → slice_index_or new l 0 + k ≡ slice_index_or old l 0 + (if nat_eq log l then k + 1 else k)

-- one record more has the stamp, up to two, and as many have the others; k is what comes after
abbrev pub MarksOneMore : List ℕ → List ℕ → ℕ → Type 0
MarksOneMore old new stamp =
    (s k : ℕ) → s < length old → up_to_two (slice_index_or new s 0 + k) ≡ up_to_two (slice_index_or old s 0 + (if nat_eq stamp s then k + 1 else k))

-- what stood at most once still does
abbrev pub StaysCalm : List ℕ → List ℕ → Type 0
StaysCalm old new = (s : ℕ) → s < length old → nat_lt 1 (slice_index_or old s 0) ≡ false → nat_lt 1 (slice_index_or new s 0) ≡ false
