use Rattle.std.proofs.Common.{◌≡◌, ℕ, ◌<◌, ◌+◌, length}
use Rattle.std.specs.Prelude.{◌||◌, None, false, nat_lt, slice_index_or}
use Rattle.std.specs.List.{list_any}
use Rattle.aud_event.specs.declared.limits.TheConstants.{LOGS_MAX, STAMPS}
use Rattle.aud_facts.specs.Scans.{AreWithin, IsCalm, up_to_two, twins, marks_twice, falls, twins_after, counts_after, falls_after, is_bounded, is_record_from}
use Rattle.aud_facts.specs.Status.{is_mark_within, is_record, is_record_of, has_stamp, count}
use Rattle.aud_facts.proofs.survey.survey_of.Given as goal

abbrev pub invariant-loop-fact : goal.invariant-loop-fact
invariant-loop-fact g l = record {
  within : AreWithin l.fact-iterator;
  len : length l.marks ≡ STAMPS;
  calm : l.crowded ≡ false → IsCalm l.marks;
  marks : (s : ℕ) → s < STAMPS → up_to_two (slice_index_or l.marks s 0 + count (has_stamp s) l.fact-iterator) ≡ up_to_two (count (has_stamp s) l.set);
  places : twins_after l.places l.fact-iterator ≡ twins None l.set;
  stamps : falls_after l.stamps l.fact-iterator ≡ falls None l.set;
  ends : counts_after l.ends l.fact-iterator ≡ marks_twice None l.set;
  bounds : (log n : ℕ) → log < LOGS_MAX → (is_bounded (slice_index_or l.bounds log None) n || list_any (is_mark_within log n) l.fact-iterator) ≡ list_any (is_mark_within log n) l.set;
  tops : (log n : ℕ) → log < LOGS_MAX → (nat_lt n (slice_index_or l.tops log 0) || list_any (is_record_from log n) l.fact-iterator) ≡ list_any (is_record_from log n) l.set;
  counts : (log : ℕ) → log < LOGS_MAX → slice_index_or l.counts log 0 + count (is_record_of log) l.fact-iterator ≡ count (is_record_of log) l.set;
  records : l.records + count is_record l.fact-iterator ≡ count is_record l.set;
}
