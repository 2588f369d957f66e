use Rattle.std.proofs.Common.{arith, ◌∙◌, sym, ◌+◌, ◌≡◌, ◌≤◌, ap, List, ◌∷◌, length}
use Rattle.std.specs.Prelude.{◌||◌, if◌then◌else◌, Bool, true, false, nat_eq, nat_lt, nat_le, ◌&&◌, slice_index_or}
use Rattle.std.specs.List.{list_any, filter}
use Rattle.aud_event.specs.declared.fact.Record.{Record}
use Rattle.aud_event.specs.declared.fact.Fact.{Fact}
use Rattle.aud_event.specs.declared.fact.Fact.TheVariants.{Rec}
use Rattle.aud_facts.specs.Status.{count, is_record, is_record_of, has_stamp}
use Rattle.aud_facts.specs.Scans.{is_record_from, up_to_two}
use Rattle.aud_facts.proofs.Lists.{count-le, count-cons}
use Rattle.aud_facts.proofs.survey.survey_of.Goals as goal
use Rattle.aud_facts.proofs.survey.survey_of.Goals.{then-note_stamp, else-note_stamp}
use Rattle.base_values.proofs.Bools.{or_assoc}

one_there : {X : Type 0} (b : Bool) (x : X) (ys : List X) → b ≡ true → 1 ≤ length (if b then x ∷ ys else ys)
one_there true x ys e = omega arith
one_there false x ys e = cc

record_there : (r : Record) (xs : List Fact) → 1 ≤ count (is_record_of r.log) (Rec r ∷ xs)
record_there r xs = one_there (nat_eq r.log r.log) (Rec r) (filter (is_record_of r.log) xs) (grind arith)

never : false ≡ true → ⊥
never e = cc

pub note_record-requires-clause-room : goal.note_record-requires-clause-room
note_record-requires-clause-room g c =
    let seen = c.in-Rec.seen in
    let within = rw (c.in-Some.ensures.steps, c.in-Rec.is) at c.loop-fact.invariant.within in
    let counts = rw (c.in-Some.ensures.steps, c.in-Rec.is) at c.loop-fact.invariant.counts in
    let total = counts seen.log within.0.0 in
    omega (arith, total, record_there seen c.next.new.self, count-le (is_record_of seen.log) c.args.set.now, c.len-most.ensures, c.len-most.type_inv)

pub overflow_add-records : goal.overflow_add-records
overflow_add-records g c =
    let total = rw (c.in-Some.ensures.steps, c.in-Rec.is) at c.loop-fact.invariant.records in
    omega (arith, total, count-le is_record c.args.set.now, c.len-most.ensures, c.len-most.type_inv)

pub loop-fact-preserved-in-Rec : goal.loop-fact-preserved-in-Rec
loop-fact-preserved-in-Rec g c =
    let rest = c.next.new.self in
    let seen = c.in-Rec.seen in
    let within = rw (c.in-Some.ensures.steps, c.in-Rec.is) at c.loop-fact.invariant.within in
    let marks = rw (c.in-Some.ensures.steps, c.in-Rec.is) at c.loop-fact.invariant.marks in
    let places = rw (c.in-Some.ensures.steps, c.in-Rec.is) at c.loop-fact.invariant.places in
    let stamps = rw (c.in-Some.ensures.steps, c.in-Rec.is) at c.loop-fact.invariant.stamps in
    let ends = rw (c.in-Some.ensures.steps, c.in-Rec.is) at c.loop-fact.invariant.ends in
    let bounds = rw (c.in-Some.ensures.steps, c.in-Rec.is) at c.loop-fact.invariant.bounds in
    let tops = rw (c.in-Some.ensures.steps, c.in-Rec.is) at c.loop-fact.invariant.tops in
    let counts = rw (c.in-Some.ensures.steps, c.in-Rec.is) at c.loop-fact.invariant.counts in
    let records = rw (c.in-Some.ensures.steps, c.in-Rec.is) at c.loop-fact.invariant.records in
    record {
      within = within.1;
      len = c.note_stamp.ensures.len ∙ c.loop-fact.invariant.len;
      calm = λ e s lt. elim c.if-note_stamp.branch [
        | then-note_stamp w ↦ absurd (never (sym e ∙ w.crowded-is))
        | else-note_stamp w ↦
            c.note_stamp.ensures.calm w.if-note_stamp.false s (omega (arith, lt, c.loop-fact.invariant.len)) (c.loop-fact.invariant.calm (sym w.crowded-is ∙ e) s lt)
      ];
      marks = λ s lt.
          c.note_stamp.ensures.marks s _ (omega (arith, lt, c.loop-fact.invariant.len))
          ∙ (sym (ap (λ n. up_to_two (slice_index_or c.loop-fact.marks s 0 + n)) (count-cons (has_stamp s) (Rec seen) rest)) ∙ marks s lt);
      places = c.see_place.ensures rest ∙ places;
      stamps = c.see_stamp.ensures rest ∙ stamps;
      ends = ends;
      bounds = bounds;
      tops = λ log n lt.
          ap (λ b. b || list_any (is_record_from log n) rest) (c.note_place.ensures log n lt)
          ∙ (or_assoc (nat_lt n (slice_index_or c.loop-fact.tops log 0)) (nat_eq seen.log log && nat_le n seen.at) (list_any (is_record_from log n) rest) ∙ tops log n lt);
      counts = λ log lt.
          c.note_record.ensures log _ lt ∙ (sym (ap (λ n. slice_index_or c.loop-fact.counts log 0 + n) (count-cons (is_record_of log) (Rec seen) rest)) ∙ counts log lt);
      records = omega (arith, records);
    }
