-- A fact that is built: its keys stand, and the types fit where no other key stands.
use Rattle.std.proofs.Common.{◌≡◌, ℕ, List, [], ◌∷◌, Bool, true, false, cond, Option, Some, None, Ordering, Less, Equal, Greater, is_eq, codes, is_some, option_map, option_and_then, Result, Err, bytes_eq, true≢false, refl, ap, subst, ◌∙◌, sym}
use Rattle.std.specs.Ordering.{nat_cmp, match_ordering}
use Rattle.std.specs.Cmp.Lexicographic.{slice_cmp}
use Rattle.std.proofs.lemmas.Map.Text.{is_eq-slice_cmp}
use Rattle.std.proofs.lemmas.Slice.Eq.{bytes_eq-Decides}
use Rattle.serde_json.specs.Data.{Data, null, boolean, number, string, array, object, Members, no_members, member}
use Rattle.serde_json.specs.Find.{get, get_member, as_object, as_str, as_i64}
use Rattle.aud_event.specs.Meanings.{PlanOf}
use Rattle.aud_event.specs.Facts.{first_fact_fault}
use Rattle.aud_event.specs.Words.{op_of_word_in}
use Rattle.aud_event.specs.Objects.{signature_of}
use Rattle.aud_event.specs.declared.signature.Args.TheVariants as args
use Rattle.aud_event.specs.declared.signature.Format.{Format}
use Rattle.aud_event.specs.declared.signature.Takes.{Takes}
use Rattle.aud_event.specs.declared.signature.Takes.TheVariants as takes
use Rattle.aud_event.specs.declared.object.OpName.{OpName}
use Rattle.aud_event.specs.declared.object.Answer.TheVariants.{Int}
use Rattle.aud_event.specs.declared.fact.Event.{Event}
use Rattle.aud_event.specs.declared.fact.Fact.{Fact}
use Rattle.aud_json.specs.declared.fault.TextFault.{TextFault}
use Rattle.aud_json.specs.declared.fault.TextFault.TheVariants.{UnknownWord, TypeOrRange, KeyUnknown, KeyMissing}
use Rattle.aud_json.specs.declared.shape.LineShape.{LineShape}
use Rattle.aud_json.specs.declared.shape.LineShape.TheVariants.{EndMark, Invoke, Respond, TryCommit, TryAbort, Commit, Abort, Strange}
use Rattle.aud_json.specs.Keys.{Key, has, has_all, has_only, is_one_of, fits_at, small, whole, small_at, whole_at, word_at}
use Rattle.aud_json.specs.Judged.{shape_of, shape_of_ev, argument_keys, base_keys, operation_keys, required, allowed, types_fit, answer_of, answer_fits, answer_at, object_number, object_at, op_at, args_at, event_of, record_of, fact_of, checked, fact_or_word, judged_as, judged}
use Rattle.base_values.proofs.Bools.{and_true}

-- ---- a key that stands

-- it stands, and its value passes the test
pub record IsFine (fits : Data → Bool) (k : Key) (d : Data) : Type 0 where
  pub there : has k d ≡ true
  pub fit : fits_at fits k d ≡ true

-- what is taken from a value where the value is taken
pub record IsTaken {X Y : Type 0} (o : Option X) (next : X → Option Y) (y : Y) : Type 0 where
  pub got : X
  pub first : o ≡ Some got
  pub rest : next got ≡ Some y

taken : {X Y : Type 0} (o : Option X) (next : X → Option Y) (y : Y) → option_and_then next o ≡ Some y → IsTaken o next y
taken None next y e = absurd (cc)
taken (Some x) next y e = record { got = x; first = refl; rest = e }

mapped : {X Y : Type 0} (o : Option X) (f : X → Y) → is_some (option_map f o) ≡ true → is_some o ≡ true
mapped None f e = absurd (cc)
mapped (Some x) f e = refl

fine_by : {X : Type 0} (take : Data → Option X) (k : Key) (d : Data) (g : Option Data) → get k d ≡ g → is_some (option_and_then take g) ≡ true → IsFine (λ e. is_some (take e)) k d
fine_by take k d None at e = absurd (cc)
fine_by take k d (Some x) at e = record { there = rw at refl; fit = rw at e }

fine : {X : Type 0} (take : Data → Option X) (k : Key) (d : Data) → is_some (option_and_then take (get k d)) ≡ true → IsFine (λ e. is_some (take e)) k d
fine take k d e = fine_by take k d (get k d) refl e

fine_some : {X : Type 0} (take : Data → Option X) (k : Key) (d : Data) (x : X) → option_and_then take (get k d) ≡ Some x → IsFine (λ e. is_some (take e)) k d
fine_some take k d x e = fine take k d (ap is_some e)

answer_fit : (x : Data) → is_some (answer_of x) ≡ true → answer_fits x ≡ true
answer_fit null e = absurd (cc)
answer_fit (boolean b) e = refl
answer_fit (number n) e = mapped (as_i64 n) Int e
answer_fit (string s) e = refl
answer_fit (array ds) e = absurd (cc)
answer_fit (object ms) e = absurd (cc)

answer_fine_by : (d : Data) (g : Option Data) → get (codes "ans") d ≡ g → is_some (option_and_then answer_of g) ≡ true → IsFine answer_fits (codes "ans") d
answer_fine_by d None at e = absurd (cc)
answer_fine_by d (Some x) at e = record { there = rw at refl; fit = rw at (answer_fit x e) }

answer_fine : (d : Data) → is_some (answer_at d) ≡ true → IsFine answer_fits (codes "ans") d
answer_fine d e = answer_fine_by d (get (codes "ans") d) refl e

-- ---- a key that does not stand

differ : (ks : List Key) (k l : Key) (b : Bool) → is_one_of ks k ≡ false → is_one_of ks l ≡ true → bytes_eq k l ≡ b → b ≡ false
differ ks k l true other one e = let same : k ≡ l = (bytes_eq-Decides k l).0 e in absurd (true≢false (sym one ∙ (ap (is_one_of ks) (sym same) ∙ other)))
differ ks k l false other one e = refl

skipped : (o : Ordering) (r : Option Data) (d : Data) → is_eq o ≡ false → match_ordering o r (Some d) r ≡ r
skipped Less r d e = refl
skipped Equal r d e = absurd (true≢false e)
skipped Greater r d e = refl

absent : (ks : List Key) (k : Key) (ms : Members) → is_one_of ks k ≡ false → has_only ks ms ≡ true → get_member k ms ≡ None
absent ks k no_members other only = refl
absent ks k (member l d ms) other only =
    let parts = and_true (is_one_of ks l) (has_only ks ms) only in
    let apart : is_eq (slice_cmp nat_cmp k l) ≡ false = is_eq-slice_cmp k l ∙ differ ks k l (bytes_eq k l) other parts.0 refl in
    skipped (slice_cmp nat_cmp k l) (get_member k ms) d apart ∙ absent ks k ms other parts.1

fits_none : (fits : Data → Bool) (k : Key) (d : Data) → get k d ≡ None → fits_at fits k d ≡ true
fits_none fits k d at = rw at refl

fits_absent : (fits : Data → Bool) (k : Key) (ks : List Key) (ms : Members) → is_one_of ks k ≡ false → has_only ks ms ≡ true → fits_at fits k (object ms) ≡ true
fits_absent fits k ks ms other only = fits_none fits k (object ms) (absent ks k ms other only)

-- ---- the keys that a built fact has

abbrev pub is_small : Data → Bool
is_small e = is_some (small e)

abbrev pub is_text : Data → Bool
is_text e = is_some (as_str e)

abbrev pub is_whole : Data → Bool
is_whole e = is_some (whole e)

pub record EndStands (d : Data) : Type 0 where
  pub log : IsFine is_small (codes "log") d
  pub end : IsFine is_small (codes "end") d

pub record NumbersStand (d : Data) : Type 0 where
  pub log : IsFine is_small (codes "log") d
  pub at : IsFine is_small (codes "at") d
  pub stamp : IsFine is_small (codes "stamp") d
  pub tx : IsFine is_small (codes "tx") d

pub record BaseStands (d : Data) : Type 0 where
  pub numbers : NumbersStand d
  pub ev : IsFine is_text (codes "ev") d

pub record OperationStands (d : Data) : Type 0 where
  pub base : BaseStands d
  pub ob : IsFine is_text (codes "ob") d
  pub op : IsFine is_text (codes "op") d

-- the arguments stand that an operation takes
abbrev pub ArgsStand : Data → Takes → Type 0
ArgsStand d takes.Nothing = Unit {0}
ArgsStand d takes.Number = IsFine is_whole (codes "arg") d
ArgsStand d takes.Addend = IsFine is_whole (codes "arg") d
ArgsStand d takes.Pair = IsFine is_whole (codes "arg") d × IsFine is_whole (codes "val") d

pub record InvokeStands (d : Data) (o : OpName) : Type 0 where
  pub operation : OperationStands d
  pub args : ArgsStand d (signature_of o).takes

pub record RespondStands (d : Data) : Type 0 where
  pub operation : OperationStands d
  pub ans : IsFine answer_fits (codes "ans") d

abbrev pub Stands : Data → LineShape → Type 0
Stands d EndMark = EndStands d
Stands d (Invoke None) = ⊥
Stands d (Invoke (Some o)) = InvokeStands d o
Stands d Respond = RespondStands d
Stands d TryCommit = BaseStands d
Stands d TryAbort = BaseStands d
Stands d Commit = BaseStands d
Stands d Abort = BaseStands d
Stands d Strange = ⊥

numbers_stand : (d : Data) (e : Event) (f : Fact) → record_of d e ≡ Some f → NumbersStand d
numbers_stand d e f h =
    let a = taken (small_at (codes "log") d) _ f h in
    let b = taken (small_at (codes "at") d) _ f a.rest in
    let c = taken (small_at (codes "stamp") d) _ f b.rest in
    let t : is_some (small_at (codes "tx") d) ≡ true = mapped (small_at (codes "tx") d) _ (ap is_some c.rest) in
    record {
      log = fine_some small (codes "log") d a.got a.first;
      at = fine_some small (codes "at") d b.got b.first;
      stamp = fine_some small (codes "stamp") d c.got c.first;
      tx = fine small (codes "tx") d t;
    }

abbrev is_plain : LineShape → Bool
is_plain EndMark = false
is_plain (Invoke o) = true
is_plain Respond = true
is_plain TryCommit = true
is_plain TryAbort = true
is_plain Commit = true
is_plain Abort = true
is_plain Strange = false

word_by : (format : Format) (b : Bool) (w : Option (List ℕ)) (d : Data) (s : LineShape) → cond b EndMark (shape_of_ev format d w) ≡ s → is_plain s ≡ true → is_some w ≡ true
word_by format true w d s e p = absurd (true≢false (sym p ∙ ap is_plain (sym e)))
word_by format false None d s e p = absurd (true≢false (sym p ∙ ap is_plain (sym e)))
word_by format false (Some w) d s e p = refl

base_stands : (format : Format) (d : Data) (s : LineShape) (e : Event) (f : Fact) → shape_of format d ≡ s → is_plain s ≡ true → record_of d e ≡ Some f → BaseStands d
base_stands format d s e f is p h = record {
  numbers = numbers_stand d e f h;
  ev = fine as_str (codes "ev") d (word_by format (has (codes "end") d) (word_at (codes "ev") d) d s is p);
}

-- ---- operations

not_invoke : (a b c d e : Bool) (x : Option OpName) → cond a Respond (cond b TryCommit (cond c TryAbort (cond d Commit (cond e Abort Strange)))) ≡ Invoke x → ⊥
not_invoke true b c d e x h = absurd (cc)
not_invoke false true c d e x h = absurd (cc)
not_invoke false false true d e x h = absurd (cc)
not_invoke false false false true e x h = absurd (cc)
not_invoke false false false false true x h = absurd (cc)
not_invoke false false false false false x h = absurd (cc)

op_by_word : (i a b c d e : Bool) (x : Option OpName) (o : OpName)
    → cond i (Invoke x) (cond a Respond (cond b TryCommit (cond c TryAbort (cond d Commit (cond e Abort Strange))))) ≡ Invoke (Some o) → x ≡ Some o
op_by_word true a b c d e x o h = cc
op_by_word false a b c d e x o h = absurd (not_invoke a b c d e (Some o) h)

op_by : (format : Format) (b : Bool) (w : Option (List ℕ)) (d : Data) (o : OpName) → cond b EndMark (shape_of_ev format d w) ≡ Invoke (Some o) → op_at format d ≡ Some o
op_by format true w d o h = absurd (cc)
op_by format false None d o h = absurd (cc)
op_by format false (Some w) d o h =
    op_by_word (bytes_eq w (codes "inv")) (bytes_eq w (codes "ret")) (bytes_eq w (codes "tryc")) (bytes_eq w (codes "trya")) (bytes_eq w (codes "commit")) (bytes_eq w (codes "abort")) (op_at format d) o h

object_fine : (plan : PlanOf) (d : Data) (n : ℕ) → object_at plan d ≡ Some n → IsFine is_text (codes "ob") d
object_fine plan d n e = fine as_str (codes "ob") d (mapped (word_at (codes "ob") d) (object_number plan) (ap is_some e))

op_fine : (format : Format) (d : Data) (o : OpName) → op_at format d ≡ Some o → IsFine is_text (codes "op") d
op_fine format d o e = let w = taken (word_at (codes "op") d) (op_of_word_in format) o e in fine_some as_str (codes "op") d w.got w.first

both : {X Y Z : Type 0} (o : Option X) (p : Option Y) (f : X → Y → Z) → is_some (option_and_then (λ x. option_map (f x) p) o) ≡ true → (is_some o ≡ true) × (is_some p ≡ true)
both None p f e = absurd (cc)
both (Some x) p f e = (refl, mapped p (f x) e)

args_stand : (d : Data) (t : Takes) → is_some (args_at t d) ≡ true → ArgsStand d t
args_stand d takes.Nothing e = tt
args_stand d takes.Number e = fine whole (codes "arg") d (mapped (whole_at (codes "arg") d) args.Number e)
args_stand d takes.Addend e = fine whole (codes "arg") d (mapped (whole_at (codes "arg") d) args.Number e)
args_stand d takes.Pair e =
    let parts = both (whole_at (codes "arg") d) (whole_at (codes "val") d) args.Pair e in
    (fine whole (codes "arg") d parts.0, fine whole (codes "val") d parts.1)

invoke_stands : (plan : PlanOf) (d : Data) (o : OpName) (f : Fact) → shape_of plan.format d ≡ Invoke (Some o) → fact_of plan d (Invoke (Some o)) ≡ Some f → InvokeStands d o
invoke_stands plan d o f is h =
    let t = taken (event_of plan d (Invoke (Some o))) (record_of d) f h in
    let u = taken (object_at plan d) _ t.got t.first in
    let w = taken (args_at (signature_of o).takes d) _ t.got u.rest in
    record {
      operation = record {
        base = base_stands plan.format d (Invoke (Some o)) t.got f is refl t.rest;
        ob = object_fine plan d u.got u.first;
        op = op_fine plan.format d o (op_by plan.format (has (codes "end") d) (word_at (codes "ev") d) d o is);
      };
      args = args_stand d (signature_of o).takes (ap is_some w.first);
    }

respond_stands : (plan : PlanOf) (d : Data) (f : Fact) → shape_of plan.format d ≡ Respond → fact_of plan d Respond ≡ Some f → RespondStands d
respond_stands plan d f is h =
    let t = taken (event_of plan d Respond) (record_of d) f h in
    let u = taken (object_at plan d) _ t.got t.first in
    let v = taken (op_at plan.format d) _ t.got u.rest in
    let w : is_some (answer_at d) ≡ true = mapped (answer_at d) _ (ap is_some v.rest) in
    record {
      operation = record {
        base = base_stands plan.format d Respond t.got f is refl t.rest;
        ob = object_fine plan d u.got u.first;
        op = op_fine plan.format d v.got v.first;
      };
      ans = answer_fine d w;
    }

end_stands : (d : Data) (f : Fact) (plan : PlanOf) → fact_of plan d EndMark ≡ Some f → EndStands d
end_stands d f plan h =
    let a = taken (small_at (codes "log") d) _ f h in
    let n : is_some (small_at (codes "end") d) ≡ true = mapped (small_at (codes "end") d) _ (ap is_some a.rest) in
    record { log = fine_some small (codes "log") d a.got a.first; end = fine small (codes "end") d n }

built : (plan : PlanOf) (d : Data) (s : LineShape) (f : Fact) → shape_of plan.format d ≡ s → fact_of plan d s ≡ Some f → Stands d s
built plan d EndMark f is h = end_stands d f plan h
built plan d (Invoke None) f is h = absurd (cc)
built plan d (Invoke (Some o)) f is h = invoke_stands plan d o f is h
built plan d Respond f is h = respond_stands plan d f is h
built plan d TryCommit f is h = base_stands plan.format d TryCommit _ f is refl h
built plan d TryAbort f is h = base_stands plan.format d TryAbort _ f is refl h
built plan d Commit f is h = base_stands plan.format d Commit _ f is refl h
built plan d Abort f is h = base_stands plan.format d Abort _ f is refl h
built plan d Strange f is h = absurd (cc)

-- ---- the required keys

base_there : (d : Data) → BaseStands d → has_all base_keys d ≡ true
base_there d b = rw (b.numbers.at.there, b.ev.there, b.numbers.log.there, b.numbers.stamp.there, b.numbers.tx.there) refl

operation_there : (d : Data) → OperationStands d → has_all operation_keys d ≡ true
operation_there d o = rw (o.ob.there, o.op.there) (base_there d o.base)

respond_there : (d : Data) → RespondStands d → has_all (codes "ans" ∷ operation_keys) d ≡ true
respond_there d r = rw r.ans.there (operation_there d r.operation)

args_there : (d : Data) (t : Takes) → OperationStands d → ArgsStand d t → has_all (argument_keys t operation_keys) d ≡ true
args_there d takes.Nothing i a = operation_there d i
args_there d takes.Number i a = rw a.there (operation_there d i)
args_there d takes.Addend i a = rw a.there (operation_there d i)
args_there d takes.Pair i a = rw (a.0.there, a.1.there) (operation_there d i)

end_there : (d : Data) → EndStands d → has_all (codes "end" ∷ codes "log" ∷ []) d ≡ true
end_there d e = rw (e.end.there, e.log.there) refl

required_there : (d : Data) (s : LineShape) → Stands d s → has_all (required s) d ≡ true
required_there d EndMark h = end_there d h
required_there d (Invoke None) h = absurd h
required_there d (Invoke (Some o)) h = args_there d (signature_of o).takes h.operation h.args
required_there d Respond h = respond_there d h
required_there d TryCommit h = base_there d h
required_there d TryAbort h = base_there d h
required_there d Commit h = base_there d h
required_there d Abort h = base_there d h
required_there d Strange h = absurd h

-- ---- the types

all_fit : (d : Data) → NumbersStand d → IsFine is_text (codes "ev") d → fits_at is_small (codes "end") d ≡ true → fits_at is_text (codes "ob") d ≡ true → fits_at is_text (codes "op") d ≡ true
    → fits_at is_whole (codes "arg") d ≡ true → fits_at is_whole (codes "val") d ≡ true → fits_at answer_fits (codes "ans") d ≡ true → types_fit d ≡ true
all_fit d n ev end ob op arg val ans = rw (n.at.fit, end, n.log.fit, n.stamp.fit, n.tx.fit, ev.fit, ob, op, arg, val, ans) refl

base_fits : (ms : Members) → BaseStands (object ms) → has_only base_keys ms ≡ true → types_fit (object ms) ≡ true
base_fits ms b only = all_fit (object ms) b.numbers b.ev
    (fits_absent is_small (codes "end") base_keys ms refl only)
    (fits_absent is_text (codes "ob") base_keys ms refl only)
    (fits_absent is_text (codes "op") base_keys ms refl only)
    (fits_absent is_whole (codes "arg") base_keys ms refl only)
    (fits_absent is_whole (codes "val") base_keys ms refl only)
    (fits_absent answer_fits (codes "ans") base_keys ms refl only)

respond_fits : (ms : Members) → RespondStands (object ms) → has_only (codes "ans" ∷ operation_keys) ms ≡ true → types_fit (object ms) ≡ true
respond_fits ms r only = all_fit (object ms) r.operation.base.numbers r.operation.base.ev
    (fits_absent is_small (codes "end") (codes "ans" ∷ operation_keys) ms refl only)
    r.operation.ob.fit
    r.operation.op.fit
    (fits_absent is_whole (codes "arg") (codes "ans" ∷ operation_keys) ms refl only)
    (fits_absent is_whole (codes "val") (codes "ans" ∷ operation_keys) ms refl only)
    r.ans.fit

-- with the keys of an operation there is no other that has to fit
invoked_fit : (ms : Members) (keys : List Key) → OperationStands (object ms) → is_one_of keys (codes "end") ≡ false → is_one_of keys (codes "ans") ≡ false → has_only keys ms ≡ true
    → fits_at is_whole (codes "arg") (object ms) ≡ true → fits_at is_whole (codes "val") (object ms) ≡ true → types_fit (object ms) ≡ true
invoked_fit ms keys i no_end no_ans only arg val = all_fit (object ms) i.base.numbers i.base.ev
    (fits_absent is_small (codes "end") keys ms no_end only)
    i.ob.fit
    i.op.fit
    arg
    val
    (fits_absent answer_fits (codes "ans") keys ms no_ans only)

args_fit : (ms : Members) (t : Takes) → OperationStands (object ms) → ArgsStand (object ms) t → has_only (argument_keys t operation_keys) ms ≡ true → types_fit (object ms) ≡ true
args_fit ms takes.Nothing i a only = invoked_fit ms operation_keys i refl refl only (fits_absent is_whole (codes "arg") operation_keys ms refl only) (fits_absent is_whole (codes "val") operation_keys ms refl only)
args_fit ms takes.Number i a only = invoked_fit ms (codes "arg" ∷ operation_keys) i refl refl only a.fit (fits_absent is_whole (codes "val") (codes "arg" ∷ operation_keys) ms refl only)
args_fit ms takes.Addend i a only = invoked_fit ms (codes "arg" ∷ operation_keys) i refl refl only a.fit (fits_absent is_whole (codes "val") (codes "arg" ∷ operation_keys) ms refl only)
args_fit ms takes.Pair i a only = invoked_fit ms (codes "arg" ∷ codes "val" ∷ operation_keys) i refl refl only a.0.fit a.1.fit

end_all_fit : (d : Data) → EndStands d → fits_at is_small (codes "at") d ≡ true → fits_at is_small (codes "stamp") d ≡ true → fits_at is_small (codes "tx") d ≡ true → fits_at is_text (codes "ev") d ≡ true
    → fits_at is_text (codes "ob") d ≡ true → fits_at is_text (codes "op") d ≡ true → fits_at is_whole (codes "arg") d ≡ true → fits_at is_whole (codes "val") d ≡ true → fits_at answer_fits (codes "ans") d ≡ true → types_fit d ≡ true
end_all_fit d e at stamp tx ev ob op arg val ans = rw (at, e.end.fit, e.log.fit, stamp, tx, ev, ob, op, arg, val, ans) refl

end_fits : (ms : Members) → EndStands (object ms) → has_only (codes "end" ∷ codes "log" ∷ []) ms ≡ true → types_fit (object ms) ≡ true
end_fits ms e only = end_all_fit (object ms) e
    (fits_absent is_small (codes "at") (codes "end" ∷ codes "log" ∷ []) ms refl only)
    (fits_absent is_small (codes "stamp") (codes "end" ∷ codes "log" ∷ []) ms refl only)
    (fits_absent is_small (codes "tx") (codes "end" ∷ codes "log" ∷ []) ms refl only)
    (fits_absent is_text (codes "ev") (codes "end" ∷ codes "log" ∷ []) ms refl only)
    (fits_absent is_text (codes "ob") (codes "end" ∷ codes "log" ∷ []) ms refl only)
    (fits_absent is_text (codes "op") (codes "end" ∷ codes "log" ∷ []) ms refl only)
    (fits_absent is_whole (codes "arg") (codes "end" ∷ codes "log" ∷ []) ms refl only)
    (fits_absent is_whole (codes "val") (codes "end" ∷ codes "log" ∷ []) ms refl only)
    (fits_absent answer_fits (codes "ans") (codes "end" ∷ codes "log" ∷ []) ms refl only)

types_there : (format : Format) (ms : Members) (s : LineShape) → Stands (object ms) s → has_only (allowed format s) ms ≡ true → types_fit (object ms) ≡ true
types_there format ms EndMark h only = end_fits ms h only
types_there format ms (Invoke None) h only = absurd h
types_there format ms (Invoke (Some o)) h only = args_fit ms (signature_of o).takes h.operation h.args only
types_there format ms Respond h only = respond_fits ms h only
types_there format ms TryCommit h only = base_fits ms h only
types_there format ms TryAbort h only = base_fits ms h only
types_there format ms Commit h only = base_fits ms h only
types_there format ms Abort h only = base_fits ms h only
types_there format ms Strange h only = absurd h

-- ---- the answer

first_choice : {X : Type 0} (a b c : Bool) (x y z w : X) → a ≡ true → b ≡ true → c ≡ true → cond a (cond b (cond c x y) z) w ≡ x
first_choice true true true x y z w ha hb hc = refl
first_choice true true false x y z w ha hb hc = absurd (true≢false (sym hc))
first_choice true false c x y z w ha hb hc = absurd (true≢false (sym hb))
first_choice false b c x y z w ha hb hc = absurd (true≢false (sym ha))

second_choice : {X : Type 0} (a b : Bool) (v z w : X) → a ≡ true → b ≡ false → cond a (cond b v z) w ≡ z
second_choice true true v z w ha hb = absurd (true≢false hb)
second_choice true false v z w ha hb = refl
second_choice false b v z w ha hb = absurd (true≢false (sym ha))

abbrev refuse : TextFault → Result Fact TextFault
refuse x = Err x

error_of : (a b c : Bool) (x y z w : TextFault) → cond a (cond b (cond c (refuse x) (refuse y)) (refuse z)) (refuse w) ≡ refuse (cond a (cond b (cond c x y) z) w)
error_of true true true x y z w = refl
error_of true true false x y z w = refl
error_of true false c x y z w = refl
error_of false b c x y z w = refl

as_built : (plan : PlanOf) (ms : Members) (s : LineShape) (f : Fact) (b : Bool) → shape_of plan.format (object ms) ≡ s → fact_of plan (object ms) s ≡ Some f → has_only (allowed plan.format s) ms ≡ b
    → judged_as plan (object ms) ms s ≡ cond b (checked f (first_fact_fault plan f)) (Err KeyUnknown)
as_built plan ms s f true is h only =
    let stands = built plan (object ms) s f is h in
    first_choice (has_all (required s) (object ms)) (has_only (allowed plan.format s) ms) (types_fit (object ms)) (fact_or_word plan (fact_of plan (object ms) s)) (Err TypeOrRange) (Err KeyUnknown) (Err KeyMissing)
    (required_there (object ms) s stands) only (types_there plan.format ms s stands only)
    ∙ ap (fact_or_word plan) h
as_built plan ms s f false is h only =
    let stands = built plan (object ms) s f is h in
    second_choice (has_all (required s) (object ms)) (has_only (allowed plan.format s) ms) _ (Err KeyUnknown) (Err KeyMissing) (required_there (object ms) s stands) only

as_unbuilt : (plan : PlanOf) (d : Data) (ms : Members) (s : LineShape) → fact_of plan d s ≡ None
    → judged_as plan d ms s ≡ Err (cond (has_all (required s) d) (cond (has_only (allowed plan.format s) ms) (cond (types_fit d) UnknownWord TypeOrRange) KeyUnknown) KeyMissing)
as_unbuilt plan d ms s h =
    ap (λ o. cond (has_all (required s) d) (cond (has_only (allowed plan.format s) ms) (cond (types_fit d) (fact_or_word plan o) (Err TypeOrRange)) (Err KeyUnknown)) (Err KeyMissing)) h
    ∙ error_of (has_all (required s) d) (has_only (allowed plan.format s) ms) (types_fit d) UnknownWord TypeOrRange KeyUnknown KeyMissing

built_in : (plan : PlanOf) (d : Data) (ms : Members) (s : LineShape) (f : Fact) (b : Bool) → as_object d ≡ Some ms → s ≡ shape_of plan.format d → fact_of plan d s ≡ Some f → has_only (allowed plan.format s) ms ≡ b
    → judged plan d ≡ cond b (checked f (first_fact_fault plan f)) (Err KeyUnknown)
built_in plan null ms s f b o is h only = absurd (cc)
built_in plan (boolean x) ms s f b o is h only = absurd (cc)
built_in plan (number n) ms s f b o is h only = absurd (cc)
built_in plan (string t) ms s f b o is h only = absurd (cc)
built_in plan (array ds) ms s f b o is h only = absurd (cc)
built_in plan (object ns) ms s f b o is h only =
    let same : ns ≡ ms = cc in
    ap (judged_as plan (object ns) ns) (sym is) ∙ as_built plan ns s f b (sym is) h (ap (has_only (allowed plan.format s)) same ∙ only)

unbuilt_in : (plan : PlanOf) (d : Data) (ms : Members) (s : LineShape) → as_object d ≡ Some ms → s ≡ shape_of plan.format d → fact_of plan d s ≡ None
    → judged plan d ≡ Err (cond (has_all (required s) d) (cond (has_only (allowed plan.format s) ms) (cond (types_fit d) UnknownWord TypeOrRange) KeyUnknown) KeyMissing)
unbuilt_in plan null ms s o is h = absurd (cc)
unbuilt_in plan (boolean x) ms s o is h = absurd (cc)
unbuilt_in plan (number n) ms s o is h = absurd (cc)
unbuilt_in plan (string t) ms s o is h = absurd (cc)
unbuilt_in plan (array ds) ms s o is h = absurd (cc)
unbuilt_in plan (object ns) ms s o is h =
    let same : ns ≡ ms = cc in
    ap (judged_as plan (object ns) ns) (sym is) ∙ (as_unbuilt plan (object ns) ns s h
    ∙ ap (λ m. Err (cond (has_all (required s) (object ns)) (cond (has_only (allowed plan.format s) m) (cond (types_fit (object ns)) UnknownWord TypeOrRange) KeyUnknown) KeyMissing)) same)

-- where a fact is built, only the other keys decide
pub judged_built : (plan : PlanOf) (format : Format) (d : Data) (ms : Members) (s : LineShape) (f : Fact) (b : Bool) → format ≡ plan.format → as_object d ≡ Some ms → s ≡ shape_of format d → fact_of plan d s ≡ Some f
    → has_only (allowed format s) ms ≡ b → judged plan d ≡ cond b (checked f (first_fact_fault plan f)) (Err KeyUnknown)
judged_built plan format d ms s f b same o is h only = built_in plan d ms s f b o (subst (λ k. s ≡ shape_of k d) same is) h (subst (λ k. has_only (allowed k s) ms ≡ b) same only)

-- where none is, the faults are looked for in their order
pub judged_unbuilt : (plan : PlanOf) (format : Format) (d : Data) (ms : Members) (s : LineShape) → format ≡ plan.format → as_object d ≡ Some ms → s ≡ shape_of format d → fact_of plan d s ≡ None
    → judged plan d ≡ Err (cond (has_all (required s) d) (cond (has_only (allowed format s) ms) (cond (types_fit d) UnknownWord TypeOrRange) KeyUnknown) KeyMissing)
judged_unbuilt plan format d ms s same o is h =
    subst (λ k. judged plan d ≡ Err (cond (has_all (required s) d) (cond (has_only (allowed k s) ms) (cond (types_fit d) UnknownWord TypeOrRange) KeyUnknown) KeyMissing)) (sym same)
    (unbuilt_in plan d ms s o (subst (λ k. s ≡ shape_of k d) same is) h)
