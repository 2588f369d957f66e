-- What is written of a fact is read again.
use Rattle.std.proofs.Common.{◌+◌, ◌≡◌, ℕ, ◌<◌, ◌≤◌, ℤ, pos, negsuc, List, Bool, true, false, Some, None, Ok, length, nat_lt, nat_le, codes, refl, ap, ◌∙◌, arith}
use Rattle.std.specs.Prelude.{FitsSigned}
use Rattle.std.specs.Int.{w64}
use Rattle.std.specs.Str.{IsUtf8}
use Rattle.std.proofs.lemmas.Int.{ints}
use Rattle.serde_json.specs.Data.{Data, object, depth, Members}
use Rattle.serde_json.specs.Read.{read}
use Rattle.serde_json.specs.Find.{of_integer, as_i64}
use Rattle.serde_json.specs.Written.{compact_text, members_text, has_float}
use Rattle.aud_event.specs.Meanings.{PlanOf}
use Rattle.aud_event.specs.Plans.{first_plan_fault, empty_plan}
use Rattle.aud_event.specs.declared.signature.Args.{Args}
use Rattle.aud_event.specs.declared.signature.Args.TheVariants as args
use Rattle.aud_event.specs.declared.signature.Format.{Format}
use Rattle.aud_event.specs.declared.signature.Takes.{Takes}
use Rattle.aud_event.specs.declared.signature.Takes.TheVariants as takes
use Rattle.aud_event.specs.Rows.{word-back, word-is_name, args_of-taken, op_with-again}
use Rattle.aud_event.specs.Facts.{first_fact_fault}
use Rattle.aud_event.specs.Laws.{NumberIsOwn}
use Rattle.aud_event.specs.Objects.{name_of, args_of, op_with, signature_of, takes_kind, is_in_format, word_of_op}
use Rattle.aud_event.specs.Words.{op_in, op_of_word_in}
use Rattle.aud_event.specs.declared.object.OpName.{OpName}
use Rattle.aud_event.specs.declared.object.Op.{Op}
use Rattle.aud_event.specs.declared.object.Answer.{Answer}
use Rattle.aud_event.specs.declared.object.Answer.TheVariants.{Done, Int, Flag, Empty}
use Rattle.aud_event.specs.declared.fact.EndMark.{EndMark}
use Rattle.aud_event.specs.declared.fact.Record.{Record}
use Rattle.aud_event.specs.declared.fact.Event.{Event}
use Rattle.aud_event.specs.declared.fact.Event.TheVariants as event
use Rattle.aud_event.specs.declared.fact.Fact.{Fact}
use Rattle.aud_event.specs.declared.fact.Fact.TheVariants.{Rec, End}
use Rattle.aud_text.specs.FactText.{fact_read}
use Rattle.aud_json.specs.Judged.{judged, checked, answer_of, answer_fits, object_number}
use Rattle.aud_text.specs.Written.{data_of, fact_members, record_members, object_name, whole_data, answer_data, headed, tailed, operated, invoked, with_value, AnswerFits, ArgsFit, EventFits, FactFits}
use Rattle.aud_text.proofs.JsonText.{json_of-text}
use Rattle.aud_text.proofs.Length.{AtMost, last_bracket, short_number, short_text, short_other, integer_le, quoted_le}
use Rattle.aud_text.proofs.Sound.{IsSound, sound, IsFound, name_short, EventFound, event_found, RecordInRange, EndInRange, record_in_range, end_in_range}
use Rattle.aud_text.specs.Limits.{longest_line}

lt_test : (x : ℕ) → x < 4294967296 → nat_lt x 4294967296 ≡ true
lt_test x h = grind arith

end_judged : (plan : PlanOf) (m : EndMark) → m.log < 4294967296 → m.count < 4294967296 → judged plan (data_of plan (End m)) ≡ checked (End m) (first_fact_fault plan (End m))
end_judged plan m hl hc =
    let a : nat_lt m.log 4294967296 ≡ true = lt_test m.log hl in
    let b : nat_lt m.count 4294967296 ≡ true = lt_test m.count hc in
    rw (a, b) refl

-- a whole number of i64 is read from what is written for it
abbrev Int64 : ℤ → Type 0
Int64 z = as_i64 (of_integer z) ≡ Some z

int64 : (z : ℤ) → FitsSigned w64 z → Int64 z
int64 (pos n) h = let k : n < 9223372036854775808 = omega (arith, ints) in let t : nat_lt n 9223372036854775808 ≡ true = grind arith in rw t refl
int64 (negsuc n) h = refl

-- the word of an operation that the format has reads as it
op_read : (format : Format) (o : OpName) → is_in_format format o ≡ true → op_of_word_in format (word_of_op o) ≡ Some o
op_read format o inside = ap (op_in format) (word-back o) ∙ rw inside refl

answer_read : (a : Answer) → AnswerFits a → answer_of (answer_data a) ≡ Some a
answer_read Done h = refl
answer_read (Int z) h = rw (int64 z h) refl
answer_read (Flag b) h = refl
answer_read Empty h = refl

answer_typed : (a : Answer) → AnswerFits a → answer_fits (answer_data a) ≡ true
answer_typed Done h = refl
answer_typed (Int z) h = rw (int64 z h) refl
answer_typed (Flag b) h = refl
answer_typed Empty h = refl

abbrev rec : ℕ → ℕ → ℕ → ℕ → Event → Record
rec l a s t e = record { log = l; at = a; stamp = s; tx = t; event = e }

abbrev Judged : PlanOf → ℕ → ℕ → ℕ → ℕ → Event → Type 0
Judged plan l a s t e = judged plan (data_of plan (Rec (rec l a s t e))) ≡ checked (Rec (rec l a s t e)) (first_fact_fault plan (Rec (rec l a s t e)))

invocation_judged : (plan : PlanOf) (l a s t ob : ℕ) → nat_lt l 4294967296 ≡ true → nat_lt a 4294967296 ≡ true → nat_lt s 4294967296 ≡ true → nat_lt t 4294967296 ≡ true
    → object_number plan (object_name plan ob) ≡ ob → (o : Op) (n : OpName) (x : Args) (y : Takes) → (signature_of n).takes ≡ y → takes_kind y x ≡ true → op_of_word_in plan.format (word_of_op n) ≡ Some n
    → op_with n x ≡ Some o → ArgsFit x
    → judged plan (object (invoked plan (rec l a s t (event.Inv ob o)) ob n x)) ≡ checked (Rec (rec l a s t (event.Inv ob o))) (first_fact_fault plan (Rec (rec l a s t (event.Inv ob o))))
invocation_judged plan l a s t ob hl ha hs ht k o n args.Nothing takes.Nothing ty tk w made z = simp (hl, ha, hs, ht, k, ty, w, made)
invocation_judged plan l a s t ob hl ha hs ht k o n (args.Number v) takes.Number ty tk w made z = let i = int64 v z in simp (hl, ha, hs, ht, k, ty, w, made, i)
invocation_judged plan l a s t ob hl ha hs ht k o n (args.Number v) takes.Addend ty tk w made z = let i = int64 v z in simp (hl, ha, hs, ht, k, ty, w, made, i)
invocation_judged plan l a s t ob hl ha hs ht k o n (args.Pair u v) takes.Pair ty tk w made z = let i = int64 u z.0 in let j = int64 v z.1 in simp (hl, ha, hs, ht, k, ty, w, made, i, j)
invocation_judged plan l a s t ob hl ha hs ht k o n _ _ ty tk w made z = absurd (cc)

response_judged : (plan : PlanOf) (l a s t ob : ℕ) → nat_lt l 4294967296 ≡ true → nat_lt a 4294967296 ≡ true → nat_lt s 4294967296 ≡ true → nat_lt t 4294967296 ≡ true
    → object_number plan (object_name plan ob) ≡ ob → (o : OpName) (x : Answer) → op_of_word_in plan.format (word_of_op o) ≡ Some o → AnswerFits x → Judged plan l a s t (event.Ret ob o x)
response_judged plan l a s t ob hl ha hs ht k o x w z = simp (hl, ha, hs, ht, answer_typed x z, k, w, answer_read x z)

record_judged : (plan : PlanOf) (l a s t : ℕ) → nat_lt l 4294967296 ≡ true → nat_lt a 4294967296 ≡ true → nat_lt s 4294967296 ≡ true → nat_lt t 4294967296 ≡ true
    → (e : Event) → EventFits e → EventFound plan e → Judged plan l a s t e
record_judged plan l a s t hl ha hs ht (event.Inv ob o) z k =
    invocation_judged plan l a s t ob hl ha hs ht k.object.number o (name_of o) (args_of o) (signature_of (name_of o)).takes refl (args_of-taken o) (op_read plan.format (name_of o) k.inside) (op_with-again o) z
record_judged plan l a s t hl ha hs ht (event.Ret ob o x) z k = response_judged plan l a s t ob hl ha hs ht k.object.number o x (op_read plan.format o k.inside) z
record_judged plan l a s t hl ha hs ht event.TryC z k = rw (hl, ha, hs, ht) refl
record_judged plan l a s t hl ha hs ht event.TryA z k = rw (hl, ha, hs, ht) refl
record_judged plan l a s t hl ha hs ht event.Commit z k = rw (hl, ha, hs, ht) refl
record_judged plan l a s t hl ha hs ht event.Abort z k = rw (hl, ha, hs, ht) refl

-- ---- its length

tail_le : (r : Record) {rest : Members} {y : ℕ} → RecordInRange r → AtMost true rest y → AtMost true (tailed r rest) (54 + (54 + y))
tail_le r h t = short_number true (codes "stamp") r.stamp h.stamp (omega arith) (short_number true (codes "tx") r.tx h.tx (omega arith) t)

value_le : (a : Args) → ArgsFit a → AtMost true (with_value a) 85
value_le args.Nothing z = record { holds = omega arith }
value_le (args.Number v) z = record { holds = omega arith }
value_le (args.Pair u v) z = short_other true (codes "val") (whole_data v) (omega (arith, integer_le v z.1)) (omega arith) (last_bracket true)

head_le : (b : Bool) (r : Record) (w : List ℕ) {rest : Members} {y : ℕ} → RecordInRange r → length w ≤ 32 → AtMost true rest y → AtMost b (headed r w rest) (54 + (228 + (54 + y)))
head_le b r w h hw t = short_number b (codes "at") r.at h.at (omega arith) (short_text true (codes "ev") w hw (omega arith) (short_number true (codes "log") r.log h.log (omega arith) t))

word_le : (o : OpName) → length (word_of_op o) ≤ 32
word_le o = name_short (word_of_op o) (word-is_name o)

op_le : (plan : PlanOf) (ob : ℕ) (o : OpName) {rest : Members} {y : ℕ} → IsFound plan ob → AtMost true rest y → AtMost true (operated plan ob o rest) (228 + (228 + y))
op_le plan ob o f h = short_text true (codes "ob") (object_name plan ob) f.short (omega arith) (short_text true (codes "op") (word_of_op o) (word_le o) (omega arith) h)

op_head_le : (b : Bool) (plan : PlanOf) (r : Record) (w : List ℕ) (ob : ℕ) (o : OpName) (a : Args) → RecordInRange r → IsFound plan ob → length w ≤ 32 → ArgsFit a → AtMost b (headed r w (operated plan ob o (tailed r (with_value a)))) 985
op_head_le b plan r w ob o a h f hw z = record { holds = let t = head_le b r w h hw (op_le plan ob o f (tail_le r h (value_le a z))) in omega (arith, t.holds) }

answer_le : (a : Answer) → AnswerFits a → length (compact_text (answer_data a)) ≤ 50
answer_le Done h = omega (arith, quoted_le (codes "done"))
answer_le (Int z) h = omega (arith, integer_le z h)
answer_le (Flag true) h = omega arith
answer_le (Flag false) h = omega arith
answer_le Empty h = omega (arith, quoted_le (codes "empty"))

abbrev Short : Members → Type 0
Short ms = length (members_text false ms) ≤ 4000

argument_le : (plan : PlanOf) (r : Record) (ob : ℕ) (o : OpName) (a : Args) → RecordInRange r → IsFound plan ob → ArgsFit a → Short (invoked plan r ob o a)
argument_le plan r ob o args.Nothing h f z = let t = op_head_le false plan r (codes "inv") ob o args.Nothing h f (omega arith) z in omega (arith, t.holds)
argument_le plan r ob o (args.Number v) h f z =
    let t = op_head_le true plan r (codes "inv") ob o (args.Number v) h f (omega arith) z in
    let u = short_other false (codes "arg") (whole_data v) (omega (arith, integer_le v z)) (omega arith) t in omega (arith, u.holds)
argument_le plan r ob o (args.Pair k v) h f z =
    let t = op_head_le true plan r (codes "inv") ob o (args.Pair k v) h f (omega arith) z in
    let u = short_other false (codes "arg") (whole_data k) (omega (arith, integer_le k z.0)) (omega arith) t in omega (arith, u.holds)

record_le : (plan : PlanOf) (r : Record) (e : Event) → RecordInRange r → EventFound plan e → EventFits e → Short (record_members plan r e)
record_le plan r (event.Inv ob o) h f z = argument_le plan r ob (name_of o) (args_of o) h f.object z
record_le plan r (event.Ret ob o a) h f z =
    let t = op_head_le true plan r (codes "ret") ob o args.Nothing h f.object (omega arith) tt in
    let u = short_other false (codes "ans") (answer_data a) (answer_le a z) (omega arith) t in omega (arith, u.holds)
record_le plan r event.TryC h f z = let t = head_le false r (codes "tryc") h (omega arith) (tail_le r h (last_bracket true)) in omega (arith, t.holds)
record_le plan r event.TryA h f z = let t = head_le false r (codes "trya") h (omega arith) (tail_le r h (last_bracket true)) in omega (arith, t.holds)
record_le plan r event.Commit h f z = let t = head_le false r (codes "commit") h (omega arith) (tail_le r h (last_bracket true)) in omega (arith, t.holds)
record_le plan r event.Abort h f z = let t = head_le false r (codes "abort") h (omega arith) (tail_le r h (last_bracket true)) in omega (arith, t.holds)

end_le : (m : EndMark) → EndInRange m → Short (fact_members empty_plan (End m))
end_le m h =
    let t = short_number false (codes "end") m.count h.count (omega arith) (short_number true (codes "log") m.log h.log (omega arith) (last_bracket true)) in omega (arith, t.holds)

-- ---- no float, and flat

answer_plain : (a : Answer) → has_float (answer_data a) ≡ false
answer_plain Done = refl
answer_plain (Int (pos n)) = refl
answer_plain (Int (negsuc n)) = refl
answer_plain (Flag b) = refl
answer_plain Empty = refl

whole_plain : (z : ℤ) → has_float (whole_data z) ≡ false
whole_plain (pos n) = refl
whole_plain (negsuc n) = refl

answer_depth : (a : Answer) → depth (answer_data a) ≡ 0
answer_depth Done = refl
answer_depth (Int z) = refl
answer_depth (Flag b) = refl
answer_depth Empty = refl

pub plain : (plan : PlanOf) (f : Fact) → has_float (data_of plan f) ≡ false
plain plan (End m) = refl
plain plan (Rec r) = event_plain r r.event
  where
    argument_plain : (r : Record) (ob : ℕ) (o : OpName) (a : Args) → has_float (object (invoked plan r ob o a)) ≡ false
    argument_plain r ob o args.Nothing = refl
    argument_plain r ob o (args.Number v) = rw (whole_plain v) refl
    argument_plain r ob o (args.Pair k v) = rw (whole_plain k, whole_plain v) refl

    event_plain : (r : Record) (e : Event) → has_float (object (record_members plan r e)) ≡ false
    event_plain r (event.Inv ob o) = argument_plain r ob (name_of o) (args_of o)
    event_plain r (event.Ret ob o a) = rw (answer_plain a) refl
    event_plain r event.TryC = refl
    event_plain r event.TryA = refl
    event_plain r event.Commit = refl
    event_plain r event.Abort = refl

pub flat : (plan : PlanOf) (f : Fact) → depth (data_of plan f) ≡ 1
flat plan (End m) = refl
flat plan (Rec r) = event_flat r r.event
  where
    argument_flat : (r : Record) (ob : ℕ) (o : OpName) (a : Args) → depth (object (invoked plan r ob o a)) ≡ 1
    argument_flat r ob o args.Nothing = refl
    argument_flat r ob o (args.Number v) = refl
    argument_flat r ob o (args.Pair k v) = refl

    event_flat : (r : Record) (e : Event) → depth (object (record_members plan r e)) ≡ 1
    event_flat r (event.Inv ob o) = argument_flat r ob (name_of o) (args_of o)
    event_flat r (event.Ret ob o a) = rw (answer_depth a) refl
    event_flat r event.TryC = refl
    event_flat r event.TryA = refl
    event_flat r event.Commit = refl
    event_flat r event.Abort = refl

-- ---- a fact that passes the check

-- what is judged of the value is the fact, and its text is short
pub record IsBack (plan : PlanOf) (f : Fact) : Type 0 where
  pub judges : judged plan (data_of plan f) ≡ Ok f
  pub short : length (compact_text (data_of plan f)) ≤ longest_line

pub back : (plan : PlanOf) (f : Fact) → IsSound plan → NumberIsOwn → FactFits f → first_fact_fault plan f ≡ None → IsBack plan f
back plan (End m) s own h e =
    let i = end_in_range plan m s e in
    record { judges = end_judged plan m i.log i.count ∙ ap (checked (End m)) e; short = omega (arith, end_le m i) }
back plan (Rec r) s own h e =
    let i = record_in_range plan r s e in
    let f = event_found plan r.event s own i.1 in
    let n = i.0 in
    record {
      judges = record_judged plan r.log r.at r.stamp r.tx (lt_test r.log n.log) (lt_test r.at n.at) (lt_test r.stamp n.stamp) (lt_test r.tx n.tx) r.event h f ∙ ap (checked (Rec r)) e;
      short = omega (arith, record_le plan r r.event n f h);
    }

reads_back : (plan : PlanOf) (f : Fact) (text : List ℕ) → IsBack plan f → IsUtf8 text → read text ≡ Some (data_of plan f) → length text ≤ longest_line → fact_read plan text ≡ Ok f
reads_back plan f text b utf8 same short =
    let t : nat_le (length text) longest_line ≡ true = grind arith in
    rw (t, json_of-text text utf8, same) b.judges

-- what the writer's steps say of the text
pub written_reads : (plan : PlanOf) (f : Fact) (d : Data) (text : List ℕ) → first_plan_fault plan ≡ None → NumberIsOwn → FactFits f → first_fact_fault plan f ≡ None → d ≡ data_of plan f
    → IsUtf8 text → (has_float d ≡ false → text ≡ compact_text d) → (depth d ≤ 127 → read text ≡ Some d) → fact_read plan text ≡ Ok f
written_reads plan f d text s own h e is utf8 spelled reads =
    let b = back plan f (sound plan s) own h e in
    let t : text ≡ compact_text (data_of plan f) = spelled (ap has_float is ∙ plain plan f) ∙ ap compact_text is in
    let short : length text ≤ longest_line = rw t b.short in
    let flat_d : depth d ≤ 127 = rw (is, flat plan f) (omega arith) in
    reads_back plan f text b utf8 (reads flat_d ∙ ap Some is) short
