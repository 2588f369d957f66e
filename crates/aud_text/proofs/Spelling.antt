-- A line that is spelled as it is written is read as what it was written for.
use Rattle.std.proofs.Common.{◌≡◌, ℕ, ℤ, pos, negsuc, ◌<◌, ◌≤◌, List, [], ◌∷◌, ◌++◌, length, true, false, ◌&&◌, Option, Some, None, Ok, nat_le, codes, decimal, unwrap_or, option_map, option_and_then, slice_get, refl, sym, ap, ◌∙◌, arith, inl, inr, append_assoc, append-nil}
use Rattle.std.specs.Prelude.{FitsSigned}
use Rattle.std.specs.Int.{w64}
use Rattle.std.specs.Fmt.{signed_decimal, digits}
use Rattle.std.specs.List.{list_all}
use Rattle.std.specs.Str.{IsUtf8}
use Rattle.std.proofs.lemmas.Bool.{cases_lt}
use Rattle.std.proofs.lemmas.Int.{ints}
use Rattle.json.specs.Lex.{tokens}
use Rattle.json.specs.Json.{value, if_last}
use Rattle.json.specs.Print.{escape_byte, escape, quoted, IsNumber}
use Rattle.json.specs.Word.{after_number}
use Rattle.json.specs.Tree.{json_tokens, HasNumbers, depth}
use Rattle.json.proofs.Printed.Decimals.{IsNumber-decimal, IsNumber-signed_decimal}
use Rattle.json.proofs.Printed.Strings.{escape_byte_plain}
use Rattle.json.proofs.Printed.Tokens.{tokens-print}
use Rattle.json.proofs.Printed.Trees.{value-json_tokens, ArePrintable-json_tokens}
use Rattle.serde_json.specs.Data.{Data, unsigned, number, object, Members, no_members, member}
use Rattle.serde_json.specs.Find.{of_integer}
use Rattle.serde_json.specs.Read.{read, of_json, number_of}
use Rattle.serde_json.specs.Written.{compact_text, members_text, number_text, outline}
use Rattle.serde_json.proofs.Numbers.{number_of-decimal, number_of-negative}
use Rattle.serde_json.proofs.Texts.{print-outline}
use Rattle.aud_event.specs.Meanings.{Declared, PlanOf}
use Rattle.aud_event.specs.Facts.{first_fact_fault}
use Rattle.aud_event.specs.Laws.{NumberIsOwn}
use Rattle.aud_event.specs.Plans.{first_plan_fault, is_name, is_name_byte}
use Rattle.aud_event.specs.Objects.{name_of, args_of, word_of_op}
use Rattle.aud_event.specs.declared.signature.Args.{Args}
use Rattle.aud_event.specs.declared.signature.Args.TheVariants as args
use Rattle.aud_event.specs.Rows.{word-is_name}
use Rattle.aud_event.specs.declared.object.Op.{Op}
use Rattle.aud_event.specs.declared.object.OpName.{OpName}
use Rattle.aud_event.specs.declared.object.Answer.{Answer}
use Rattle.aud_event.specs.declared.object.Answer.TheVariants.{Done, Int, Flag, Empty}
use Rattle.aud_event.specs.declared.fact.EndMark.{EndMark}
use Rattle.aud_event.specs.declared.fact.Record.{Record}
use Rattle.aud_event.specs.declared.fact.Event.{Event}
use Rattle.aud_event.specs.declared.fact.Event.TheVariants as event
use Rattle.aud_event.specs.declared.fact.Fact.{Fact}
use Rattle.aud_event.specs.declared.fact.Fact.TheVariants.{Rec, End}
use Rattle.aud_text.specs.FactText.{fact_read}
use Rattle.aud_text.specs.Spelled.{place_text, log_text, use_text, tail_text, answer_text, end_text, called_text, invoked_text, record_text, spelled_text}
use Rattle.aud_text.specs.Written.{data_of, record_members, end_members, object_name, whole_data, answer_data, headed, tailed, operated, invoked, with_value, first_of, AnswerFits, ArgsFit, EventFits, FactFits}
use Rattle.aud_text.proofs.Back.{written_reads}
use Rattle.aud_text.proofs.Sound.{IsSound, sound, named_at, RecordInRange, EndInRange, record_in_range, end_in_range}
use Rattle.base_values.proofs.Bools.{and_true}

-- ---- names and words are not escaped

name_byte : (b : ℕ) → is_name_byte b ≡ true → (b ≡ 34 → ⊥) × (b ≡ 92 → ⊥) × (32 ≤ b)
name_byte b h = (λ e. grind (arith, h, e), λ e. grind (arith, h, e), grind (arith, h))

plain_bytes : (s : List ℕ) → list_all is_name_byte s ≡ true → escape s ≡ s
plain_bytes [] h = refl
plain_bytes (b ∷ bs) h =
    let parts = and_true (is_name_byte b) (list_all is_name_byte bs) h in
    let byte = name_byte b parts.0 in
    rw (escape_byte_plain b byte.0 byte.1 byte.2, plain_bytes bs parts.1) refl

plain_name : (n : List ℕ) → is_name n ≡ true → escape n ≡ n
plain_name n h = plain_bytes n (and_true (nat_le 1 (length n) && nat_le (length n) 32) (list_all is_name_byte n) h).1

plain_object : (plan : PlanOf) (ob : ℕ) → IsSound plan → escape (object_name plan ob) ≡ object_name plan ob
plain_object plan ob s = by_get (slice_get plan.objects ob) refl
  where
    by_get : (g : Option Declared) → slice_get plan.objects ob ≡ g → escape (unwrap_or (option_map (λ d. d.name) g) []) ≡ unwrap_or (option_map (λ d. d.name) g) []
    by_get None same = refl
    by_get (Some d) same = plain_name d.name (named_at plan.objects ob d s.named same)

plain_word : (o : OpName) → escape (word_of_op o) ≡ word_of_op o
plain_word o = plain_name (word_of_op o) (word-is_name o)

pub quoted_then : (s rest : List ℕ) → escape s ≡ s → quoted s ++ rest ≡ 34 ∷ (s ++ 34 ∷ rest)
quoted_then s rest e = rw e (ap (λ l. 34 ∷ l) (append_assoc s (34 ∷ []) rest))

-- ---- the parts of a line are those of what is written

whole_is : (z : ℤ) → compact_text (whole_data z) ≡ signed_decimal z
whole_is (pos n) = refl
whole_is (negsuc n) = refl

answer_is : (a : Answer) → compact_text (answer_data a) ≡ answer_text a
unfolding escape_byte
answer_is Done = refl
answer_is (Int z) = whole_is z
answer_is (Flag true) = refl
answer_is (Flag false) = refl
answer_is Empty = refl

value_is : (a : Args) → members_text true (with_value a) ≡ end_text a
unfolding escape_byte
value_is args.Nothing = refl
value_is (args.Number v) = refl
value_is (args.Pair k v) = ap (λ l. codes ",\"val\":" ++ (l ++ codes "}")) (whole_is v)

use_is : (plan : PlanOf) (r : Record) (ob : ℕ) (o : OpName) (rest : Members) → IsSound plan
    → members_text true (operated plan ob o (tailed r rest)) ≡ use_text (object_name plan ob) (word_of_op o) (tail_text r.stamp r.tx (members_text true rest))
unfolding escape_byte
use_is plan r ob o rest s =
    ap (λ l. codes ",\"ob\":" ++ l) (quoted_then (object_name plan ob) _ (plain_object plan ob s))
    ∙ ap (λ l. codes ",\"ob\":\"" ++ (object_name plan ob ++ (codes "\",\"op\":" ++ l))) (quoted_then (word_of_op o) _ (plain_word o))

invoked_is : (plan : PlanOf) (r : Record) (ob : ℕ) (o : OpName) (rest : Members) → IsSound plan
    → members_text true (headed r (codes "inv") (operated plan ob o (tailed r rest))) ≡ 44 ∷ called_text plan r (codes "inv") ob o (members_text true rest)
unfolding escape_byte
invoked_is plan r ob o rest s = ap (λ l. 44 ∷ place_text r.at (log_text (codes "inv") r.log l)) (use_is plan r ob o rest s)

asked_is : (plan : PlanOf) (r : Record) (ob : ℕ) (o : OpName) (rest : Members) → IsSound plan
    → members_text false (headed r (codes "inv") (operated plan ob o (tailed r rest))) ≡ called_text plan r (codes "inv") ob o (members_text true rest)
unfolding escape_byte
asked_is plan r ob o rest s = ap (λ l. place_text r.at (log_text (codes "inv") r.log l)) (use_is plan r ob o rest s)

answered_is : (plan : PlanOf) (r : Record) (ob : ℕ) (o : OpName) → IsSound plan
    → members_text true (headed r (codes "ret") (operated plan ob o (tailed r no_members))) ≡ 44 ∷ called_text plan r (codes "ret") ob o (codes "}")
unfolding escape_byte
answered_is plan r ob o s = ap (λ l. 44 ∷ place_text r.at (log_text (codes "ret") r.log l)) (use_is plan r ob o no_members s)

-- an invocation with a first argument
first_is : (plan : PlanOf) (r : Record) (ob : ℕ) (o : OpName) (z : ℤ) (rest : Members) → IsSound plan
    → compact_text (object (member (codes "arg") (whole_data z) (headed r (codes "inv") (operated plan ob o (tailed r rest)))))
    ≡ codes "{\"arg\":" ++ (signed_decimal z ++ (codes "," ++ called_text plan r (codes "inv") ob o (members_text true rest)))
unfolding escape_byte
first_is plan r ob o z rest s =
    ap (λ l. codes "{\"arg\":" ++ (l ++ members_text true (headed r (codes "inv") (operated plan ob o (tailed r rest))))) (whole_is z)
    ∙ ap (λ l. codes "{\"arg\":" ++ (signed_decimal z ++ l)) (invoked_is plan r ob o rest s)

invocation_is : (plan : PlanOf) (r : Record) (ob : ℕ) (o : OpName) (a : Args) → IsSound plan → compact_text (object (invoked plan r ob o a)) ≡ invoked_text plan r ob o a
unfolding escape_byte
invocation_is plan r ob o args.Nothing s = ap (λ l. 123 ∷ l) (asked_is plan r ob o no_members s)
invocation_is plan r ob o (args.Number z) s = first_is plan r ob o z no_members s
invocation_is plan r ob o (args.Pair z v) s =
    first_is plan r ob o z (with_value (args.Pair z v)) s
    ∙ ap (λ l. codes "{\"arg\":" ++ (signed_decimal z ++ (codes "," ++ called_text plan r (codes "inv") ob o l))) (value_is (args.Pair z v))

record_is : (plan : PlanOf) (r : Record) (e : Event) → IsSound plan → compact_text (object (record_members plan r e)) ≡ record_text plan r e
unfolding escape_byte
record_is plan r (event.Inv ob o) s = invocation_is plan r ob (name_of o) (args_of o) s
record_is plan r (event.Ret ob o a) s =
    ap (λ l. codes "{\"ans\":" ++ (l ++ members_text true (headed r (codes "ret") (operated plan ob o (tailed r no_members))))) (answer_is a)
    ∙ ap (λ l. codes "{\"ans\":" ++ (answer_text a ++ l)) (answered_is plan r ob o s)
record_is plan r event.TryC s = refl
record_is plan r event.TryA s = refl
record_is plan r event.Commit s = refl
record_is plan r event.Abort s = refl

pub spelled_is : (plan : PlanOf) (f : Fact) → IsSound plan → compact_text (data_of plan f) ≡ spelled_text plan f
unfolding escape_byte
spelled_is plan (Rec r) s = record_is plan r r.event s
spelled_is plan (End m) s = refl

-- ---- what is written is read as the same data

integer_read : (z : ℤ) → FitsSigned w64 z → number_of (number_text (of_integer z)) ≡ Some (of_integer z)
integer_read (pos n) h = let k : n < 9223372036854775808 = omega (arith, ints) in number_of-decimal n (omega arith)
integer_read (negsuc n) h = let k : n < 9223372036854775808 = omega (arith, ints) in number_of-negative n (omega arith)

least_number : IsNumber (signed_decimal (negsuc 9223372036854775807))
unfolding after_number digits
least_number = refl {a = Some []}

integer_number : (z : ℤ) → FitsSigned w64 z → IsNumber (number_text (of_integer z))
integer_number (pos n) h = let k : n < 9223372036854775808 = omega (arith, ints) in IsNumber-decimal n (omega arith)
integer_number (negsuc n) h =
    let k : n < 9223372036854775808 = omega (arith, ints) in
    elim (cases_lt n 9223372036854775807) [
      | inl below ↦ IsNumber-signed_decimal (negsuc n) (omega arith)
      | inr last ↦ let same : n ≡ 9223372036854775807 = omega arith in rw same least_number
    ]

small_read : (n : ℕ) → n < 4294967296 → number_of (decimal n) ≡ Some (unsigned n)
small_read n h = number_of-decimal n (omega arith)

small_number : (n : ℕ) → n < 4294967296 → IsNumber (decimal n)
small_number n h = IsNumber-decimal n (omega arith)

-- the value is read as the same data, has numbers for its numbers, and nests no deeper
pub record IsPlain (n : ℕ) (d : Data) : Type 0 where
  pub same : of_json (outline d) ≡ Some d
  pub numbers : HasNumbers (outline d)
  pub flat : depth (outline d) ≤ n

whole_plain : (z : ℤ) → FitsSigned w64 z → IsPlain 0 (whole_data z)
whole_plain z h = record { same = ap (option_map number) (integer_read z h); numbers = integer_number z h; flat = omega arith }

answer_plain : (a : Answer) → AnswerFits a → IsPlain 0 (answer_data a)
answer_plain Done h = record { same = refl; numbers = tt; flat = omega arith }
answer_plain (Int z) h = whole_plain z h
answer_plain (Flag b) h = record { same = refl; numbers = tt; flat = omega arith }
answer_plain Empty h = record { same = refl; numbers = tt; flat = omega arith }

ended_plain : (r : Record) (w : List ℕ) → RecordInRange r → IsPlain 1 (object (headed r w (tailed r no_members)))
ended_plain r w h = record {
  same = rw (small_read r.at h.at, small_read r.log h.log, small_read r.stamp h.stamp, small_read r.tx h.tx) refl;
  numbers = (small_number r.at h.at, (tt, (small_number r.log h.log, (small_number r.stamp h.stamp, (small_number r.tx h.tx, tt)))));
  flat = omega arith;
}

called_plain : (plan : PlanOf) (r : Record) (w : List ℕ) (ob : ℕ) (o : OpName) → RecordInRange r → IsPlain 1 (object (headed r w (operated plan ob o (tailed r no_members))))
called_plain plan r w ob o h = record {
  same = rw (small_read r.at h.at, small_read r.log h.log, small_read r.stamp h.stamp, small_read r.tx h.tx) refl;
  numbers = (small_number r.at h.at, (tt, (small_number r.log h.log, (tt, (tt, (small_number r.stamp h.stamp, (small_number r.tx h.tx, tt)))))));
  flat = omega arith;
}

argued_plain : (plan : PlanOf) (r : Record) (ob : ℕ) (o : OpName) (d : Data) → RecordInRange r → IsPlain 0 d
    → IsPlain 1 (object (member (codes "arg") d (headed r (codes "inv") (operated plan ob o (tailed r no_members)))))
argued_plain plan r ob o d h p = record {
  same = rw (p.same, small_read r.at h.at, small_read r.log h.log, small_read r.stamp h.stamp, small_read r.tx h.tx) refl;
  numbers = (p.numbers, (small_number r.at h.at, (tt, (small_number r.log h.log, (tt, (tt, (small_number r.stamp h.stamp, (small_number r.tx h.tx, tt))))))));
  flat = omega (arith, p.flat);
}

answered_plain : (plan : PlanOf) (r : Record) (ob : ℕ) (o : OpName) (d : Data) → RecordInRange r → IsPlain 0 d
    → IsPlain 1 (object (member (codes "ans") d (headed r (codes "ret") (operated plan ob o (tailed r no_members)))))
answered_plain plan r ob o d h p = record {
  same = rw (p.same, small_read r.at h.at, small_read r.log h.log, small_read r.stamp h.stamp, small_read r.tx h.tx) refl;
  numbers = (p.numbers, (small_number r.at h.at, (tt, (small_number r.log h.log, (tt, (tt, (small_number r.stamp h.stamp, (small_number r.tx h.tx, tt))))))));
  flat = omega (arith, p.flat);
}

paired_plain : (plan : PlanOf) (r : Record) (ob : ℕ) (o : OpName) (d e : Data) → RecordInRange r → IsPlain 0 d → IsPlain 0 e
    → IsPlain 1 (object (member (codes "arg") d (headed r (codes "inv") (operated plan ob o (tailed r (member (codes "val") e no_members))))))
paired_plain plan r ob o d e h p q = record {
  same = rw (p.same, small_read r.at h.at, small_read r.log h.log, small_read r.stamp h.stamp, small_read r.tx h.tx, q.same) refl;
  numbers = (p.numbers, (small_number r.at h.at, (tt, (small_number r.log h.log, (tt, (tt, (small_number r.stamp h.stamp, (small_number r.tx h.tx, (q.numbers, tt)))))))));
  flat = omega (arith, p.flat, q.flat);
}

invoked_plain : (plan : PlanOf) (r : Record) (ob : ℕ) (o : OpName) (a : Args) → RecordInRange r → ArgsFit a → IsPlain 1 (object (invoked plan r ob o a))
invoked_plain plan r ob o args.Nothing h f = called_plain plan r (codes "inv") ob o h
invoked_plain plan r ob o (args.Number z) h f = argued_plain plan r ob o (whole_data z) h (whole_plain z f)
invoked_plain plan r ob o (args.Pair k v) h f = paired_plain plan r ob o (whole_data k) (whole_data v) h (whole_plain k f.0) (whole_plain v f.1)

record_plain : (plan : PlanOf) (r : Record) (e : Event) → RecordInRange r → EventFits e → IsPlain 1 (object (record_members plan r e))
record_plain plan r (event.Inv ob o) h f = invoked_plain plan r ob (name_of o) (args_of o) h f
record_plain plan r (event.Ret ob o a) h f = answered_plain plan r ob o (answer_data a) h (answer_plain a f)
record_plain plan r event.TryC h f = ended_plain r (codes "tryc") h
record_plain plan r event.TryA h f = ended_plain r (codes "trya") h
record_plain plan r event.Commit h f = ended_plain r (codes "commit") h
record_plain plan r event.Abort h f = ended_plain r (codes "abort") h

mark_plain : (m : EndMark) → EndInRange m → IsPlain 1 (object (end_members m))
mark_plain m h = record {
  same = rw (small_read m.count h.count, small_read m.log h.log) refl;
  numbers = (small_number m.count h.count, (small_number m.log h.log, tt));
  flat = omega arith;
}

fact_plain : (plan : PlanOf) (f : Fact) → IsSound plan → FactFits f → first_fact_fault plan f ≡ None → IsPlain 1 (data_of plan f)
fact_plain plan (Rec r) s h e = record_plain plan r r.event (record_in_range plan r s e).0 h
fact_plain plan (End m) s h e = mark_plain m (end_in_range plan m s e)

pub plain_reads : (d : Data) → IsPlain 1 d → read (compact_text d) ≡ Some d
plain_reads d p =
    let spelled : tokens (compact_text d) ≡ json_tokens (outline d) = ap tokens (sym (print-outline d)) ∙ tokens-print (json_tokens (outline d)) (ArePrintable-json_tokens (outline d) p.numbers) in
    let flat : depth (outline d) ≤ 127 = omega (arith, p.flat) in
    ap (λ ts. option_and_then of_json (option_and_then (λ q. if_last q.0 q.1) (value 127 ts))) (spelled ∙ sym (append-nil (json_tokens (outline d))))
    ∙ ap (λ r. option_and_then of_json (option_and_then (λ q. if_last q.0 q.1) r)) (value-json_tokens (outline d) 127 [] flat)
    ∙ p.same

-- a line that is spelled as a fact that fits is that fact
pub spelled_reads : (plan : PlanOf) (f : Fact) (line : List ℕ) → first_plan_fault plan ≡ None → NumberIsOwn → FactFits f → first_fact_fault plan f ≡ None
    → line ≡ spelled_text plan f → IsUtf8 line → fact_read plan line ≡ Ok f
spelled_reads plan f line sane own fits none spelled utf8 =
    let s = sound plan sane in
    let same : line ≡ compact_text (data_of plan f) = spelled ∙ sym (spelled_is plan f s) in
    written_reads plan f (data_of plan f) line sane own fits none refl utf8 (λ _. same) (λ _. ap read same ∙ plain_reads (data_of plan f) (fact_plain plan f s fits none))

-- ---- the parts of an invocation with an argument

pub argued_is : (plan : PlanOf) (r : Record) (ob : ℕ) (o : Op) (n : OpName) (z : ℤ) (a : Args) (line l1 l2 l3 l4 l5 l6 l7 : List ℕ) → name_of o ≡ n → args_of o ≡ a → first_of a ≡ Some z
    → line ≡ codes "{\"arg\":" ++ l1 → l1 ≡ signed_decimal z ++ l2 → l2 ≡ codes "," ++ l3 → l3 ≡ place_text r.at l4 → l4 ≡ log_text (codes "inv") r.log l5
    → l5 ≡ use_text (object_name plan ob) (word_of_op n) l6 → l6 ≡ tail_text r.stamp r.tx l7 → l7 ≡ end_text a → line ≡ record_text plan r (event.Inv ob o)
argued_is plan r ob o n z a line l1 l2 l3 l4 l5 l6 l7 named with_a first e1 e2 e3 e4 e5 e6 e7 e8 =
    rw (named, with_a, first, e1, e2, e3, e4, e5, e6, e7, e8) refl
