-- The words of a text, and the text of decisions.
use Rattle.std.proofs.Common.{◌≡◌, ◌<◌, ◌≤◌, ◌+◌, ℕ, List, [], ◌∷◌, ◌++◌, Bool, true, false, ◌==◌, map, length, take, drop, nat_lt, nat_le, cond, decimal, codes, bytes_eq, Option, Some, None, Result, Ok, Err, flat_map, append_assoc, refl, ap, ◌∙◌, sym, subst, arith}
use mathlib.Core.List.{IsPrefix}
use Rattle.std.specs.Prelude.{position}
use Rattle.std.specs.List.{All, join_with_byte, position_or_len}
use Rattle.std.specs.Str.Parse.{AllDigits}
use Rattle.std.proofs.lemmas.List.Elements.{All-head, All-tail, All-cons, All-nil, All-push}
use Rattle.std.proofs.lemmas.List.{append-nil}
use Rattle.std.proofs.lemmas.List.Sums.{fails_before_first}
use Rattle.std.proofs.lemmas.List.Splits.{slice_split_first, slice_split_none, slice_split_at, join_with_byte-slice_split, length-slice_split}
use Rattle.std.proofs.lemmas.Str.Parse.{digit_from_value}
use Rattle.std.proofs.lemmas.Slice.Eq.{bytes_eq-Decides}
use Rattle.std.proofs.lemmas.Fmt.{decimal_is_IsNumeral}
use Rattle.aud_witness.specs.declared.decision.Fate.{Fate}
use Rattle.aud_witness.specs.declared.decision.Fate.TheVariants.{C, A}
use Rattle.aud_witness.specs.declared.decision.Decision.{Decision}
use Rattle.aud_json.specs.declared.fault.TextFault.{TextFault}
use Rattle.aud_json.specs.declared.fault.TextFault.TheVariants as fault
use Rattle.aud_text.specs.declared.word.WordRead.{WordRead}
use Rattle.aud_text.specs.declared.word.WordRead.TheVariants.{Decided, TooGreat, Unknown}
use Rattle.aud_text.specs.Orders.{words_of, words_read, word_read, with_word, order_read, order_text, decision_text, fate_letter}
use Rattle.aud_text.proofs.Words.{word_reads_back, word_exact, word_low}
use Rattle.aud_event.specs.Limits.{most_transactions}
use Rattle.aud_text.specs.Limits.{longest_order}

abbrev is_space : ℕ → Bool
is_space b = b == 32

-- ---- the first word

place : (b : Bool) (n m i : ℕ) → nat_lt n m ≡ b → Some i ≡ cond b (Some n) None → (i ≡ n) × (n < m)
place true n m i e h = (cc, grind (arith, e))
place false n m i e h = absurd (cc)

pub first_of_more : (xs : List ℕ) (o : Option ℕ) (i : ℕ) → o ≡ Some i → o ≡ position (λ b. b == 32) xs → words_of xs ≡ take i xs ∷ words_of (drop (i + 1) xs)
first_of_more xs o i e h =
    let r = place (nat_lt (position_or_len is_space xs) (length xs)) (position_or_len is_space xs) (length xs) i refl (sym e ∙ h) in
    slice_split_first is_space xs 0 r.1 ∙ ap (λ k. take k xs ∷ words_of (drop (k + 1) xs)) (sym r.0)

past : (b : Bool) (n m : ℕ) → nat_lt n m ≡ b → None ≡ cond b (Some n) None → m ≤ n
past true n m e h = absurd (cc)
past false n m e h = grind (arith, e)

pub only_word : (xs : List ℕ) (o : Option ℕ) → o ≡ None → o ≡ position (λ b. b == 32) xs → words_of xs ≡ xs ∷ []
only_word xs o e h =
    let r = past (nat_lt (position_or_len is_space xs) (length xs)) (position_or_len is_space xs) (length xs) refl (sym e ∙ h) in
    slice_split_none is_space xs (λ k d l. fails_before_first is_space xs k d (omega arith))

-- ---- the text of decisions

pub join-more : (d : Decision) (ds : List Decision) → decision_text d ++ flat_map (λ e. 32 ∷ decision_text e) ds ≡ order_text (d ∷ ds)
join-more d [] = append-nil (decision_text d)
join-more d (e ∷ ds) = ap (λ zs. decision_text d ++ 32 ∷ zs) (join-more e ds)

abbrev pub NoSpace : List ℕ → Type 0
NoSpace = All (λ b. (b == 32) ≡ false)

abbrev EachNoSpace : List (List ℕ) → Type 0
EachNoSpace [] = Unit {0}
EachNoSpace (w ∷ ws) = NoSpace w × EachNoSpace ws

pub split_joined : (w : List ℕ) (ws : List (List ℕ)) → EachNoSpace (w ∷ ws) → words_of (join_with_byte 32 (w ∷ ws)) ≡ w ∷ ws
split_joined w [] h = slice_split_none is_space w h.0
split_joined w (y ∷ ws) h = slice_split_at is_space w 32 (join_with_byte 32 (y ∷ ws)) h.0 refl ∙ ap (λ zs. w ∷ zs) (split_joined y ws h.1)

digits_no_space : (ds : List ℕ) → AllDigits 10 ds → NoSpace ds
digits_no_space [] h = All-nil (λ b. (b == 32) ≡ false)
digits_no_space (c ∷ cs) h =
    let r = digit_from_value c h.0 in
    All-cons (λ b. (b == 32) ≡ false) c cs (grind (arith, r.0)) (digits_no_space cs h.1)

letter_no_space : (f : Fate) → (fate_letter f == 32) ≡ false
letter_no_space C = refl
letter_no_space A = refl

decision_no_space : (d : Decision) → d.tx < most_transactions → NoSpace (decision_text d)
decision_no_space d h =
    let n = decimal_is_IsNumeral d.tx (omega arith) in
    All-push (λ b. (b == 32) ≡ false) (decimal d.tx) (fate_letter d.fate) (digits_no_space (decimal d.tx) n.0.1) (letter_no_space d.fate)

abbrev Low : Decision → Type 0
Low d = d.tx < most_transactions

texts_no_space : (ds : List Decision) → All Low ds → EachNoSpace (map decision_text ds)
texts_no_space [] h = tt
texts_no_space (d ∷ ds) h = (decision_no_space d (All-head Low d ds h), texts_no_space ds (All-tail Low d ds h))

texts_read : (ds : List Decision) → All Low ds → words_read (map decision_text ds) ≡ Ok ds
texts_read [] h = refl
texts_read (d ∷ ds) h = rw (word_reads_back d (All-head Low d ds h), texts_read ds (All-tail Low d ds h)) refl

-- `none` is no word that reads as a decision
none_apart : (t : List ℕ) (ds : List Decision) → words_read (words_of t) ≡ Ok ds → bytes_eq t (codes "none") ≡ false
none_apart t ds h = by_test (bytes_eq t (codes "none")) refl
  where
    by_test : (b : Bool) → bytes_eq t (codes "none") ≡ b → b ≡ false
    by_test false e = refl
    by_test true e =
        let same : t ≡ codes "none" = (bytes_eq-Decides t (codes "none")).0 e in
        let bad : words_read (words_of (codes "none")) ≡ Err fault.UnknownWord = refl in
        absurd (cc)

pub reads_back : (ds : List Decision) → All (λ d. d.tx < most_transactions) ds → length (order_text ds) ≤ longest_order → order_read (order_text ds) ≡ Ok ds
reads_back [] h l = refl
reads_back (d ∷ ds) h l =
    let words : words_of (order_text (d ∷ ds)) ≡ map decision_text (d ∷ ds) = split_joined (decision_text d) (map decision_text ds) (texts_no_space (d ∷ ds) h) in
    let read : words_read (words_of (order_text (d ∷ ds))) ≡ Ok (d ∷ ds) = ap words_read words ∙ texts_read (d ∷ ds) h in
    by_parts (order_text (d ∷ ds)) l read (none_apart (order_text (d ∷ ds)) (d ∷ ds) read)
  where
    by_parts : (t : List ℕ) → length t ≤ longest_order → words_read (words_of t) ≡ Ok (d ∷ ds) → bytes_eq t (codes "none") ≡ false → order_read t ≡ Ok (d ∷ ds)
    by_parts t l r n = let short : nat_le (length t) longest_order ≡ true = grind arith in rw (short, n) r

-- ---- no other text

with_word_ok : (w : WordRead) (r : Result (List Decision) TextFault) (ds : List Decision) → with_word w r ≡ Ok ds → (d : Decision) × (rest : List Decision) × (w ≡ Decided d) × (r ≡ Ok rest) × (ds ≡ d ∷ rest)
with_word_ok (Decided d) (Ok rest) ds h = (d, rest, refl, refl, cc)
with_word_ok (Decided d) (Err e) ds h = absurd (cc)
with_word_ok TooGreat r ds h = absurd (cc)
with_word_ok Unknown (Ok rest) ds h = absurd (cc)
with_word_ok Unknown (Err fault.TypeOrRange) ds h = absurd (cc)
with_word_ok Unknown (Err _) ds h = absurd (cc)

words_exact : (ws : List (List ℕ)) (ds : List Decision) → words_read ws ≡ Ok ds → ws ≡ map decision_text ds
words_exact [] [] h = refl
words_exact [] (d ∷ ds) h = absurd (cc)
words_exact (w ∷ ws) ds h =
    let r = with_word_ok (word_read w) (words_read ws) ds h in
    let first : w ≡ decision_text r.0 = word_exact w r.0 r.2 in
    let rest : ws ≡ map decision_text r.1 = words_exact ws r.1 r.3 in
    ap (λ x. x ∷ ws) first ∙ (ap (λ xs. decision_text r.0 ∷ xs) rest ∙ ap (map decision_text) (sym r.4))

texts_join : (t : List ℕ) (ds : List Decision) → words_read (words_of t) ≡ Ok ds → t ≡ order_text ds
texts_join t ds h = sym (join_with_byte-slice_split 32 t) ∙ joined ds (words_exact (words_of t) ds h)
  where
    joined : (ds : List Decision) → words_of t ≡ map decision_text ds → join_with_byte 32 (words_of t) ≡ order_text ds
    joined [] e = absurd (omega (arith, length-slice_split is_space t, ap length e))
    joined (d ∷ ds) e = ap (join_with_byte 32) e

pub exact : (t : List ℕ) (ds : List Decision) → order_read t ≡ Ok ds → t ≡ order_text ds
exact t ds h = by_length (nat_le (length t) longest_order) (bytes_eq t (codes "none")) refl h
  where
    by_length : (b c : Bool) → bytes_eq t (codes "none") ≡ c → cond b (cond c (Ok []) (words_read (words_of t))) (Err fault.TooLong) ≡ Ok ds → t ≡ order_text ds
    by_length false c e g = absurd (cc)
    by_length true true e g = let same : t ≡ codes "none" = (bytes_eq-Decides t (codes "none")).0 e in let none : ds ≡ [] = cc in same ∙ ap order_text (sym none)
    by_length true false e g = texts_join t ds g

words_low : (ws : List (List ℕ)) (ds : List Decision) → words_read ws ≡ Ok ds → All Low ds
words_low [] [] h = All-nil Low
words_low [] (d ∷ ds) h = absurd (cc)
words_low (w ∷ ws) ds h =
    let r = with_word_ok (word_read w) (words_read ws) ds h in
    subst (All Low) (sym r.4) (All-cons Low r.0 r.1 (word_low w r.0 r.2) (words_low ws r.1 r.3))

-- what reads as decisions is within the limits
pub within : (t : List ℕ) (ds : List Decision) → order_read t ≡ Ok ds → All (λ d. d.tx < most_transactions) ds × (length t ≤ longest_order)
within t ds h = by_length (nat_le (length t) longest_order) (bytes_eq t (codes "none")) refl h
  where
    by_length : (b c : Bool) → nat_le (length t) longest_order ≡ b → cond b (cond c (Ok []) (words_read (words_of t))) (Err fault.TooLong) ≡ Ok ds → All Low ds × (length t ≤ longest_order)
    by_length false c e g = absurd (cc)
    by_length true true e g = let none : [] ≡ ds = cc in (subst (All Low) none (All-nil Low), grind (arith, e))
    by_length true false e g = (words_low (words_of t) ds g, grind (arith, e))

-- what the writer's steps leave
pub order_pushed : (start mid all : List ℕ) (d : Decision) (ds order : List Decision) → mid ≡ start ++ decision_text d → all ≡ mid ++ flat_map (λ e. 32 ∷ decision_text e) ds → order ≡ d ∷ ds
    → all ≡ start ++ order_text order
order_pushed start mid all d ds order m a o =
    let more = flat_map (λ e. 32 ∷ decision_text e) ds in
    a ∙ (ap (λ t. t ++ more) m ∙ (append_assoc start (decision_text d) more ∙ ap (λ t. start ++ t) (join-more d ds ∙ ap order_text (sym o))))

-- a text with more after it, one byte more and what came after that
pub further : (start more now mid new : List ℕ) (b : ℕ) → now ≡ start ++ more → mid ≡ now ++ b ∷ [] → IsPrefix mid new → IsPrefix start new
further start more now mid new b n m p =
    let one = more ++ b ∷ [] in
    let first : start ++ one ≡ mid = sym (append_assoc start more (b ∷ [])) ∙ (ap (λ t. t ++ b ∷ []) (sym n) ∙ sym m) in
    (one ++ p.0, sym (append_assoc start one p.0) ∙ (ap (λ t. t ++ p.0) first ∙ p.1))

pub written_back : (text : List ℕ) (ds : List Decision) → text ≡ order_text ds → All (λ d. d.tx < most_transactions) ds → length text ≤ longest_order → order_read text ≡ Ok ds
written_back text ds e h l = ap order_read e ∙ reads_back ds h (subst (λ t. length t ≤ longest_order) e l)
