-- What words say, and the words of a text.
use Rattle.std.proofs.Common.{◌≡◌, ◌<◌, ◌≤◌, ◌-◌, ℕ, zero, suc, List, [], ◌∷◌, ◌++◌, Bool, true, false, ◌&&◌, ◌||◌, ◌==◌, not, length, take, get_or, slice_index, nat_lt, nat_le, cond, decimal, Result, Ok, Err, length-append, append_assoc, refl, ap, ◌∙◌, sym, subst, arith}
use Rattle.std.specs.Str.Parse.{digits_value, AllDigits}
use Rattle.std.proofs.lemmas.Str.Parse.{digit_from_value, IsNumeralModel}
use Rattle.std.proofs.lemmas.Fmt.{decimal_is_IsNumeral, first_decimal, decimal_digit, decimal-digits_value}
use Rattle.std.proofs.Math.Seq.{get_or-append_seam, take-append_seam}
use Rattle.aud_witness.specs.declared.decision.Fate.{Fate}
use Rattle.aud_witness.specs.declared.decision.Fate.TheVariants.{C, A}
use Rattle.aud_witness.specs.declared.decision.Decision.{Decision}
use Rattle.aud_json.specs.declared.fault.TextFault.{TextFault}
use Rattle.aud_json.specs.declared.fault.TextFault.TheVariants as fault
use Rattle.aud_text.specs.declared.word.WordRead.TheVariants.{Decided, TooGreat, Unknown}
use Rattle.aud_text.specs.Orders.{word_read, ended_read, id_read, is_plain, all_digits, with_word, decision_text, fate_letter}
use Rattle.aud_text.proofs.Digits.{one_digit}
use Rattle.base_values.proofs.Bools.{and_true}
use Rattle.aud_event.specs.Limits.{most_transactions}

-- ---- one word

pub word_ended : (ds : List ℕ) (x : ℕ) → word_read (ds ++ x ∷ []) ≡ ended_read x ds
word_ended ds x =
    let len : length (ds ++ x ∷ []) ≡ suc (length ds) = omega (arith, length-append ds (x ∷ [])) in
    let less : suc (length ds) - 1 ≡ length ds = omega arith in
    let last : slice_index (ds ++ x ∷ []) (length ds) ≡ x = get_or-append_seam ds x [] 0 in
    let front : take (length ds) (ds ++ x ∷ []) ≡ ds = take-append_seam ds (x ∷ []) in
    let some : (suc (length ds) == 0) ≡ false = grind arith in
    rw (len, less, last, front, some) refl

digits_pass : (ds : List ℕ) → AllDigits 10 ds → all_digits ds ≡ true
digits_pass [] h = refl
digits_pass (c ∷ cs) h =
    let r = digit_from_value c h.0 in
    let a : nat_le 48 c ≡ true = grind (arith, r.0) in
    let b : nat_le c 57 ≡ true = grind (arith, r.1) in
    rw (a, b, digits_pass cs h.1) refl

first_passes : (n : ℕ) → n < most_transactions → ((length (decimal n) == 1) || not (slice_index (decimal n) 0 == 48)) ≡ true
first_passes zero h = rw (decimal_digit 0 (omega arith)) refl
first_passes (suc n) h =
    let f = first_decimal (suc n) (omega arith) (omega arith) in
    let e : (slice_index (decimal (suc n)) 0 == 48) ≡ false = grind (arith, f) in rw e (or_true (length (decimal (suc n)) == 1))
  where
    or_true : (b : Bool) → (b || true) ≡ true
    or_true true = refl
    or_true false = refl

pub decimal_plain : (n : ℕ) → n < most_transactions → is_plain (decimal n) ≡ true
decimal_plain n h =
    let d = decimal_is_IsNumeral n (omega arith) in
    let some : (length (decimal n) == 0) ≡ false = grind (arith, d.0.0) in
    rw (some, digits_pass (decimal n) d.0.1, first_passes n h) refl

id_reads_back : (n : ℕ) (f : Fate) → n < most_transactions → id_read (decimal n) f ≡ Decided (record { tx = n; fate = f })
id_reads_back n f h =
    let d = decimal_is_IsNumeral n (omega arith) in
    let t : nat_lt n most_transactions ≡ true = grind arith in
    rw (decimal_plain n h, d.1, t) refl

-- what is written of a decision reads as it
pub word_reads_back : (d : Decision) → d.tx < most_transactions → word_read (decision_text d) ≡ Decided d
word_reads_back d h = word_ended (decimal d.tx) (fate_letter d.fate) ∙ by_fate d.tx d.fate h
  where
    by_fate : (n : ℕ) (f : Fate) → n < most_transactions → ended_read (fate_letter f) (decimal n) ≡ Decided (record { tx = n; fate = f })
    by_fate n C h = id_reads_back n C h
    by_fate n A h = id_reads_back n A h

own : IsNumeralModel (AllDigits 10) (digits_value 10)
own = record { to = λ ds h. h; from = λ ds h. h; same = λ ds h. refl }

passing_digits : (ds : List ℕ) → all_digits ds ≡ true → AllDigits 10 ds
passing_digits [] h = tt
passing_digits (c ∷ cs) h =
    let b = and_true (nat_le 48 c && nat_le c 57) (all_digits cs) h in
    let d = one_digit c b.0 in
    let t = and_true (nat_le 48 c) (nat_le c 57) b.0 in
    let high : c ≤ 57 = grind (arith, t.1) in
    (omega (arith, d), passing_digits cs b.1)

pub plain_decimal : (ds : List ℕ) → is_plain ds ≡ true → digits_value 10 ds < most_transactions → decimal (digits_value 10 ds) ≡ ds
plain_decimal ds h v =
    let a = and_true (not (length ds == 0)) (all_digits ds && ((length ds == 1) || not (slice_index ds 0 == 48))) h in
    let b = and_true (all_digits ds) ((length ds == 1) || not (slice_index ds 0 == 48)) a.1 in
    decimal-digits_value own ds (passing_digits ds b.0) (some (length ds) a.0) (λ e. lead (length ds) (get_or ds 0 0) b.1 e) (omega arith)
  where
    some : (n : ℕ) → not (n == 0) ≡ true → 0 < n
    some zero h = absurd (cc)
    some (suc n) h = omega arith

    lead : (n x : ℕ) → ((n == 1) || not (x == 48)) ≡ true → x ≡ 48 → n ≡ 1
    lead n x h e = grind arith

good_id : (p q : Bool) (e d : Decision) → cond p (cond q (Decided e) TooGreat) Unknown ≡ Decided d → (p ≡ true) × (q ≡ true) × (e ≡ d)
good_id true true e d h = (refl, refl, cc)
good_id true false e d h = absurd (cc)
good_id false q e d h = absurd (cc)

id_exact : (ds : List ℕ) (f : Fate) (d : Decision) → id_read ds f ≡ Decided d → (ds ≡ decimal d.tx) × (f ≡ d.fate)
id_exact ds f d h =
    let r = good_id (is_plain ds) (nat_lt (digits_value 10 ds) most_transactions) (record { tx = digits_value 10 ds; fate = f }) d h in
    let low : digits_value 10 ds < most_transactions = grind (arith, r.1) in
    (sym (ap (λ e. decimal e.tx) (sym r.2) ∙ plain_decimal ds r.0 low), ap (λ e. e.fate) r.2)

-- the last element stands after the others
last_apart : (x : ℕ) (xs : List ℕ) → (ds : List ℕ) × (y : ℕ) × (x ∷ xs ≡ ds ++ y ∷ [])
last_apart x [] = ([], x, refl)
last_apart x (y ∷ ys) = let r = last_apart y ys in (x ∷ r.0, r.1, ap (λ zs. x ∷ zs) r.2)

ended_exact : (ds : List ℕ) (x : ℕ) (d : Decision) → ended_read x ds ≡ Decided d → ds ++ x ∷ [] ≡ decision_text d
ended_exact ds x d h = by_letter (x == 99) (x == 97) refl refl h
  where
    joined : (f : Fate) → x ≡ fate_letter f → (ds ≡ decimal d.tx) × (f ≡ d.fate) → ds ++ x ∷ [] ≡ decision_text d
    joined f e r = ap (λ l. ds ++ l ∷ []) (e ∙ ap fate_letter r.1) ∙ ap (λ zs. zs ++ fate_letter d.fate ∷ []) r.0

    by_letter : (b c : Bool) → (x == 99) ≡ b → (x == 97) ≡ c → cond b (id_read ds C) (cond c (id_read ds A) Unknown) ≡ Decided d → ds ++ x ∷ [] ≡ decision_text d
    by_letter true c e f g = joined C (grind (arith, e)) (id_exact ds C d g)
    by_letter false true e f g = joined A (grind (arith, f)) (id_exact ds A d g)
    by_letter false false e f g = absurd (cc)

-- no other word reads as a decision
pub word_exact : (w : List ℕ) (d : Decision) → word_read w ≡ Decided d → w ≡ decision_text d
word_exact [] d h = absurd (cc)
word_exact (x ∷ xs) d h =
    let r = last_apart x xs in
    r.2 ∙ ended_exact r.0 r.1 d (sym (word_ended r.0 r.1) ∙ (ap word_read (sym r.2) ∙ h))

-- ---- what reads as a decision has an id within the limit

id_low : (ds : List ℕ) (f : Fate) (d : Decision) → id_read ds f ≡ Decided d → d.tx < most_transactions
id_low ds f d h =
    let r = good_id (is_plain ds) (nat_lt (digits_value 10 ds) most_transactions) (record { tx = digits_value 10 ds; fate = f }) d h in
    let low : digits_value 10 ds < most_transactions = grind (arith, r.1) in
    subst (λ e. e.tx < most_transactions) r.2 low

ended_low : (ds : List ℕ) (x : ℕ) (d : Decision) → ended_read x ds ≡ Decided d → d.tx < most_transactions
ended_low ds x d h = by_letter (x == 99) (x == 97) h
  where
    by_letter : (b c : Bool) → cond b (id_read ds C) (cond c (id_read ds A) Unknown) ≡ Decided d → d.tx < most_transactions
    by_letter true c g = id_low ds C d g
    by_letter false true g = id_low ds A d g
    by_letter false false g = absurd (cc)

pub word_low : (w : List ℕ) (d : Decision) → word_read w ≡ Decided d → d.tx < most_transactions
word_low [] d h = absurd (cc)
word_low (x ∷ xs) d h =
    let r = last_apart x xs in ended_low r.0 r.1 d (sym (word_ended r.0 r.1) ∙ (ap word_read (sym r.2) ∙ h))

-- ---- what was read so far

-- the decisions so far before those of the rest, or, where an unknown word was met, what is reported then
abbrev pub so_far : List Decision → Bool → Result (List Decision) TextFault → Result (List Decision) TextFault
so_far ds true (Ok rest) = Ok (ds ++ rest)
so_far ds true (Err e) = Err e
so_far ds false r = with_word Unknown r

pub so_far-decided : (ds : List Decision) (b : Bool) (d : Decision) (r : Result (List Decision) TextFault) → so_far ds b (with_word (Decided d) r) ≡ so_far (ds ++ d ∷ []) b r
so_far-decided ds true d (Ok rest) = ap Ok (sym (append_assoc ds (d ∷ []) rest))
so_far-decided ds true d (Err e) = refl
so_far-decided ds false d (Ok rest) = refl
so_far-decided ds false d (Err e) = refl

pub so_far-unknown : (ds : List Decision) (b : Bool) (r : Result (List Decision) TextFault) → so_far ds b (with_word Unknown r) ≡ so_far ds false r
so_far-unknown ds true (Ok rest) = refl
so_far-unknown ds true (Err fault.TypeOrRange) = refl
so_far-unknown ds true (Err _) = refl
so_far-unknown ds false (Ok rest) = refl
so_far-unknown ds false (Err fault.TypeOrRange) = refl
so_far-unknown ds false (Err _) = refl

pub so_far-great : (ds : List Decision) (b : Bool) → so_far ds b (Err fault.TypeOrRange) ≡ Err fault.TypeOrRange
so_far-great ds true = refl
so_far-great ds false = refl
