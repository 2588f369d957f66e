-- The text of a prefix.
use Rattle.std.specs.Prelude.{ℕ, ◌-◌, ◌==◌, ◌&&◌, ◌||◌, List, [], ◌∷◌, ◌++◌, map, Bool, not, Option, Some, None, Result, Ok, Err, nat_lt, nat_le, if◌then◌else◌, length, take, slice_index, codes, bytes_eq, decimal, ◌≡◌, ◌<◌, ◌≤◌, All}
use Rattle.std.specs.List.{list_all, slice_split, join_with_byte}
use Rattle.std.specs.Str.Parse.{digits_value}
use Rattle.aud_event.specs.Limits.{most_transactions}
use Rattle.aud_witness.specs.declared.decision.Fate.{Fate}
use Rattle.aud_witness.specs.declared.decision.Fate.TheVariants.{C, A}
use Rattle.aud_witness.specs.declared.decision.Decision.{Decision}
use Rattle.aud_json.specs.declared.fault.TextFault.{TextFault}
use Rattle.aud_json.specs.declared.fault.TextFault.TheVariants as fault
use Rattle.aud_text.specs.declared.word.WordRead.{WordRead}
use Rattle.aud_text.specs.declared.word.WordRead.TheVariants.{Decided, TooGreat, Unknown}
use Rattle.aud_text.specs.Limits.{longest_order}

-- ---- one decision

abbrev pub all_digits : List ℕ → Bool
all_digits = list_all (λ b. nat_le 48 b && nat_le b 57)

-- digits with no zero before another
abbrev pub is_plain : List ℕ → Bool
is_plain ds = not (length ds == 0) && (all_digits ds && ((length ds == 1) || not (slice_index ds 0 == 48)))

abbrev pub id_read : List ℕ → Fate → WordRead
id_read ds fate = if is_plain ds then (if nat_lt (digits_value 10 ds) most_transactions then Decided (record { tx = digits_value 10 ds; fate = fate }) else TooGreat) else Unknown

abbrev pub ended_read : ℕ → List ℕ → WordRead
ended_read last ds = if last == 99 then id_read ds C else (if last == 97 then id_read ds A else Unknown)

-- what a word says: an id in decimal, then `c` or `a`
abbrev pub word_read : List ℕ → WordRead
word_read w = if length w == 0 then Unknown else ended_read (slice_index w (length w - 1)) (take (length w - 1) w)

abbrev pub fate_letter : Fate → ℕ
fate_letter C = 99
fate_letter A = 97

abbrev pub decision_text : Decision → List ℕ
decision_text d = decimal d.tx ++ fate_letter d.fate ∷ []

-- ---- a prefix

-- the parts of a text between its spaces
abbrev pub words_of : List ℕ → List (List ℕ)
words_of text = slice_split (λ b. b == 32) text

abbrev pub words_left : Option (List ℕ) → List (List ℕ)
words_left None = []
words_left (Some text) = words_of text

-- a number that is too great is reported before an unknown word, wherever the two stand
abbrev pub with_word : WordRead → Result (List Decision) TextFault → Result (List Decision) TextFault
with_word TooGreat r = Err fault.TypeOrRange
with_word Unknown (Err fault.TypeOrRange) = Err fault.TypeOrRange
with_word Unknown _ = Err fault.UnknownWord
with_word (Decided d) (Err e) = Err e
with_word (Decided d) (Ok ds) = Ok (d ∷ ds)

abbrev pub words_read : List (List ℕ) → Result (List Decision) TextFault
words_read [] = Ok []
words_read (w ∷ ws) = with_word (word_read w) (words_read ws)

-- what an order text says
abbrev pub order_read : List ℕ → Result (List Decision) TextFault
order_read text =
    if nat_le (length text) longest_order
    then (if bytes_eq text (codes "none") then Ok [] else words_read (words_of text))
    else Err fault.TooLong

-- the text of a list
abbrev pub order_text : List Decision → List ℕ
order_text [] = codes "none"
order_text (d ∷ ds) = join_with_byte 32 (map decision_text (d ∷ ds))

-- the text reads as the decisions, where their ids and the text are within the limits
abbrev pub ReadsBackAs : List Decision → List ℕ → Type 0
ReadsBackAs ds text = All (λ d. d.tx < most_transactions) ds → length text ≤ longest_order → order_read text ≡ Ok ds
