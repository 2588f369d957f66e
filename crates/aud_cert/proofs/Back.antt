-- What is written of a certificate is read again.
use Rattle.std.proofs.Common.{◌≡◌, ◌<◌, ◌≤◌, ◌+◌, ◌-◌, ℕ, suc, List, [], ◌∷◌, ◌++◌, true, map, length, nat_le, nat_lt, codes, flat_map, decimal, Some, Ok, refl, ap, ◌∙◌, sym, arith, append_assoc, length-append}
use Rattle.std.specs.List.{All}
use Rattle.std.proofs.lemmas.Fmt.{length-decimal-le}
use Rattle.std.proofs.lemmas.List.Elements.{All-head, All-tail}
use Rattle.json.specs.Print.{escape_byte, escape}
use Rattle.json.proofs.Printed.Decimals.{IsNumber-decimal}
use Rattle.serde_json.specs.Data.{Data, unsigned, number, string, object, no_members, member}
use Rattle.serde_json.specs.Read.{read}
use Rattle.serde_json.specs.Find.{as_object}
use Rattle.serde_json.specs.Written.{compact_text}
use Rattle.serde_json.proofs.Numbers.{number_of-decimal}
use Rattle.aud_witness.specs.declared.decision.Decision.{Decision}
use Rattle.aud_text.specs.Lines.{Filled, lines_of, filled_from}
use Rattle.aud_text.specs.Orders.{order_text, decision_text, order_read}
use Rattle.aud_text.proofs.JsonText.{json_of-text}
use Rattle.aud_text.proofs.OrderText.{reads_back}
use Rattle.aud_text.proofs.Spelling.{IsPlain, plain_reads, quoted_then}
use Rattle.cert_accept.specs.declared.cert.CertLine.TheVariants.{Kids, Silent, Same}
use Rattle.aud_cert.specs.LineText.{OwnCertLine, line_read, line_judged}
use Rattle.aud_cert.specs.CertText.{header_members, header_read, lines_read, headed, lines_headed, with_line, cert_read}
use Rattle.aud_cert.specs.Written.{line_text, header_text, ended, cert_text, IsShort, HasShort, IsWithin}
use Rattle.aud_cert.proofs.Bytes.{plain-escape, order-plain}
use Rattle.aud_cert.proofs.LineBytes.{line-are_text, header-are_text, text-utf8, first-of}
use Rattle.aud_cert.specs.Limits.{longest_cert_line}

-- ---- the values of lines

abbrev line_data : OwnCertLine → Data
line_data (Kids p) = object (member (codes "by") (string (codes "kids")) (member (codes "p") (string (order_text p)) no_members))
line_data (Silent p d) = object (member (codes "by") (string (codes "silent")) (member (codes "d") (string (decision_text d)) (member (codes "p") (string (order_text p)) no_members)))
line_data (Same p q) = object (member (codes "as") (string (order_text q)) (member (codes "by") (string (codes "same")) (member (codes "p") (string (order_text p)) no_members)))

abbrev header_data : ℕ → Data
header_data n = object (member (codes "cert") (number (unsigned n)) no_members)

line-plain : (line : OwnCertLine) → IsPlain 1 (line_data line)
line-plain (Kids p) = record { same = refl; numbers = (tt, (tt, tt)); flat = omega arith }
line-plain (Silent p d) = record { same = refl; numbers = (tt, (tt, (tt, tt))); flat = omega arith }
line-plain (Same p q) = record { same = refl; numbers = (tt, (tt, (tt, tt))); flat = omega arith }

header-plain : (n : ℕ) → n < 9223372036854775808 → IsPlain 1 (header_data n)
header-plain n h = record {
  same = let own = number_of-decimal n (omega arith) in rw own refl;
  numbers = (IsNumber-decimal n (omega arith), tt);
  flat = omega arith;
}

-- ---- the texts are those of the values

short-plain : (p : List Decision) → IsShort p → escape (order_text p) ≡ order_text p
short-plain p short = plain-escape (order_text p) (order-plain p short.ids)

line-is : (line : OwnCertLine) → HasShort line → compact_text (line_data line) ≡ line_text line
unfolding escape_byte
line-is (Kids p) short = ap (λ l. codes "{\"by\":\"kids\",\"p\":" ++ l) (quoted_then (order_text p) (125 ∷ []) (short-plain p short))
line-is (Silent p d) short =
    ap (λ l. codes "{\"by\":\"silent\",\"d\":" ++ l) (quoted_then (decision_text d) _ (short-plain (d ∷ []) short.1))
    ∙ ap (λ l. codes "{\"by\":\"silent\",\"d\":\"" ++ (decision_text d ++ (codes "\",\"p\":" ++ l))) (quoted_then (order_text p) (125 ∷ []) (short-plain p short.0))
line-is (Same p q) short =
    ap (λ l. codes "{\"as\":" ++ l) (quoted_then (order_text q) _ (short-plain q short.1))
    ∙ ap (λ l. codes "{\"as\":\"" ++ (order_text q ++ (codes "\",\"by\":\"same\",\"p\":" ++ l))) (quoted_then (order_text p) (125 ∷ []) (short-plain p short.0))

header-is : (n : ℕ) → compact_text (header_data n) ≡ header_text n
unfolding escape_byte
header-is n = refl

-- ---- the values are judged as the lines

read-short : (p : List Decision) → IsShort p → order_read (order_text p) ≡ Ok p
read-short p short = reads_back p short.ids short.text

judged : (line : OwnCertLine) → HasShort line → line_judged (line_data line) ≡ Ok line
judged (Kids p) short = rw (read-short p short) refl
judged (Silent p d) short = rw (read-short p short.0, read-short (d ∷ []) short.1) refl
judged (Same p q) short = rw (read-short p short.0, read-short q short.1) refl

-- ---- the lines are read

header-short : (n : ℕ) → n < 9223372036854775808 → nat_le (length (header_text n)) longest_cert_line ≡ true
header-short n h =
    let digits = length-decimal-le 20 n (omega arith) (omega arith) (omega arith) in
    let parts : length (header_text n) ≡ 8 + (length (decimal n) + 1) = omega (arith, length-append (decimal n) (codes "}")) in
    grind (arith, digits, parts)

pub line-back : (line : OwnCertLine) → IsWithin line → line_read (line_text line) ≡ Ok line
line-back line within =
    let t : nat_le (length (line_text line)) longest_cert_line ≡ true = grind (arith, within.text) in
    let utf8 = text-utf8 (line_text line) (line-are_text line within.orders) in
    let same : read (line_text line) ≡ Some (line_data line) = ap read (sym (line-is line within.orders)) ∙ plain_reads (line_data line) (line-plain line) in
    rw (t, json_of-text (line_text line) utf8, same) (judged line within.orders)

header-judged : (n : ℕ) → nat_lt n 9223372036854775808 ≡ true → header_members (header_data n) (as_object (header_data n)) ≡ Ok n
header-judged n fits = rw fits refl

header-back : (n : ℕ) → n < 9223372036854775808 → header_read (header_text n) ≡ Ok n
header-back n small =
    let t : nat_le (length (header_text n)) longest_cert_line ≡ true = header-short n small in
    let utf8 = text-utf8 (header_text n) (header-are_text n small) in
    let same : read (header_text n) ≡ Some (header_data n) = ap read (sym (header-is n)) ∙ plain_reads (header_data n) (header-plain n small) in
    let fits : nat_lt n 9223372036854775808 ≡ true = grind (arith, small) in
    rw (t, json_of-text (header_text n) utf8, same) (header-judged n fits)

-- ---- the text

lines-of : (lines : List OwnCertLine) → All IsWithin lines → lines_of (flat_map (λ l. ended (line_text l)) lines) ≡ map line_text lines
lines-of [] all = refl
lines-of (line ∷ lines) all =
    let within = All-head IsWithin line lines all in
    ap lines_of (append_assoc (line_text line) (10 ∷ []) (flat_map (λ l. ended (line_text l)) lines))
    ∙ first-of (line_text line) (flat_map (λ l. ended (line_text l)) lines) (line-are_text line within.orders)
    ∙ ap (λ ls. line_text line ∷ ls) (lines-of lines (All-tail IsWithin line lines all))

-- a written line, where it stands
first-filled : (line : OwnCertLine) (all n before : ℕ) (ls : List (List ℕ)) → (f : Filled) × ((filled_from all n before (line_text line ∷ ls) ≡ f ∷ filled_from all (n + 1) (before + length (line_text line) + 1) ls) × (f.line ≡ line_text line))
first-filled (Kids p) all n before ls = (_, (refl, refl))
first-filled (Silent p d) all n before ls = (_, (refl, refl))
first-filled (Same p q) all n before ls = (_, (refl, refl))

lines-back : (lines : List OwnCertLine) (after all n before : ℕ) → All IsWithin lines → lines_read after (length lines) (filled_from all n before (map line_text lines)) ≡ Ok lines
lines-back [] after all n before within = refl
lines-back (line ∷ lines) after all n before within =
    let (f, (is, same)) = first-filled line all n before (map line_text lines) in
    let here : line_read f.line ≡ Ok line = ap line_read same ∙ line-back line (All-head IsWithin line lines within) in
    let rest = lines-back lines after all (n + 1) (before + length (line_text line) + 1) (All-tail IsWithin line lines within) in
    ap (λ fs. lines_read after (suc (length lines)) fs) is
    ∙ ap (λ x. with_line f.number x (lines_read after (length lines) (filled_from all (n + 1) (before + length (line_text line) + 1) (map line_text lines)))) here
    ∙ ap (λ x. with_line f.number (Ok line) x) rest

pub certificates-read-back : (lines : List OwnCertLine) → All IsWithin lines → length lines < 9223372036854775808 → cert_read (cert_text lines) ≡ Ok lines
certificates-read-back lines within few =
    let whole = cert_text lines in
    let header = header_text (length lines) in
    let rest = flat_map (λ l. ended (line_text l)) lines in
    let after = length (lines_of whole) + 1 in
    let parts : lines_of whole ≡ header ∷ map line_text lines =
    ap lines_of (append_assoc header (10 ∷ []) rest) ∙ first-of header rest (header-are_text (length lines) few) ∙ ap (λ ls. header ∷ ls) (lines-of lines within) in
    let all = length whole in
    ap (λ ls. lines_headed after (filled_from all 1 (all - length whole) ls)) parts
    ∙ ap (λ x. headed after 1 x (filled_from all 2 (all - length whole + length header + 1) (map line_text lines))) (header-back (length lines) few)
    ∙ lines-back lines after all 2 (all - length whole + length header + 1) within
