-- A written line is ASCII, and no byte of it ends the line.
use Rattle.std.proofs.Common.{◌≡◌, ◌<◌, ◌==◌, ℕ, List, [], ◌∷◌, ◌++◌, Bool, true, false, ◌&&◌, nat_le, nat_lt, codes, decimal, refl, arith}
use Rattle.std.specs.List.{All, list_all}
use Rattle.std.specs.Str.{IsUtf8}
use Rattle.std.proofs.lemmas.Str.{IsUtf8-from_ascii}
use Rattle.std.proofs.lemmas.Str.Ascii.{IsAscii-from_all}
use Rattle.std.proofs.lemmas.List.Elements.{All-head, All-tail, All-cons, All-nil}
use Rattle.aud_witness.specs.declared.decision.Decision.{Decision}
use Rattle.aud_text.specs.Lines.{lines_of}
use Rattle.aud_text.specs.Orders.{order_text, decision_text}
use Rattle.cert_accept.specs.declared.cert.CertLine.TheVariants.{Kids, Silent, Same}
use Rattle.aud_cert.specs.LineText.{OwnCertLine}
use Rattle.aud_cert.specs.Written.{prefix_text, line_text, header_text, IsShort, HasShort}
use Rattle.aud_cert.proofs.Bytes.{IsPlainByte, ArePlain, decimal-plain, order-plain}
use Rattle.base_values.proofs.Bools.{and_true}

abbrev is_text : ℕ → Bool
is_text b = nat_le 32 b && nat_lt b 128

abbrev pub are_text : List ℕ → Bool
are_text = list_all is_text

are-both : (s t : List ℕ) → are_text s ≡ true → are_text t ≡ true → are_text (s ++ t) ≡ true
are-both [] t h g = g
are-both (b ∷ bs) t h g = let parts = and_true (is_text b) (are_text bs) h in rw (parts.0, are-both bs t parts.1 g) refl

plain-is_text : (b : ℕ) → IsPlainByte b → is_text b ≡ true
plain-is_text b p =
    let low : nat_le 32 b ≡ true = grind (arith, p.low) in
    let high : nat_lt b 128 ≡ true = grind (arith, p.high) in rw (low, high) refl

plain-are_text : (s : List ℕ) → ArePlain s → are_text s ≡ true
plain-are_text [] all = refl
plain-are_text (b ∷ bs) all = rw (plain-is_text b (All-head IsPlainByte b bs all), plain-are_text bs (All-tail IsPlainByte b bs all)) refl

order-are_text : (p : List Decision) → IsShort p → are_text (order_text p) ≡ true
order-are_text p short = plain-are_text (order_text p) (order-plain p short.ids)

-- an order text between two parts
between : (before after : List ℕ) (p : List Decision) → IsShort p → are_text before ≡ true → are_text after ≡ true → are_text (before ++ (order_text p ++ after)) ≡ true
between before after p short first last = are-both before (order_text p ++ after) first (are-both (order_text p) after (order-are_text p short) last)

decided-are_text : (before : List ℕ) (p : List Decision) (d : Decision) → are_text before ≡ true → IsShort p × IsShort (d ∷ []) → are_text (before ++ (decision_text d ++ prefix_text p)) ≡ true
decided-are_text before p d first short =
    between before (prefix_text p) (d ∷ []) short.1 first (between (codes "\",\"p\":\"") (codes "\"}") p short.0 refl refl)

pub line-are_text : (line : OwnCertLine) → HasShort line → are_text (line_text line) ≡ true
line-are_text (Kids p) short = between (codes "{\"by\":\"kids\",\"p\":\"") (codes "\"}") p short refl refl
line-are_text (Silent p d) short = decided-are_text (codes "{\"by\":\"silent\",\"d\":\"") p d refl short
line-are_text (Same p q) short =
    between (codes "{\"as\":\"") (codes "\",\"by\":\"same\",\"p\":\"" ++ (order_text p ++ codes "\"}")) q short.1 refl
    (between (codes "\",\"by\":\"same\",\"p\":\"") (codes "\"}") p short.0 refl refl)

pub header-are_text : (n : ℕ) → n < 9223372036854775808 → are_text (header_text n) ≡ true
header-are_text n h = are-both (codes "{\"cert\":") (decimal n ++ codes "}") refl (are-both (decimal n) (codes "}") (plain-are_text (decimal n) (decimal-plain n h)) refl)

ascii : (s : List ℕ) → are_text s ≡ true → All (λ b. b < 128) s
ascii [] h = All-nil (λ b. b < 128)
ascii (b ∷ bs) h =
    let parts = and_true (is_text b) (are_text bs) h in
    let high = (and_true (nat_le 32 b) (nat_lt b 128) parts.0).1 in
    All-cons (λ b. b < 128) b bs (grind (arith, high)) (ascii bs parts.1)

pub text-utf8 : (s : List ℕ) → are_text s ≡ true → IsUtf8 s
text-utf8 s h = IsUtf8-from_ascii s (IsAscii-from_all s (ascii s h))

-- the first line of a text
pub first-of : (line rest : List ℕ) → are_text line ≡ true → lines_of (line ++ 10 ∷ rest) ≡ line ∷ lines_of rest
first-of [] rest h = refl
first-of (b ∷ bs) rest h =
    let parts = and_true (is_text b) (are_text bs) h in
    let low = (and_true (nat_le 32 b) (nat_lt b 128) parts.0).0 in
    let other : (b == 10) ≡ false = grind (arith, low) in
    rw (other, first-of bs rest parts.1) refl
