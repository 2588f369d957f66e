-- The bytes of order texts need no escape, and none of them ends a line.
use Rattle.std.proofs.Common.{◌≡◌, ◌<◌, ◌≤◌, ℕ, List, [], ◌∷◌, codes, flat_map, decimal, refl, subst, arith}
use Rattle.std.specs.List.{All}
use Rattle.std.specs.Str.Parse.{AllDigits}
use Rattle.std.proofs.lemmas.List.Elements.{All-head, All-tail, All-cons, All-nil, All-push, All-append}
use Rattle.std.proofs.lemmas.Str.Parse.{digit_from_value}
use Rattle.std.proofs.lemmas.Fmt.{decimal_is_IsNumeral}
use Rattle.json.specs.Print.{escape}
use Rattle.json.proofs.Printed.Strings.{escape_byte_plain}
use Rattle.aud_witness.specs.declared.decision.Fate.{Fate}
use Rattle.aud_witness.specs.declared.decision.Fate.TheVariants.{C, A}
use Rattle.aud_witness.specs.declared.decision.Decision.{Decision}
use Rattle.aud_text.specs.Orders.{order_text, decision_text, fate_letter}
use Rattle.aud_text.proofs.OrderText.{join-more}
use Rattle.aud_cert.specs.Written.{Low}

-- no quotation mark, no backslash, no control and ASCII
pub record IsPlainByte (b : ℕ) : Type 0 where
  pub quote : b ≡ 34 → ⊥
  pub slash : b ≡ 92 → ⊥
  pub low : 32 ≤ b
  pub high : b < 128

abbrev pub ArePlain : List ℕ → Type 0
ArePlain = All IsPlainByte

pub plain-escape : (s : List ℕ) → ArePlain s → escape s ≡ s
plain-escape [] all = refl
plain-escape (b ∷ bs) all =
    let byte = All-head IsPlainByte b bs all in
    rw (escape_byte_plain b byte.quote byte.slash byte.low, plain-escape bs (All-tail IsPlainByte b bs all)) refl

plain-byte : (b : ℕ) → 32 ≤ b → b < 128 → (b ≡ 34 → ⊥) → (b ≡ 92 → ⊥) → IsPlainByte b
plain-byte b low high quote slash = record { quote = quote; slash = slash; low = low; high = high }

digits-plain : (ds : List ℕ) → AllDigits 10 ds → ArePlain ds
digits-plain [] h = All-nil IsPlainByte
digits-plain (c ∷ cs) h =
    let r = digit_from_value c h.0 in
    All-cons IsPlainByte c cs (plain-byte c (grind (arith, r.0)) (grind (arith, r.0)) (λ e. grind (arith, r.0, e)) (λ e. grind (arith, r.0, e))) (digits-plain cs h.1)

pub decimal-plain : (n : ℕ) → n < 9223372036854775808 → ArePlain (decimal n)
decimal-plain n h = digits-plain (decimal n) (decimal_is_IsNumeral n (omega arith)).0.1

letter-plain : (f : Fate) → IsPlainByte (fate_letter f)
letter-plain C = plain-byte 99 (omega arith) (omega arith) (λ e. omega (arith, e)) (λ e. omega (arith, e))
letter-plain A = plain-byte 97 (omega arith) (omega arith) (λ e. omega (arith, e)) (λ e. omega (arith, e))

pub decision-plain : (d : Decision) → Low d → ArePlain (decision_text d)
decision-plain d h = All-push IsPlainByte (decimal d.tx) (fate_letter d.fate) (decimal-plain d.tx (omega arith)) (letter-plain d.fate)

space-plain : IsPlainByte 32
space-plain = plain-byte 32 (omega arith) (omega arith) (λ e. omega (arith, e)) (λ e. omega (arith, e))

more-plain : (ds : List Decision) → All Low ds → ArePlain (flat_map (λ e. 32 ∷ decision_text e) ds)
more-plain [] h = All-nil IsPlainByte
more-plain (d ∷ ds) h =
    All-append IsPlainByte (32 ∷ decision_text d) (flat_map (λ e. 32 ∷ decision_text e) ds)
    (All-cons IsPlainByte 32 (decision_text d) space-plain (decision-plain d (All-head Low d ds h))) (more-plain ds (All-tail Low d ds h))

none-plain : ArePlain (codes "none")
none-plain =
    All-cons IsPlainByte 110 (111 ∷ 110 ∷ 101 ∷ []) (plain-byte 110 (omega arith) (omega arith) (λ e. omega (arith, e)) (λ e. omega (arith, e)))
    (All-cons IsPlainByte 111 (110 ∷ 101 ∷ []) (plain-byte 111 (omega arith) (omega arith) (λ e. omega (arith, e)) (λ e. omega (arith, e)))
    (All-cons IsPlainByte 110 (101 ∷ []) (plain-byte 110 (omega arith) (omega arith) (λ e. omega (arith, e)) (λ e. omega (arith, e)))
    (All-cons IsPlainByte 101 [] (plain-byte 101 (omega arith) (omega arith) (λ e. omega (arith, e)) (λ e. omega (arith, e))) (All-nil IsPlainByte))))

pub order-plain : (p : List Decision) → All Low p → ArePlain (order_text p)
order-plain [] h = none-plain
order-plain (d ∷ ds) h =
    subst ArePlain (join-more d ds)
    (All-append IsPlainByte (decision_text d) (flat_map (λ e. 32 ∷ decision_text e) ds) (decision-plain d (All-head Low d ds h)) (more-plain ds (All-tail Low d ds h)))
