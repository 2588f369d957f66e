-- The text that is written of a certificate.
use Rattle.std.specs.Prelude.{ℕ, ◌≡◌, ◌<◌, ◌≤◌, ◌^◌, Ok, List, [], ◌∷◌, ◌++◌, All, flat_map, map, length, codes, decimal}
use Rattle.aud_witness.specs.declared.decision.Decision.{Decision}
use Rattle.aud_event.specs.Limits.{most_transactions}
use Rattle.aud_text.specs.Orders.{order_text, decision_text}
use Rattle.aud_cert.specs.CertText.{cert_read}
use Rattle.cert_accept.specs.declared.cert.CertLine.{CertLine}
use Rattle.cert_accept.specs.declared.cert.CertLine.TheVariants.{Kids, Silent, Same}
use Rattle.cert_accept.specs.Acceptance.{elsewhere}
use Rattle.aud_cert.specs.Limits.{longest_cert_line}
use Rattle.aud_text.specs.Limits.{longest_order}

-- the prefix, after the word before it
abbrev pub prefix_text : List Decision → List ℕ
prefix_text p = codes "\",\"p\":\"" ++ (order_text p ++ codes "\"}")

-- lines without their line feeds, their keys in the order of their bytes: of a word alone, of a word with a decision, and of another prefix
abbrev pub alone_text : List ℕ → List Decision → List ℕ
alone_text word p = codes "{\"by\":\"" ++ (word ++ prefix_text p)

abbrev pub decided_text : List ℕ → List Decision → Decision → List ℕ
decided_text word p d = codes "{\"by\":\"" ++ (word ++ (codes "\",\"d\":\"" ++ (decision_text d ++ prefix_text p)))

abbrev pub same_text : List Decision → List Decision → List ℕ
same_text p q = codes "{\"as\":\"" ++ (order_text q ++ (codes "\",\"by\":\"same" ++ prefix_text p))

abbrev pub line_text : {X : Type 0} → CertLine X → List ℕ
line_text (Kids p) = alone_text (codes "kids") p
line_text (Silent p d) = decided_text (codes "silent") p d
line_text (Same p q) = same_text p q

abbrev pub header_text : ℕ → List ℕ
header_text count = codes "{\"cert\":" ++ (decimal count ++ codes "}")

-- a line feed after each line
abbrev pub ended : List ℕ → List ℕ
ended line = line ++ 10 ∷ []

abbrev pub cert_text : {X : Type 0} → List (CertLine X) → List ℕ
cert_text lines = ended (header_text (length lines)) ++ flat_map (λ l. ended (line_text l)) lines

-- ---- the limits

-- the id is in range
abbrev pub Low : Decision → Type 0
Low d = d.tx < most_transactions

-- each id is in range, and the order text is not too long
pub record IsShort (p : List Decision) : Type 0 where
  pub ids : All Low p
  pub text : length (order_text p) ≤ longest_order

abbrev pub HasShort : {X : Type 0} → CertLine X → Type 0
HasShort (Kids p) = IsShort p
HasShort (Silent p d) = IsShort p × IsShort (d ∷ [])
HasShort (Same p q) = IsShort p × IsShort q

-- the line is within the limits
pub record IsWithin {X : Type 0} (line : CertLine X) : Type 0 where
  pub orders : HasShort line
  pub text : length (line_text line) ≤ longest_cert_line

-- a text reads as the lines, where each of them is within the limits
abbrev pub ReadsBack : {X : Type 0} → List (CertLine X) → List ℕ → Type 0
ReadsBack lines text = All IsWithin lines → length lines < 2 ^ 63 → cert_read text ≡ Ok (map elsewhere lines)
