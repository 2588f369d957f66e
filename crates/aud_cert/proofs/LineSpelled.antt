-- A line that is spelled as it is written reads as the line.
use Rattle.std.proofs.Common.{◌≡◌, ◌≤◌, ℕ, List, Option, Some, None, Ok, map, length, flat_map, refl, ap, sym, subst, ◌∙◌, ◌<◌, ◌++◌, [], ◌∷◌}
use Rattle.std.specs.Prelude.{IfSome}
use Rattle.std.specs.List.{All}
use Rattle.std.proofs.lemmas.List.{length-map}
use Rattle.std.proofs.lemmas.List.Elements.{All-map}
use Rattle.cert_accept.specs.declared.cert.CertLine.{CertLine}
use Rattle.cert_accept.specs.declared.cert.CertLine.TheVariants.{Kids, Silent, Same}
use Rattle.cert_accept.specs.Acceptance.{elsewhere}
use Rattle.aud_cert.specs.LineText.{OwnCertLine, line_read}
use Rattle.aud_cert.specs.CertText.{cert_read}
use Rattle.aud_cert.specs.Written.{line_text, header_text, ended, cert_text, HasShort, IsWithin}
use Rattle.aud_cert.proofs.Back.{line-back, certificates-read-back}
use Rattle.aud_cert.specs.Limits.{longest_cert_line}

-- a line in memory of another kind has the same text, and is as short
abbrev own : {X : Type 0} → CertLine X → OwnCertLine
own l = elsewhere l

same-text : {X : Type 0} (l : CertLine X) → line_text l ≡ line_text (own l)
same-text (Kids p) = refl
same-text (Silent p d) = refl
same-text (Same p q) = refl

same-short : {X : Type 0} (l : CertLine X) → HasShort l → HasShort (own l)
same-short (Kids p) short = short
same-short (Silent p d) short = short
same-short (Same p q) short = short

pub line-spelled : {X : Type 0} (line : List ℕ) (o : Option (CertLine X)) → length line ≤ longest_cert_line → IfSome o (λ l. line ≡ line_text l) → IfSome o HasShort → IfSome o (λ l. line_read line ≡ Ok (elsewhere l))
line-spelled line None fits same short = tt
line-spelled line (Some l) fits same short =
    let is = same ∙ same-text l in
    ap line_read is ∙ line-back (own l) (record { orders = same-short l short; text = subst (λ s. length s ≤ longest_cert_line) is fits })

-- # Certificates in memory of another kind

own-within : {X : Type 0} (l : CertLine X) → IsWithin l → IsWithin (own l)
own-within l within = record { orders = same-short l within.orders; text = subst (λ s. length s ≤ longest_cert_line) (same-text l) within.text }

own-lines : {X : Type 0} (ls : List (CertLine X)) → flat_map (λ l. ended (line_text l)) (map own ls) ≡ flat_map (λ l. ended (line_text l)) ls
own-lines [] = refl
own-lines (l ∷ ls) = λ i. ended (sym (same-text l) i) ++ own-lines ls i

own-cert : {X : Type 0} (ls : List (CertLine X)) → cert_text (map own ls) ≡ cert_text ls
own-cert ls = let count : length (map own ls) ≡ length ls = length-map ls own in λ i. ended (header_text (count i)) ++ own-lines ls i

pub cert-back : {X : Type 0} (ls : List (CertLine X)) → All IsWithin ls → length ls < 9223372036854775808 → cert_read (cert_text ls) ≡ Ok (map elsewhere ls)
cert-back ls within few =
    let count : length (map own ls) ≡ length ls = length-map ls own in
    let all = All-map IsWithin own ls (λ k d lt. own-within _ (within k d lt)) in
    subst (λ t. cert_read t ≡ Ok (map own ls)) (own-cert ls) (certificates-read-back (map own ls) all (subst (λ n. n < 9223372036854775808) (sym count) few))
