-- The text of a certificate: a header line, and the lines that it counts.
use Rattle.std.specs.Prelude.{ℕ, zero, suc, ◌+◌, ℤ, pos, negsuc, List, [], ◌∷◌, Option, Some, None, Result, Ok, Err, if◌then◌else◌, length, codes, option_and_then}
use Rattle.serde_json.specs.Data.{Data, Members}
use Rattle.serde_json.specs.Find.{as_object}
use Rattle.aud_json.specs.declared.fault.TextFault.{TextFault}
use Rattle.aud_json.specs.declared.fault.TextFault.TheVariants as fault
use Rattle.aud_text.specs.Json.{json_read}
use Rattle.aud_json.specs.Keys.{Key, has_all, has_only, whole_at}
use Rattle.aud_text.specs.Lines.{Filled, lines_of, filled_left, filled_lines}
use Rattle.aud_cert.specs.declared.fault.CertTextFault.{CertTextFault}
use Rattle.aud_cert.specs.LineText.{OwnCertLine, line_read}
use Rattle.aud_cert.specs.Limits.{longest_cert_line}

-- ---- the header line

-- the keys that must stand, and no other may
abbrev pub header_keys : List Key
header_keys = codes "cert" ∷ []

abbrev pub natural : ℤ → Option ℕ
natural (pos n) = Some n
natural (negsuc n) = None

-- a whole number from 0 to the greatest i64
abbrev pub natural_at : Key → Data → Option ℕ
natural_at k d = option_and_then natural (whole_at k d)

abbrev pub header_of : Option ℕ → Result ℕ TextFault
header_of None = Err fault.TypeOrRange
header_of (Some n) = Ok n

abbrev pub header_members : Data → Option Members → Result ℕ TextFault
header_members d None = Err fault.NotObject
header_members d (Some ms) =
    if has_all header_keys d
    then (if has_only header_keys ms then header_of (natural_at (codes "cert") d) else Err fault.KeyUnknown)
    else Err fault.KeyMissing

abbrev pub header_json : Result Data TextFault → Result ℕ TextFault
header_json (Err e) = Err e
header_json (Ok d) = header_members d (as_object d)

-- how many lines follow
abbrev pub header_read : List ℕ → Result ℕ TextFault
header_read line = header_json (json_read longest_cert_line line)

-- ---- the whole text

abbrev pub at_line : ℕ → TextFault → CertTextFault
at_line n e = record { line = n; fault = e }

-- a line before the later ones; of two faults that of the earlier line
abbrev pub with_line : ℕ → Result OwnCertLine TextFault → Result (List OwnCertLine) CertTextFault → Result (List OwnCertLine) CertTextFault
with_line n (Err e) later = Err (at_line n e)
with_line n (Ok line) (Err e) = Err e
with_line n (Ok line) (Ok lines) = Ok (line ∷ lines)

-- so many lines and no more; `after` is the number of the line after the text's last
abbrev pub lines_read : ℕ → ℕ → List Filled → Result (List OwnCertLine) CertTextFault
lines_read after zero [] = Ok []
lines_read after zero (l ∷ ls) = Err (at_line l.number fault.KeyUnknown)
lines_read after (suc k) [] = Err (at_line after fault.KeyMissing)
lines_read after (suc k) (l ∷ ls) = with_line l.number (line_read l.line) (lines_read after k ls)

-- the same of what is left of a text, from a line of this number on
abbrev pub lines_left : List ℕ → List ℕ → ℕ → ℕ → Result (List OwnCertLine) CertTextFault
lines_left text left number count = lines_read (length (lines_of text) + 1) count (filled_left (length text) number left)

abbrev pub headed : ℕ → ℕ → Result ℕ TextFault → List Filled → Result (List OwnCertLine) CertTextFault
headed after n (Err e) ls = Err (at_line n e)
headed after n (Ok count) ls = lines_read after count ls

abbrev pub lines_headed : ℕ → List Filled → Result (List OwnCertLine) CertTextFault
lines_headed after [] = Err (at_line after fault.KeyMissing)
lines_headed after (l ∷ ls) = headed after l.number (header_read l.line) ls

-- the lines that a text says, or its first fault
abbrev pub cert_read : List ℕ → Result (List OwnCertLine) CertTextFault
cert_read text = lines_headed (length (lines_of text) + 1) (filled_lines text)
