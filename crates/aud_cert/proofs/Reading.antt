-- The lines of a certificate's text, as far as they were read.
use Rattle.std.proofs.Common.{◌≡◌, ℕ, suc, List, [], ◌∷◌, ◌++◌, Result, Ok, Err, append_assoc, append-nil, map, refl, ap, ◌∙◌, sym}
use Rattle.std.proofs.lemmas.List.{map-append}
use Rattle.std.specs.declared.alloc.Global.{Global}
use Rattle.std.specs.Prelude.{MatchResult}
use Rattle.cert_accept.specs.declared.cert.Cert.{Cert}
use Rattle.cert_accept.specs.declared.cert.CertLine.{CertLine}
use Rattle.cert_accept.specs.declared.cert.CertLine.TheVariants.{Kids, Silent, Same}
use Rattle.cert_accept.specs.Acceptance.{elsewhere}
use Rattle.aud_json.specs.declared.fault.TextFault.{TextFault}
use Rattle.aud_json.specs.declared.fault.TextFault.TheVariants as fault
use Rattle.aud_text.specs.Lines.{Filled}
use Rattle.aud_cert.specs.declared.fault.CertTextFault.{CertTextFault}
use Rattle.aud_cert.specs.LineText.{OwnCertLine, line_read}
use Rattle.aud_cert.specs.CertText.{at_line, with_line, lines_read}

-- the lines so far before the later ones
abbrev pub onto : List OwnCertLine → Result (List OwnCertLine) CertTextFault → Result (List OwnCertLine) CertTextFault
onto ls (Err e) = Err e
onto ls (Ok more) = Ok (ls ++ more)

onto-with : (ls : List OwnCertLine) (n : ℕ) (o : OwnCertLine) (r : Result (List OwnCertLine) CertTextFault) → onto ls (with_line n (Ok o) r) ≡ onto (ls ++ o ∷ []) r
onto-with ls n o (Err e) = refl
onto-with ls n o (Ok more) = ap Ok (sym (append_assoc ls (o ∷ []) more))

-- one line more
pub one-more : (after k j : ℕ) (ls : List OwnCertLine) (o : OwnCertLine) (fs more : List Filled) (l : Filled) → k ≡ suc j → fs ≡ l ∷ more → line_read l.line ≡ Ok o
    → onto ls (lines_read after k fs) ≡ onto (ls ++ o ∷ []) (lines_read after j more)
one-more after k j ls o fs more l e s read = rw (e, s) (ap (λ x. onto ls (with_line l.number x (lines_read after j more))) read ∙ onto-with ls l.number o (lines_read after j more))

-- a line that is refused
pub refused : (after k j : ℕ) (ls : List OwnCertLine) (e : TextFault) (fs more : List Filled) (l : Filled) → k ≡ suc j → fs ≡ l ∷ more → line_read l.line ≡ Err e
    → onto ls (lines_read after k fs) ≡ Err (at_line l.number e)
refused after k j ls e fs more l is s read = rw (is, s) (ap (λ x. onto ls (with_line l.number x (lines_read after j more))) read)

-- a text that ends too early
pub missing : (after k j : ℕ) (ls : List OwnCertLine) (fs : List Filled) → k ≡ suc j → fs ≡ [] → onto ls (lines_read after k fs) ≡ Err (at_line after fault.KeyMissing)
missing after k j ls fs e s = rw (e, s) refl

-- a text that ends where it is to end, and one that does not
pub ended : (after k : ℕ) (ls : List OwnCertLine) (fs : List Filled) → k ≡ 0 → fs ≡ [] → onto ls (lines_read after k fs) ≡ Ok ls
ended after k ls fs e s = rw (e, s) (ap Ok (append-nil ls))

pub one-too_many : (after k : ℕ) (ls : List OwnCertLine) (fs more : List Filled) (l : Filled) → k ≡ 0 → fs ≡ l ∷ more → onto ls (lines_read after k fs) ≡ Err (at_line l.number fault.KeyUnknown)
one-too_many after k ls fs more l e s = rw (e, s) refl

-- # Lines in memory of another kind

-- one line more, as it reads
pub one-pushed : {X : Type 0} (ls new : List (CertLine X)) (l : CertLine X) → new ≡ ls ++ l ∷ [] → map (elsewhere {Y = Global}) new ≡ map elsewhere ls ++ elsewhere l ∷ []
one-pushed ls new l is = ap (map elsewhere) is ∙ map-append elsewhere ls (l ∷ [])

-- a line that stays where it is
same-line : (l : OwnCertLine) → elsewhere {Y = Global} l ≡ l
same-line (Kids p) = refl
same-line (Silent p d) = refl
same-line (Same p q) = refl

pub same-lines : (ls : List OwnCertLine) → map (elsewhere {Y = Global}) ls ≡ ls
same-lines [] = refl
same-lines (l ∷ ls) = λ i. same-line l i ∷ same-lines ls i

-- a certificate that is read into memory of the program's own allocator
pub stays-own : (P : CertTextFault → Type 0) (r : Result (Cert Global) CertTextFault) (read : Result (List OwnCertLine) CertTextFault) →
    MatchResult r (λ cert. read ≡ Ok (map elsewhere cert.lines.items)) P → MatchResult r (λ cert. read ≡ Ok cert.lines.items) P
stays-own P (Ok cert) read is = is ∙ ap Ok (same-lines cert.lines.items)
stays-own P (Err e) read other = other
