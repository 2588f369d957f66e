-- At which lines a certificate's text may be refused.
use Rattle.std.proofs.Common.{◌≡◌, ℕ, zero, suc, ◌+◌, ◌≤◌, ◌==◌, Bool, true, false, cond, List, [], ◌∷◌, length, Result, Ok, Err, ap, arith}
use Rattle.std.specs.List.{All}
use Rattle.std.proofs.lemmas.List.Elements.{All-head, All-tail, All-cons, All-nil}
use Rattle.aud_json.specs.declared.fault.TextFault.{TextFault}
use Rattle.aud_text.specs.Lines.{Filled, lines_of, put_first, filled_from, filled_lines}
use Rattle.aud_cert.specs.declared.fault.CertTextFault.{CertTextFault}
use Rattle.aud_cert.specs.LineText.{OwnCertLine, line_read}
use Rattle.aud_cert.specs.CertText.{at_line, with_line, lines_read, headed, lines_headed, header_read, cert_read}

abbrev IsUpTo : ℕ → Filled → Type 0
IsUpTo m f = f.number ≤ m

numbers : (all n before m : ℕ) (ls : List (List ℕ)) → n + length ls ≤ m + 1 → All (IsUpTo m) (filled_from all n before ls)
numbers all n before m [] room = All-nil (IsUpTo m)
numbers all n before m ([] ∷ ls) room = numbers all (n + 1) (before + 1) m ls (omega arith)
numbers all n before m ((b ∷ bs) ∷ ls) room = All-cons (IsUpTo m) _ _ (omega arith) (numbers all (n + 1) (before + length (b ∷ bs) + 1) m ls (omega arith))

abbrev pub refusal : CertTextFault → Result (List OwnCertLine) CertTextFault
refusal f = Err f

at-line : (m n : ℕ) (x : TextFault) (e : CertTextFault) → n ≤ m → refusal (at_line n x) ≡ refusal e → e.line ≤ m
at-line m n x e low is = let same : at_line n x ≡ e = cc in let number : n ≡ e.line = ap (λ (f : CertTextFault). f.line) same in omega arith

by-line : (m : ℕ) (f : Filled) (e : CertTextFault) → f.number ≤ m → (r : Result OwnCertLine TextFault) (more : Result (List OwnCertLine) CertTextFault) → (more ≡ refusal e → e.line ≤ m) →
    with_line f.number r more ≡ refusal e → e.line ≤ m
by-line m f e here (Err x) more later is = at-line m f.number x e here is
by-line m f e here (Ok line) (Err x) later is = later is
by-line m f e here (Ok line) (Ok lines) later is = absurd (cc)

lines-fault : (after m k : ℕ) (fs : List Filled) (e : CertTextFault) → All (IsUpTo m) fs → after ≤ m → lines_read after k fs ≡ refusal e → e.line ≤ m
lines-fault after m zero [] e all low is = absurd (cc)
lines-fault after m zero (f ∷ fs) e all low is = at-line m f.number _ e (All-head (IsUpTo m) f fs all) is
lines-fault after m (suc k) [] e all low is = at-line m after _ e low is
lines-fault after m (suc k) (f ∷ fs) e all low is =
    by-line m f e (All-head (IsUpTo m) f fs all) (line_read f.line) (lines_read after k fs) (λ later. lines-fault after m k fs e (All-tail (IsUpTo m) f fs all) low later) is

headed-fault : (after m n : ℕ) (r : Result ℕ TextFault) (fs : List Filled) (e : CertTextFault) → n ≤ m → All (IsUpTo m) fs → after ≤ m → headed after n r fs ≡ refusal e → e.line ≤ m
headed-fault after m n (Err x) fs e low all last is = at-line m n x e low is
headed-fault after m n (Ok count) fs e low all last is = lines-fault after m count fs e all last is

whole-fault : (after m : ℕ) (fs : List Filled) (e : CertTextFault) → All (IsUpTo m) fs → after ≤ m → lines_headed after fs ≡ refusal e → e.line ≤ m
whole-fault after m [] e all low is = at-line m after _ e low is
whole-fault after m (f ∷ fs) e all low is = headed-fault after m f.number (header_read f.line) fs e (All-head (IsUpTo m) f fs all) (All-tail (IsUpTo m) f fs all) low is

put-long : (x : ℕ) (ls : List (List ℕ)) → length (put_first x ls) ≤ length ls + 1
put-long x [] = omega arith
put-long x (l ∷ ls) = omega arith

few-step : (b : Bool) (x n : ℕ) (ls : List (List ℕ)) → length ls ≤ n → length (cond b ([] ∷ ls) (put_first x ls)) ≤ n + 1
few-step true x n ls few = omega arith
few-step false x n ls few = omega (arith, put-long x ls)

few-lines : (text : List ℕ) → length (lines_of text) ≤ length text
few-lines [] = omega arith
few-lines (x ∷ xs) = omega (arith, few-step (x == 10) x (length xs) (lines_of xs) (few-lines xs))

pub fault-line : (text : List ℕ) (e : CertTextFault) → cert_read text ≡ refusal e → e.line ≤ length text + 1
fault-line text e is =
    let few = few-lines text in
    let m = length (lines_of text) + 1 in
    let low : e.line ≤ m = whole-fault m m (filled_lines text) e (numbers (length text) 1 _ m (lines_of text) (omega arith)) (omega arith) is in omega arith
