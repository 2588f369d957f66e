-- What reads in turn give of known bytes.
use Rattle.std.specs.Prelude.{◌≡◌, ◌<◌, ◌++◌, ℕ, List, [], Option, Some, None, Result, Ok, Err, IfSome, length, take}
use Rattle.std.proofs.Common.{sym, ap, subst, ◌∙◌, append_assoc, append-nil}
use Rattle.std.specs.Io.KnownBytes.{Consumes, IsAtEnd, ReadConsumes}

consumes_more : (a b c : Option (List ℕ)) (bs cs : List ℕ) → Consumes a b bs → Consumes b c cs → Consumes a c (bs ++ cs)
consumes_more None b c bs cs first second = tt
consumes_more (Some x) None c bs cs first second = absurd first
consumes_more (Some x) (Some y) None bs cs first second = absurd second
consumes_more (Some x) (Some y) (Some z) bs cs first second = first ∙ ap (λ l. bs ++ l) second ∙ sym (append_assoc bs cs z)

consumes_all : (a b : Option (List ℕ)) (bs : List ℕ) → Consumes a b bs → IsAtEnd b → IfSome a (λ xs. bs ≡ xs)
consumes_all None b bs consumed ends = tt
consumes_all (Some x) None bs consumed ends = absurd consumed
consumes_all (Some x) (Some y) bs consumed ends = sym (consumed ∙ ap (λ l. bs ++ l) ends ∙ append-nil bs)

-- nothing was read yet
pub unread : (a : Option (List ℕ)) (bs : List ℕ) → bs ≡ [] → Consumes a a bs
unread None bs is = tt
unread (Some x) bs is = ap (λ l. l ++ x) (sym is)

-- a read gave so many bytes more
pub read_more : {E : Type 0} (a b c : Option (List ℕ)) (r : Result ℕ E) (n : ℕ) (bs buf new : List ℕ) → Consumes a b bs → ReadConsumes b c r buf → r ≡ Ok n → new ≡ bs ++ take n buf → Consumes a c new
read_more a b c (Ok m) n bs buf new before read is grown = subst (Consumes a c) (sym grown) (consumes_more a b c bs (take n buf) before (subst (λ (k : ℕ). Consumes b c (take k buf)) (cc) read.0))
read_more a b c (Err e) n bs buf new before read is grown = absurd (cc)

-- a read that failed gave nothing
pub read_none : {E : Type 0} (a b c : Option (List ℕ)) (r : Result ℕ E) (e : E) (bs buf new : List ℕ) → Consumes a b bs → ReadConsumes b c r buf → r ≡ Err e → new ≡ bs → Consumes a c new
read_none a b c (Ok m) e bs buf new before read is same = absurd (cc)
read_none None b c (Err d) e bs buf new before read is same = tt
read_none (Some x) None c (Err d) e bs buf new before read is same = absurd before
read_none (Some x) (Some y) None (Err d) e bs buf new before read is same = absurd read
read_none (Some x) (Some y) (Some z) (Err d) e bs buf new before read is same = before ∙ ap (λ l. bs ++ l) (sym read) ∙ ap (λ l. l ++ z) (sym same)

-- a read into a buffer with room gave nothing: all is read
pub read_all : {E : Type 0} (a b c : Option (List ℕ)) (r : Result ℕ E) (bs buf : List ℕ) → Consumes a b bs → ReadConsumes b c r buf → r ≡ Ok 0 → 0 < length buf → IfSome a (λ xs. bs ≡ xs)
read_all a b c (Ok m) bs buf before read is some =
    let none : m ≡ 0 = cc in
    consumes_all a c bs (read_more a b c (Ok m) 0 bs buf bs before read is (sym (append-nil bs))) (read.1 none some)
read_all a b c (Err e) bs buf before read is some = absurd (cc)
