-- Marks at a place, and what a write to a bit changes.
use Rattle.std.specs.Prelude.{◌≡◌, ◌≢◌, ℕ, zero, suc, ◌+◌, ◌-◌, ◌*◌, ◌/◌, ◌%◌, ◌^◌, ◌<◌, ◌≤◌, Bool, true, false, nat_eq, nat_lt, List, [], ◌∷◌, Some, None, length, replicate, refl}
use Rattle.std.specs.Int.{bit_at, w64, trailing_zeros}
use Rattle.std.proofs.Common.{sym, ◌∙◌, ap, subst, inl, inr, arith, get_or, set, length-set}
use Rattle.std.proofs.Math.Nat.{div-div-eq-div-mul, div-le_self}
use Rattle.std.proofs.lemmas.Nat.{pow-add}
use Rattle.std.proofs.lemmas.Nat.Bits.{bit_at-zero, bit_at_above, bit_at-trailing_zeros}
use Rattle.std.proofs.lemmas.List.{get_or-set_same, get_or-set_other, get_or-replicate, length-replicate}
use Rattle.std.proofs.lemmas.Grind.{get_or_default_zero}
use Rattle.std.proofs.lemmas.Bool.Decides.{nat_tests}
use Rattle.base_values.proofs.Bools.{split, nat_eq-refl, nat_eq-is}
use Rattle.base_bits.specs.Marked.{is_marked, marks_from, marks_of, IsBitWritten, IsNextOfWord, IsNextMark}

pub length-marks_from : (words : List ℕ) (place count : ℕ) → length (marks_from words place count) ≡ count
length-marks_from words place zero = refl
length-marks_from words place (suc count) = ap (λ n. suc n) (length-marks_from words (suc place) count)

pub marks_from-at : (words : List ℕ) (place count k : ℕ) → k < count → get_or (marks_from words place count) k false ≡ is_marked words (place + k)
marks_from-at words place zero k inside = absurd (omega arith)
marks_from-at words place (suc count) zero inside = let same : place ≡ place + 0 = omega arith in ap (is_marked words) same
marks_from-at words place (suc count) (suc k) inside =
    let up : suc place + k ≡ place + suc k = omega arith in
    marks_from-at words (suc place) count k (omega arith) ∙ ap (is_marked words) up

-- the mark at a place
pub marks_of-at : (words : List ℕ) (count k : ℕ) → k < count → get_or (marks_of words count) k false ≡ is_marked words k
marks_of-at words count k inside = let same : 0 + k ≡ k = omega arith in marks_from-at words 0 count k inside ∙ ap (is_marked words) same

pub marks_of-past : (words : List ℕ) (count k : ℕ) → count ≤ k → get_or (marks_of words count) k false ≡ false
marks_of-past words count k past = past-all (marks_of words count) k (let long = length-marks_from words 0 count in omega (arith, long))
  where
    past-all : (l : List Bool) (k : ℕ) → length l ≤ k → get_or l k false ≡ false
    past-all [] k past = refl
    past-all (b ∷ l) zero past = absurd (omega arith)
    past-all (b ∷ l) (suc k) past = past-all l k (omega arith)

-- marks that agree at each place are the same
pub same-marks : (a b : List Bool) → length a ≡ length b → ((k : ℕ) → k < length a → get_or a k false ≡ get_or b k false) → a ≡ b
same-marks [] [] long each = refl
same-marks [] (y ∷ b) long each = absurd (omega (arith, long))
same-marks (x ∷ a) [] long each = absurd (omega (arith, long))
same-marks (x ∷ a) (y ∷ b) long each =
    let rest : a ≡ b = same-marks a b (omega (arith, long)) (λ k inside. each (suc k) (omega arith)) in
    let first : x ≡ y = each 0 (omega arith) in
    λ i. first i ∷ rest i

-- the mark of one place is written, and no other changes
abbrev pub IsWritten : List ℕ → List ℕ → ℕ → Bool → Type 0
IsWritten old new place mark = (is_marked new place ≡ mark) × ((k : ℕ) → k ≢ place → is_marked new k ≡ is_marked old k)

-- a written mark
pub marks-written : (old new : List ℕ) (count place : ℕ) (mark : Bool) → place < count → IsWritten old new place mark → marks_of new count ≡ set (marks_of old count) place mark
marks-written old new count place mark inside written =
    same-marks (marks_of new count) (set (marks_of old count) place mark)
    (length-marks_from new 0 count ∙ sym (length-set (marks_of old count) place mark ∙ length-marks_from old 0 count))
    (λ k below. at k (subst (λ n. k < n) (length-marks_from new 0 count) below))
  where
    long : length (marks_of old count) ≡ count
    long = length-marks_from old 0 count

    here : (k : ℕ) → k ≡ place → get_or (marks_of new count) k false ≡ get_or (set (marks_of old count) place mark) k false
    here k is =
        let low : place < length (marks_of old count) = omega (arith, long) in
        let own : get_or (marks_of new count) place false ≡ mark = marks_of-at new count place inside ∙ written.0 in
        let put : get_or (set (marks_of old count) place mark) place false ≡ mark = get_or-set_same (marks_of old count) place mark false low in
        subst (λ n. get_or (marks_of new count) n false ≡ get_or (set (marks_of old count) place mark) n false) (sym is) (own ∙ sym put)

    other : (k : ℕ) → k < count → k ≢ place → get_or (marks_of new count) k false ≡ get_or (set (marks_of old count) place mark) k false
    other k below ne =
        marks_of-at new count k below ∙ written.1 k ne ∙ sym (marks_of-at old count k below) ∙ sym (get_or-set_other (marks_of old count) place k mark false ne)

    at : (k : ℕ) → k < count → get_or (marks_of new count) k false ≡ get_or (set (marks_of old count) place mark) k false
    at k below = elim (split (nat_eq k place)) [
      | inl same ↦ here k (nat_eq-is k place same)
      | inr differ ↦ other k below (λ is. let same : nat_eq k place ≡ true = ap (λ n. nat_eq k n) (sym is) ∙ nat_eq-refl k in cc)
    ]

same_place : (a b : ℕ) → a / 64 ≡ b / 64 → a % 64 ≡ b % 64 → a ≡ b
same_place a b high low = omega arith

-- a word in which one bit is written
pub word-written : (words : List ℕ) (place v : ℕ) (mark : Bool) → place / 64 < length words → IsBitWritten (get_or words (place / 64) 0) v (place % 64) mark → IsWritten words (set words (place / 64) v) place mark
word-written words place v mark inside (own, others) = (
  ap (λ w. nat_eq (bit_at w (place % 64)) 1) (get_or-set_same words (place / 64) v 0 inside) ∙ own,
  (λ k ne. elim (split (nat_eq (k / 64) (place / 64))) [
    | inl same ↦
        let high : k / 64 ≡ place / 64 = nat_eq-is (k / 64) (place / 64) same in
        let low : k % 64 ≢ place % 64 = λ is. ne (same_place k place high is) in
        let there : k / 64 < length words = omega arith in
        let bits : bit_at v (k % 64) ≡ bit_at (get_or words (place / 64) 0) (k % 64) = others (k % 64) (omega arith) low in
        let now : get_or (set words (place / 64) v) (k / 64) 0 ≡ v = ap (λ n. get_or (set words (place / 64) v) n 0) high ∙ get_or-set_same words (place / 64) v 0 inside in
        let was : get_or words (place / 64) 0 ≡ get_or words (k / 64) 0 = ap (λ n. get_or words n 0) (sym high) in
        ap (λ w. nat_eq (bit_at w (k % 64)) 1) now ∙ ap (λ n. nat_eq n 1) bits ∙ ap (λ w. nat_eq (bit_at w (k % 64)) 1) was
    | inr differ ↦
        let apart : k / 64 ≢ place / 64 = λ is. let same : nat_eq (k / 64) (place / 64) ≡ true = ap (λ n. nat_eq (k / 64) n) (sym is) ∙ nat_eq-refl (k / 64) in cc in
        ap (λ w. nat_eq (bit_at w (k % 64)) 1) (get_or-set_other words (place / 64) (k / 64) v 0 apart)
  ]),
)

abbrev pub zeros : ℕ → List ℕ
zeros n = replicate n 0

pub marks-set : (words : List ℕ) (count place word v : ℕ) (mark : Bool) → count ≤ 64 * length words → place < length (marks_of words count) → word ≡ get_or words (place / 64) word →
    IsBitWritten word v (place % 64) mark → marks_of (set words (place / 64) v) count ≡ set (marks_of words count) place mark
marks-set words count place word v mark room inside is written =
    let below : place < count = subst (λ n. place < n) (length-marks_from words 0 count) inside in
    let low : place / 64 < length words = omega arith in
    let there : word ≡ get_or words (place / 64) 0 = is ∙ get_or_default_zero words (place / 64) word low in
    marks-written words (set words (place / 64) v) count place mark below (word-written words place v mark low (subst (λ n. IsBitWritten n v (place % 64) mark) there written))

pub word-inside : (words : List ℕ) (count place : ℕ) → count ≤ 64 * length words → place < length (marks_of words count) → place / 64 < length words
word-inside words count place room inside = let below : place < count = subst (λ n. place < n) (length-marks_from words 0 count) inside in omega arith

-- no word marks anything
pub marks-none : (words : List ℕ) (n count : ℕ) → words ≡ zeros n → marks_of words count ≡ replicate count false
marks-none words n count is =
    same-marks (marks_of words count) (replicate count false)
    (length-marks_from words 0 count ∙ sym (length-replicate count false))
    (λ k below.
    let inside : k < count = subst (λ n. k < n) (length-marks_from words 0 count) below in
    marks_of-at words count k inside ∙ unmarked k ∙ sym (get_or-replicate count k false false inside))
  where
    empty : (m k : ℕ) → get_or (zeros m) k 0 ≡ 0
    empty zero k = refl
    empty (suc m) zero = refl
    empty (suc m) (suc k) = empty m k

    unmarked : (k : ℕ) → is_marked words k ≡ false
    unmarked k = ap (λ w. nat_eq (bit_at w (k % 64)) 1) (ap (λ l. get_or l (k / 64) 0) is ∙ empty n (k / 64)) ∙ ap (λ b. nat_eq b 1) (bit_at-zero (k % 64))

-- # The next mark

bit-shifted : (w f i : ℕ) → bit_at (w / 2 ^ f) i ≡ bit_at w (f + i)
bit-shifted w f i = ap (λ n. n % 2) (div-div-eq-div-mul w (2 ^ f) (2 ^ i) ∙ ap (λ m. w / m) (sym (pow-add 2 f i)))

pub next-none : (w f : ℕ) → w / 2 ^ f ≡ 0 → IsNextOfWord w f None
next-none w f none = λ i past below.
    let at : f + (i - f) ≡ i = omega arith in
    ap (bit_at w) (sym at) ∙ sym (bit-shifted w f (i - f)) ∙ ap (λ n. bit_at n (i - f)) none ∙ bit_at-zero (i - f)

pub next-some : (w f : ℕ) → w < 2 ^ 64 → 0 < w / 2 ^ f → IsNextOfWord w f (Some (f + trailing_zeros w64 (w / 2 ^ f)))
next-some w f small some = (
  omega arith,
  elim (split (nat_lt (f + t) 64)) [
    | inl low ↦ grind (arith, nat_tests)
    | inr high ↦
        let past : 64 ≤ f + t = grind (arith, nat_tests) in
        let off : bit_at w (f + t) ≡ 0 = bit_at_above w 64 (f + t) small past in
        let clash : 1 ≡ 0 = sym here ∙ off in
        absurd (cc)
  ],
  here,
  (λ i past below.
      let at : f + (i - f) ≡ i = omega arith in
      let low : i - f < t = omega arith in
      ap (bit_at w) (sym at) ∙ sym (bit-shifted w f (i - f)) ∙ found.2 (i - f) low),
)
  where
    fits : w / 2 ^ f < 2 ^ 64
    fits = omega (arith, div-le_self w (2 ^ f))

    t : ℕ
    t = trailing_zeros w64 (w / 2 ^ f)

    found : (t < 64) × (bit_at (w / 2 ^ f) t ≡ 1) × ((i : ℕ) → i < t → bit_at (w / 2 ^ f) i ≡ 0)
    found = bit_at-trailing_zeros w64 (w / 2 ^ f) some fits

    here : bit_at w (f + t) ≡ 1
    here = sym (bit-shifted w f t) ∙ found.1

-- no mark from one place up to another
abbrev pub AreUnmarked : List Bool → ℕ → ℕ → Type 0
AreUnmarked marks from to = (k : ℕ) → from ≤ k → k < to → get_or marks k false ≡ false

-- of a word in which none is left
pub unmarked-word : (words : List ℕ) (count from place : ℕ) → AreUnmarked (marks_of words count) from place → place < count → IsNextOfWord (get_or words (place / 64) 0) (place % 64) None →
    AreUnmarked (marks_of words count) from (place - place % 64 + 64)
unmarked-word words count from place before inside none = λ k past below. elim (split (nat_lt k place)) [
  | inl low ↦ before k past (grind (arith, nat_tests))
  | inr high ↦ elim (split (nat_lt k count)) [
    | inl there ↦
        let over : place ≤ k = grind (arith, nat_tests) in
        let word : k / 64 ≡ place / 64 = omega arith in
        let own : place % 64 ≤ k % 64 = omega arith in
        marks_of-at words count k (grind (arith, nat_tests)) ∙ ap (λ n. nat_eq (bit_at (get_or words n 0) (k % 64)) 1) word ∙ ap (λ n. nat_eq n 1) (none (k % 64) own (omega arith))
    | inr gone ↦ marks_of-past words count k (grind (arith, nat_tests))
  ]
]

pub next-found : (words : List ℕ) (count from place at : ℕ) → AreUnmarked (marks_of words count) from place → from ≤ place → IsNextOfWord (get_or words (place / 64) 0) (place % 64) (Some at) →
    place - place % 64 + at < count → IsNextMark (marks_of words count) from (Some (place - place % 64 + at))
next-found words count from place at before past next inside = (
  omega (arith, next.0),
  omega (arith, length-marks_from words 0 count),
  marks_of-at words count (place - place % 64 + at) inside ∙ marked at next.1 next.2,
  λ k behind below. elim (split (nat_lt k place)) [
    | inl low ↦ before k behind (grind (arith, nat_tests))
    | inr high ↦
        let over : place ≤ k = grind (arith, nat_tests) in
        let word : k / 64 ≡ place / 64 = omega (arith, next.1) in
        let own : place % 64 ≤ k % 64 = omega arith in
        let less : k % 64 < at = omega (arith, next.1) in
        marks_of-at words count k (omega arith) ∙ ap (λ n. nat_eq (bit_at (get_or words n 0) (k % 64)) 1) word ∙ ap (λ n. nat_eq n 1) (next.3 (k % 64) own less)
  ],
)
  where
    marked : (at : ℕ) → at < 64 → bit_at (get_or words (place / 64) 0) at ≡ 1 → is_marked words (place - place % 64 + at) ≡ true
    marked at low is =
        let word : (place - place % 64 + at) / 64 ≡ place / 64 = omega arith in
        let own : (place - place % 64 + at) % 64 ≡ at = omega arith in
        (λ i. nat_eq (bit_at (get_or words (word i) 0) (own i)) 1) ∙ ap (λ n. nat_eq n 1) is

-- nothing is left after the last place
pub next-past : (words : List ℕ) (count from place : ℕ) → AreUnmarked (marks_of words count) from place → count ≤ place → IsNextMark (marks_of words count) from None
next-past words count from place before past = λ k behind. elim (split (nat_lt k place)) [
  | inl low ↦ before k behind (grind (arith, nat_tests))
  | inr high ↦ marks_of-past words count k (grind (arith, nat_tests))
]

-- a mark of a word that no place has
pub next-outside : (words : List ℕ) (count from place at : ℕ) → AreUnmarked (marks_of words count) from place → IsNextOfWord (get_or words (place / 64) 0) (place % 64) (Some at) →
    count ≤ place - place % 64 + at → IsNextMark (marks_of words count) from None
next-outside words count from place at before next past = λ k behind. elim (split (nat_lt k place)) [
  | inl low ↦ before k behind (grind (arith, nat_tests))
  | inr high ↦ elim (split (nat_lt k count)) [
    | inl there ↦
        let over : place ≤ k = grind (arith, nat_tests) in
        let inside : k < count = grind (arith, nat_tests) in
        let word : k / 64 ≡ place / 64 = omega (arith, next.1) in
        let own : place % 64 ≤ k % 64 = omega arith in
        let less : k % 64 < at = omega (arith, next.1) in
        marks_of-at words count k inside ∙ ap (λ n. nat_eq (bit_at (get_or words n 0) (k % 64)) 1) word ∙ ap (λ n. nat_eq n 1) (next.3 (k % 64) own less)
    | inr gone ↦ marks_of-past words count k (grind (arith, nat_tests))
  ]
]

-- # Equality

pub marks-same : (a b : List ℕ) (m n : ℕ) → m ≡ n → ((k : ℕ) → k < m → get_or (marks_of a m) k false ≡ get_or (marks_of b n) k false) → marks_of a m ≡ marks_of b n
marks-same a b m n is each =
    same-marks (marks_of a m) (marks_of b n) (length-marks_from a 0 m ∙ is ∙ sym (length-marks_from b 0 n)) (λ k below. each k (subst (λ c. k < c) (length-marks_from a 0 m) below))

pub counts-differ : (a b : List ℕ) (m n : ℕ) → (m ≡ n → ⊥) → marks_of a m ≡ marks_of b n → ⊥
counts-differ a b m n ne same = ne (sym (length-marks_from a 0 m) ∙ ap length same ∙ length-marks_from b 0 n)
