-- A written line is short.
use Rattle.std.proofs.Common.{ℕ, suc, ◌+◌, ◌*◌, ◌<◌, ◌≤◌, ℤ, pos, negsuc, List, [], ◌∷◌, ◌++◌, Bool, true, false, cond, length, length-append, arith}
use Rattle.std.specs.Int.{w64}
use Rattle.std.specs.Prelude.{FitsSigned, nat_lt}
use Rattle.std.proofs.lemmas.Int.{ints}
use Rattle.std.proofs.lemmas.Fmt.{length-decimal-le}
use Rattle.json.specs.Print.{escape_letter, escape_byte, escape, quoted}
use Rattle.serde_json.specs.Data.{Data, number, unsigned, string, Members, no_members, member}
use Rattle.serde_json.specs.Find.{of_integer}
use Rattle.serde_json.specs.Written.{compact_text, members_text, comma_if}

cond_le : (k : ℕ) (b : Bool) (xs ys : List ℕ) → length xs ≤ k → length ys ≤ k → length (cond b xs ys) ≤ k
cond_le k true xs ys h g = h
cond_le k false xs ys h g = g

escape_byte_le : (x : ℕ) → length (escape_byte x) ≤ 6
unfolding escape_byte
escape_byte_le x = cond_le 6 (nat_lt 0 (escape_letter x)) _ _ (omega arith) (cond_le 6 (nat_lt x 32) _ _ (omega arith) (omega arith))

escape_le : (s : List ℕ) → length (escape s) ≤ 6 * length s
escape_le [] = omega arith
escape_le (x ∷ s) = omega (arith, length-append (escape_byte x) (escape s), escape_byte_le x, escape_le s)

pub quoted_le : (s : List ℕ) → length (quoted s) ≤ 6 * length s + 2
quoted_le s = omega (arith, length-append (escape s) (34 ∷ []), escape_le s)

comma_le : (b : Bool) → length (comma_if b) ≤ 1
comma_le true = omega arith
comma_le false = omega arith

-- one member more
pub member_le : (b : Bool) (k : List ℕ) (d : Data) (ms : Members) (x y : ℕ) → length (compact_text d) ≤ x → length (members_text true ms) ≤ y
    → length (members_text b (member k d ms)) ≤ 6 * length k + 4 + x + y
member_le b k d ms x y hd hm =
    omega (
      arith,
      length-append (comma_if b) (quoted k ++ 58 ∷ (compact_text d ++ members_text true ms)),
      length-append (quoted k) (58 ∷ (compact_text d ++ members_text true ms)),
      length-append (compact_text d) (members_text true ms),
      comma_le b,
      quoted_le k,
      hd,
      hm,
    )

pub number_le : (n : ℕ) → n < 4294967296 → length (compact_text (number (unsigned n))) ≤ 20
number_le n h = length-decimal-le 20 n (omega arith) (omega arith) (omega arith)

pub integer_le : (z : ℤ) → FitsSigned w64 z → length (compact_text (number (of_integer z))) ≤ 21
integer_le (pos n) h = let k : n < 9223372036854775808 = omega (arith, ints) in omega (arith, length-decimal-le 20 n (omega arith) (omega arith) (omega arith))
integer_le (negsuc n) h = let k : n < 9223372036854775808 = omega (arith, ints) in omega (arith, length-decimal-le 20 (suc n) (omega arith) (omega arith) (omega arith))

-- the text of the members is at most so long; a record, so that lemmas find their members by themselves
pub record AtMost (b : Bool) (ms : Members) (y : ℕ) : Type 0 where
  pub holds : length (members_text b ms) ≤ y

pub last_bracket : (b : Bool) → AtMost b no_members 1
last_bracket b = record { holds = omega arith }

pub short_number : (b : Bool) (k : List ℕ) (x : ℕ) {ms : Members} {y : ℕ} → x < 4294967296 → length k ≤ 5 → AtMost true ms y → AtMost b (member k (number (unsigned x)) ms) (54 + y)
short_number b k x {ms} {y} hx hk h = record { holds = omega (arith, member_le b k (number (unsigned x)) ms 20 y (number_le x hx) h.holds) }

pub short_text : (b : Bool) (k s : List ℕ) {ms : Members} {y : ℕ} → length s ≤ 32 → length k ≤ 5 → AtMost true ms y → AtMost b (member k (string s) ms) (228 + y)
short_text b k s {ms} {y} hs hk h = record { holds = omega (arith, member_le b k (string s) ms 194 y (omega (arith, quoted_le s)) h.holds) }

pub short_other : (b : Bool) (k : List ℕ) (d : Data) {ms : Members} {y : ℕ} → length (compact_text d) ≤ 50 → length k ≤ 5 → AtMost true ms y → AtMost b (member k d ms) (84 + y)
short_other b k d {ms} {y} hd hk h = record { holds = omega (arith, member_le b k d ms 50 y hd h.holds) }
