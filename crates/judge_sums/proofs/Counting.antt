-- What a counter holds, far from the ends of its range.
use Rattle.std.specs.Prelude.{◌≡◌, ℕ, ◌+◌, ℤ, pos, negsuc, ◌+ℤ◌, ◌-ℤ◌, ◌≤ℤ◌, int_le, true, false, Some}
use Rattle.std.specs.Ordering.{int_eq}
use Rattle.std.specs.Int.RustNames.{unsigned_abs}
use Rattle.std.proofs.Common.{◌∙◌, ap, subst, cond, arith}
use Rattle.std.proofs.lemmas.Int.{ints}
use Rattle.aud_event.specs.declared.object.Op.{Op}
use Rattle.aud_event.specs.declared.object.Op.TheVariants.{Read, Write, Inc, Dec, Get, Add, Remove, Contains, Enq, Deq, Plus, Put, Look, Del}
use Rattle.aud_event.specs.declared.object.Answer.{Answer}
use Rattle.aud_event.specs.declared.object.Answer.TheVariants.{Done, Int, Flag, Empty}
use Rattle.base_values.proofs.Bools.{true_and, is_false}
use Rattle.aud_kinds.specs.Objects.{ObjState, counter, answer_of, after_op, greatest, least, is_within}
use Rattle.aud_object.specs.Replayed.{same_answer}
use Rattle.base_undo.proofs.Ints.{eq-is}
use Rattle.search_model.specs.declared.quantity.Quantity.TheVariants.{Count}
use Rattle.search_model.specs.Quantities.{count_change, count_seen, change, seen, reach}
use Rattle.judge_sums.specs.Room.{HasRoom}

-- # Far from the ends

abs-low : (z : ℤ) → (pos 0 -ℤ pos (unsigned_abs z)) ≤ℤ z
abs-low (pos n) = omega (arith, ints)
abs-low (negsuc n) = omega (arith, ints)

abs-high : (z : ℤ) → z ≤ℤ pos (unsigned_abs z)
abs-high (pos n) = omega (arith, ints)
abs-high (negsuc n) = omega (arith, ints)

plus-zero : (n : ℤ) → n ≡ n +ℤ pos 0
plus-zero n = omega (arith, ints)

le-test : (a b : ℤ) → a ≤ℤ b → int_le a b ≡ true
le-test a b h = grind (arith, ints)

room-next : (n k : ℤ) (s : ℕ) → HasRoom n (unsigned_abs k + s) → HasRoom (n +ℤ k) s
room-next n k s room =
    let low : least ≤ℤ (n -ℤ pos (unsigned_abs k + s)) = room.low in
    let high : (n +ℤ pos (unsigned_abs k + s)) ≤ℤ greatest = room.high in
    let down : (pos 0 -ℤ pos (unsigned_abs k)) ≤ℤ k = abs-low k in
    let up : k ≤ℤ pos (unsigned_abs k) = abs-high k in
    record { low = omega (arith, ints, low, down); high = omega (arith, ints, high, up) }

room-less : (n : ℤ) (a s : ℕ) → HasRoom n (a + s) → HasRoom n s
room-less n a s room =
    let low : least ≤ℤ (n -ℤ pos (a + s)) = room.low in
    let high : (n +ℤ pos (a + s)) ≤ℤ greatest = room.high in
    record { low = omega (arith, ints, low); high = omega (arith, ints, high) }

room-here : (n : ℤ) (s : ℕ) → HasRoom n s → is_within n ≡ true
room-here n s room =
    let low : least ≤ℤ (n -ℤ pos s) = room.low in
    let high : (n +ℤ pos s) ≤ℤ greatest = room.high in
    true_and (int_le least n) (int_le n greatest) (le-test least n (omega (arith, ints, low))) (le-test n greatest (omega (arith, ints, high)))

not-greatest : (n : ℤ) (s : ℕ) → HasRoom n (1 + s) → int_eq n greatest ≡ false
not-greatest n s room =
    let high : (n +ℤ pos (1 + s)) ≤ℤ greatest = room.high in
    is_false (int_eq n greatest) (λ same. let is : n ≡ greatest = eq-is n greatest same in omega (arith, ints, high, is))

not-least : (n : ℤ) (s : ℕ) → HasRoom n (1 + s) → int_eq n least ≡ false
not-least n s room =
    let low : least ≤ℤ (n -ℤ pos (1 + s)) = room.low in
    is_false (int_eq n least) (λ same. let is : n ≡ least = eq-is n least same in omega (arith, ints, low, is))

pub room-from : (v0 : ℤ) (s : ℕ) → least ≤ℤ (v0 -ℤ pos s) → (v0 +ℤ pos s) ≤ℤ greatest → HasRoom v0 s
room-from v0 s low high = record { low = low; high = high }

-- # A counter and an operation

after-counter : (op : Op) (n : ℤ) (s : ℕ) → HasRoom n (unsigned_abs (count_change op) + s) → after_op (counter n) op ≡ counter (n +ℤ count_change op)
after-counter Inc n s room = ap (λ b. counter (cond b n (n +ℤ pos 1))) (not-greatest n s room)
after-counter Dec n s room = ap (λ b. counter (cond b n (n -ℤ pos 1))) (not-least n s room)
after-counter (Plus k) n s room = ap (λ b. counter (cond b (n +ℤ k) n)) (room-here (n +ℤ k) s (room-next n k s room))
after-counter Read n s room = ap (λ m. counter m) (plus-zero n)
after-counter (Write w) n s room = ap (λ m. counter m) (plus-zero n)
after-counter Get n s room = ap (λ m. counter m) (plus-zero n)
after-counter (Add w) n s room = ap (λ m. counter m) (plus-zero n)
after-counter (Remove w) n s room = ap (λ m. counter m) (plus-zero n)
after-counter (Contains w) n s room = ap (λ m. counter m) (plus-zero n)
after-counter (Enq w) n s room = ap (λ m. counter m) (plus-zero n)
after-counter Deq n s room = ap (λ m. counter m) (plus-zero n)
after-counter (Put k w) n s room = ap (λ m. counter m) (plus-zero n)
after-counter (Look k) n s room = ap (λ m. counter m) (plus-zero n)
after-counter (Del k) n s room = ap (λ m. counter m) (plus-zero n)

seen-counter : (op : Op) (answer : Answer) (n w : ℤ) → same_answer (answer_of (counter n) op) answer ≡ true → count_seen op answer ≡ Some w → n ≡ w
seen-counter Get (Int u) n w right is = let one : n ≡ u = eq-is n u right in let two : u ≡ w = cc in one ∙ two
seen-counter Get Done n w right is = absurd (cc)
seen-counter Get (Flag b) n w right is = absurd (cc)
seen-counter Get Empty n w right is = absurd (cc)
seen-counter _ answer n w right is = absurd (cc)

-- the state is a counter at the number, with so much room
abbrev pub IsCount : ℤ → ℕ → ObjState → Type 0
IsCount n s state = (state ≡ counter n) × HasRoom n s

pub count-after : (x : ℕ) (op : Op) (answer : Answer) (n : ℤ) (s : ℕ) (state : ObjState) → IsCount n (reach (Count x) op + s) state → same_answer (answer_of state op) answer ≡ true →
    IsCount (n +ℤ change (Count x) op answer) s (after_op state op)
count-after x op answer n s state is right = (ap (λ (z : ObjState). after_op z op) is.0 ∙ after-counter op n s is.1, room-next n (count_change op) s is.1)

pub count-seen : (x : ℕ) (op : Op) (answer : Answer) (n w : ℤ) (s : ℕ) (state : ObjState) → IsCount n s state → same_answer (answer_of state op) answer ≡ true → seen (Count x) op answer ≡ Some w → n ≡ w
count-seen x op answer n w s state is right tells = seen-counter op answer n w (subst (λ (z : ObjState). same_answer (answer_of z op) answer ≡ true) is.0 right) tells

pub count-room : (n : ℤ) (a s : ℕ) (state : ObjState) → IsCount n (a + s) state → IsCount n s state
count-room n a s state is = (is.0, room-less n a s is.1)
