-- The first line feed, where it is looked for by words of many bytes.
use Rattle.std.specs.Prelude.{slice_index}
use Rattle.std.proofs.Common.{◌≡◌, ◌<◌, ◌==◌, ◌+◌, ℕ, zero, suc, List, [], ◌∷◌, length, Bool, true, cond, Option, None, Some, refl, ap, ◌∙◌, sym, inl, inr, arith}
use Rattle.std.specs.List.{position_from}
use Rattle.base_values.proofs.Bools.{split}
use Rattle.memchr.specs.Find.{IsFirstByte, is_byte}

abbrev feed : ℕ → Bool
feed x = x == 10

found-from : (xs : List ℕ) (n k : ℕ) → k < length xs → feed (slice_index xs k) ≡ true → ((j : ℕ) → j < k → feed (slice_index xs j) ≡ true → ⊥) → position_from feed n xs ≡ Some (n + k)
found-from [] n k inside here none = absurd (omega arith)
found-from (x ∷ xs) n zero inside here none = ap (λ b. cond b (Some n) (position_from feed (n + 1) xs)) here ∙ ap Some (omega arith)
found-from (x ∷ xs) n (suc k) inside here none =
    elim (split (feed x)) [
      | inl first ↦ absurd (none 0 (omega arith) first)
      | inr off ↦
          ap (λ b. cond b (Some n) (position_from feed (n + 1) xs)) off
          ∙ found-from xs (n + 1) k (omega arith) here (λ j low is. none (suc j) (omega arith) is) ∙ ap Some (omega arith)
    ]

none-from : (xs : List ℕ) (n : ℕ) → ((j : ℕ) → j < length xs → feed (slice_index xs j) ≡ true → ⊥) → position_from feed n xs ≡ None
none-from [] n none = refl
none-from (x ∷ xs) n none =
    elim (split (feed x)) [
      | inl first ↦ absurd (none 0 (omega arith) first)
      | inr off ↦ ap (λ b. cond b (Some n) (position_from feed (n + 1) xs)) off ∙ none-from xs (n + 1) (λ j low is. none (suc j) (omega arith) is)
    ]

pub first-feed : (xs : List ℕ) (r : Option ℕ) → IsFirstByte (is_byte 10) xs r → r ≡ position_from (λ x. x == 10) 0 xs
first-feed xs None nowhere = sym (none-from xs 0 (λ j low is. nowhere j (omega arith) low is))
first-feed xs (Some k) (first, here) =
    let inside : k < length xs = first.high in
    sym (found-from xs 0 k inside here (λ j low is. first.before j (omega arith) low is) ∙ ap Some (omega arith))
