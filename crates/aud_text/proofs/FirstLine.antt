-- The first line, as the code finds it.
use Rattle.std.proofs.Common.{◌≡◌, ◌<◌, ◌≤◌, ◌==◌, ◌+◌, ℕ, zero, suc, List, [], ◌∷◌, length, take, drop, Bool, true, false, cond, Option, Some, unwrap_or, add-one, refl, ap, ◌∙◌, sym, arith}
use Rattle.std.specs.List.{position_from}
use Rattle.std.proofs.Common.{inl, ◌++◌}
use Rattle.aud_text.specs.Lines.{lines_of, put_first, line_len, Splits}

abbrev feed : ℕ → Bool
feed x = x == 10

place_step : (b : Bool) (n len ll : ℕ) (o : Option ℕ) → unwrap_or o (n + 1 + len) ≡ n + 1 + ll → unwrap_or (cond b (Some n) o) (n + suc len) ≡ n + cond b 0 (suc ll)
place_step true n len ll o h = omega arith
place_step false n len ll o h = let same : n + suc len ≡ n + 1 + len = omega arith in ap (unwrap_or o) same ∙ omega (arith, h)

len_by_place : (xs : List ℕ) (n : ℕ) → unwrap_or (position_from feed n xs) (n + length xs) ≡ n + line_len xs
len_by_place [] n = refl
len_by_place (x ∷ xs) n = place_step (x == 10) n (length xs) (line_len xs) (position_from feed (n + 1) xs) (len_by_place xs (n + 1))

pub len_of_place : (xs : List ℕ) (o : Option ℕ) → o ≡ position_from (λ x. x == 10) 0 xs → unwrap_or o (length xs) ≡ line_len xs
len_of_place xs o e =
    let a : 0 + length xs ≡ length xs = omega arith in
    let b : 0 + line_len xs ≡ line_len xs = omega arith in
    ap (λ p. unwrap_or p (length xs)) e ∙ (ap (unwrap_or (position_from feed 0 xs)) (sym a) ∙ (len_by_place xs 0 ∙ b))

len_step : (b : Bool) (ll len : ℕ) → ll ≤ len → cond b 0 (suc ll) ≤ suc len
len_step true ll len h = omega arith
len_step false ll len h = omega arith

pub line_len_le : (xs : List ℕ) → line_len xs ≤ length xs
line_len_le [] = omega arith
line_len_le (x ∷ xs) = len_step (x == 10) (line_len xs) (length xs) (line_len_le xs)

feed_step : (b : Bool) (x : ℕ) (xs : List ℕ) → cond b 0 (suc (line_len xs)) < suc (length xs) → (line_len xs < length xs → lines_of xs ≡ take (line_len xs) xs ∷ lines_of (drop (line_len xs + 1) xs))
    → cond b ([] ∷ lines_of xs) (put_first x (lines_of xs)) ≡ take (cond b 0 (suc (line_len xs))) (x ∷ xs) ∷ lines_of (drop (cond b 0 (suc (line_len xs)) + 1) (x ∷ xs))
feed_step true x xs g h = refl
feed_step false x xs g h = rw add-one (ap (put_first x) (h (omega arith)) ∙ rw add-one refl)

pub first_with_feed : (xs : List ℕ) → line_len xs < length xs → lines_of xs ≡ take (line_len xs) xs ∷ lines_of (drop (line_len xs + 1) xs)
first_with_feed [] h = absurd (omega arith)
first_with_feed (x ∷ xs) h = feed_step (x == 10) x xs h (first_with_feed xs)

one_step : (b : Bool) (x : ℕ) → cond b zero (suc zero) ≡ suc zero → cond b ([] ∷ []) ((x ∷ []) ∷ []) ≡ (x ∷ []) ∷ []
one_step true x g = absurd (omega arith)
one_step false x g = refl

last_step : (b : Bool) (x : ℕ) (xs : List ℕ) → cond b 0 (suc (line_len xs)) ≡ suc (length xs) → (line_len xs ≡ length xs → lines_of xs ≡ xs ∷ []) → cond b ([] ∷ lines_of xs) (put_first x (lines_of xs)) ≡ (x ∷ xs) ∷ []
last_step true x xs g h = absurd (omega arith)
last_step false x xs g h = ap (put_first x) (h (omega arith))

pub last_line : (xs : List ℕ) → line_len xs ≡ length xs → 0 < length xs → lines_of xs ≡ xs ∷ []
last_line [] e h = absurd (omega arith)
last_line (x ∷ []) e h = one_step (x == 10) x e
last_line (x ∷ y ∷ xs) e h = last_step (x == 10) x (y ∷ xs) e (λ g. last_line (y ∷ xs) g (omega arith))

parts_step : (b : Bool) (x : ℕ) (xs : List ℕ) → (x == 10) ≡ b → cond b 0 (suc (line_len xs)) < suc (length xs) → (line_len xs < length xs → xs ≡ take (line_len xs) xs ++ (10 ∷ drop (line_len xs + 1) xs))
    → x ∷ xs ≡ take (cond b 0 (suc (line_len xs))) (x ∷ xs) ++ (10 ∷ drop (cond b 0 (suc (line_len xs)) + 1) (x ∷ xs))
parts_step true x xs e g h = let t : x ≡ 10 = grind (arith, e) in ap (λ y. y ∷ xs) t
parts_step false x xs e g h = rw add-one (ap (λ ys. x ∷ ys) (h (omega arith) ∙ rw add-one refl))

pub parts_with_feed : (xs : List ℕ) → line_len xs < length xs → xs ≡ take (line_len xs) xs ++ (10 ∷ drop (line_len xs + 1) xs)
parts_with_feed [] h = absurd (omega arith)
parts_with_feed (x ∷ xs) h = parts_step (x == 10) x xs refl h (parts_with_feed xs)

pub splits_with_feed : (xs : List ℕ) → line_len xs < length xs → Splits xs (take (line_len xs) xs) (drop (line_len xs + 1) xs)
splits_with_feed xs h = record { feed = 10 ∷ []; parts = parts_with_feed xs h; is_feed = inl refl }
