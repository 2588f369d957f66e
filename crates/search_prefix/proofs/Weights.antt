-- A search ends: what is left to try weighs less after each step.
use Rattle.std.specs.Prelude.{◌≡◌, ℕ, zero, suc, ◌+◌, ◌-◌, ◌*◌, ◌<◌, ◌≤◌, List, [], ◌∷◌, refl}
use Rattle.std.proofs.Common.{sym, ◌∙◌, ap, subst, arith}
use Rattle.std.proofs.Math.Nat.{add-mul, one-mul, mul-le-mul_right}

-- b to the power of n
abbrev pub power : ℕ → ℕ → ℕ
power b zero = 1
power b (suc n) = power b n + (b + 1) * power b n

-- a level with so many choices left, so far above the deepest
abbrev pub level : ℕ → ℕ → ℕ → ℕ
level b left height = (left + 1) * power b height

-- the levels below a prefix of a length
abbrev pub under : ℕ → ℕ → ℕ → List ℕ → ℕ
under b n depth [] = 0
under b n depth (g ∷ gs) = level b (b - g) (n - (depth - 1)) + under b n (depth - 1) gs

abbrev pub weigh : ℕ → ℕ → ℕ → ℕ → List ℕ → ℕ
weigh b n depth next gs = level b (b - next) (n - depth) + under b n depth gs

pub power-some : (b n : ℕ) → 1 ≤ power b n
power-some b zero = omega arith
power-some b (suc n) = let low : 1 ≤ power b n = power-some b n in omega arith

one-more : (x p : ℕ) → (x + 1) * p ≡ x * p + p
one-more x p = add-mul x 1 p ∙ ap (λ k. x * p + k) (one-mul p)

level-some : (b left height : ℕ) → 1 ≤ level b left height
level-some b left height =
    let low : 1 ≤ power b height = power-some b height in
    let is : level b left height ≡ left * power b height + power b height = one-more left (power b height) in
    omega arith

-- what a followed choice leaves at its level, and the whole level above, weigh less than the level did
lighter : (b more less height : ℕ) → less + 1 ≤ more → level b b height + level b less (suc height) < level b more (suc height)
lighter b more less height fewer =
    let P : ℕ = power b height in
    let Q : ℕ = power b (suc height) in
    let some : 1 ≤ P = power-some b height in
    let wide : level b less (suc height) ≡ less * Q + Q = one-more less Q in
    let low : (less + 1) * Q ≤ more * Q = mul-le-mul_right Q fewer in
    let split_low : (less + 1) * Q ≡ less * Q + Q = one-more less Q in
    let top : level b more (suc height) ≡ more * Q + Q = one-more more Q in
    let grown : Q ≡ P + (b + 1) * P = refl in
    omega arith

-- a choice was followed
pub lighter-deeper : (b n depth next k g : ℕ) (gs : List ℕ) → depth < n → next ≤ k → k < b → k < g →
    weigh b n (depth + 1) 0 (g ∷ gs) < weigh b n depth next gs
lighter-deeper b n depth next k g gs below past inside behind =
    let up : n - depth ≡ suc (n - (depth + 1)) = omega arith in
    let back : (depth + 1) - 1 ≡ depth = omega arith in
    let zero_off : b - 0 ≡ b = omega arith in
    let less : level b b (n - (depth + 1)) + level b (b - g) (suc (n - (depth + 1))) < level b (b - next) (suc (n - (depth + 1))) =
    lighter b (b - next) (b - g) (n - (depth + 1)) (omega arith) in
    let whole : level b b (n - (depth + 1)) + level b (b - g) (n - depth) < level b (b - next) (n - depth) =
    subst (λ m. level b b (n - (depth + 1)) + level b (b - g) m < level b (b - next) m) (sym up) less in
    let seen : weigh b n (depth + 1) 0 (g ∷ gs) ≡ level b b (n - (depth + 1)) + (level b (b - g) (n - depth) + under b n depth gs) =
    ap (λ m. level b m (n - (depth + 1)) + (level b (b - g) (n - ((depth + 1) - 1)) + under b n ((depth + 1) - 1) gs)) zero_off
    ∙ ap (λ m. level b b (n - (depth + 1)) + (level b (b - g) (n - m) + under b n m gs)) back in
    omega arith

-- a choice was passed over
pub lighter-on : (b n depth next k g : ℕ) (gs : List ℕ) → next ≤ k → k < b → k < g → weigh b n depth g gs < weigh b n depth next gs
lighter-on b n depth next k g gs past inside behind =
    let P : ℕ = power b (n - depth) in
    let some : 1 ≤ P = power-some b (n - depth) in
    let low : ((b - g) + 1) * P + P ≡ (((b - g) + 1) + 1) * P = sym (one-more ((b - g) + 1) P) in
    let high : (((b - g) + 1) + 1) * P ≤ ((b - next) + 1) * P = mul-le-mul_right P (omega arith) in
    omega arith

-- a prefix was left
pub lighter-back : (b n depth next g : ℕ) (gs : List ℕ) → weigh b n (depth - 1) g gs < weigh b n depth next (g ∷ gs)
lighter-back b n depth next g gs = let some : 1 ≤ level b (b - next) (n - depth) = level-some b (b - next) (n - depth) in omega arith
