-- Reaches and shares summed in turn, and executions on other objects.
use Rattle.std.specs.Prelude.{◌≡◌, ℕ, suc, ◌+◌, ◌<◌, ℤ, pos, ◌+ℤ◌, false, nat_eq, List, [], ◌∷◌, ◌++◌, length, refl}
use Rattle.std.proofs.Common.{cond, ◌∙◌, ap, arith, take, get_or}
use Rattle.std.proofs.Math.Seq.{take-suc}
use Rattle.std.proofs.lemmas.Int.{ints}
use Rattle.base_values.proofs.Bools.{or_false}
use Rattle.aud_object.specs.declared.execution.Execution.{Execution}
use Rattle.judge_clauses.specs.Touching.{mentions}
use Rattle.search_model.specs.declared.quantity.Quantity.{Quantity}
use Rattle.search_model.specs.Quantities.{object_of, change, change_by, net, reach, reach_by, reaches}
use Rattle.judge_sums.specs.Sums.{sum_of}

pub sum_of-append : (g : ℕ → ℤ) (a b : List ℕ) → sum_of g (a ++ b) ≡ sum_of g a +ℤ sum_of g b
sum_of-append g [] b = omega (arith, ints)
sum_of-append g (t ∷ a) b = let rest = sum_of-append g a b in omega (arith, ints, rest)

-- # Reaches

reaches-append : (f : Quantity) (a b : List Execution) → reaches f (a ++ b) ≡ reaches f a + reaches f b
reaches-append f [] b = omega arith
reaches-append f (e ∷ a) b = let rest = reaches-append f a b in omega (arith, rest)

pub reaches-more : (f : Quantity) (es : List Execution) (k : ℕ) (d : Execution) → k < length es → reaches f (take (k + 1) es) ≡ reaches f (take k es) + reach_by f (get_or es k d)
reaches-more f es k d low =
    let last : reaches f (get_or es k d ∷ []) ≡ reach_by f (get_or es k d) = omega arith in
    let sum = reaches-append f (take k es) (get_or es k d ∷ []) in
    let one : k + 1 ≡ suc k = omega arith in
    ap (λ n. reaches f (take n es)) one ∙ ap (reaches f) (take-suc es k d low) ∙ sum ∙ ap (λ n. reaches f (take k es) + n) last

-- the sum of one row more
pub sum_of-more : (g : ℕ → ℤ) (ts : List ℕ) (k : ℕ) → k < length ts → sum_of g (take (k + 1) ts) ≡ sum_of g (take k ts) +ℤ g (get_or ts k 0)
sum_of-more g ts k low =
    let last : sum_of g (get_or ts k 0 ∷ []) ≡ g (get_or ts k 0) = omega (arith, ints) in
    let one : k + 1 ≡ suc k = omega arith in
    ap (λ n. sum_of g (take n ts)) one ∙ ap (sum_of g) (take-suc ts k 0 low) ∙ sum_of-append g (take k ts) (get_or ts k 0 ∷ []) ∙ ap (λ n. sum_of g (take k ts) +ℤ n) last

-- # Executions on other objects

pub net-untouched : (f : Quantity) (es : List Execution) → mentions (object_of f) es ≡ false → net f es ≡ pos 0
net-untouched f [] none = refl
net-untouched f (e ∷ es) none =
    let (other, rest) = or_false (nat_eq e.object (object_of f)) (mentions (object_of f) es) none in
    let own : change_by f e ≡ pos 0 = ap (λ b. cond b (change f e.op e.answer) (pos 0)) other in
    let later = net-untouched f es rest in
    omega (arith, ints, own, later)

pub reaches-untouched : (f : Quantity) (es : List Execution) → mentions (object_of f) es ≡ false → reaches f es ≡ 0
reaches-untouched f [] none = refl
reaches-untouched f (e ∷ es) none =
    let (other, rest) = or_false (nat_eq e.object (object_of f)) (mentions (object_of f) es) none in
    let own : reach_by f e ≡ 0 = ap (λ b. cond b (reach f e.op) 0) other in
    let later = reaches-untouched f es rest in
    omega (arith, own, later)
