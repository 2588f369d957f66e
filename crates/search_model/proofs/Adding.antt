-- What executions do to a number, summed in turn.
use Rattle.std.specs.Prelude.{◌≡◌, ℕ, zero, suc, ◌+◌, ◌<◌, ℤ, ◌+ℤ◌, ◌-ℤ◌, List, [], ◌∷◌, ◌++◌, length, Some, None}
use Rattle.std.proofs.Common.{◌∙◌, ap, subst, arith, take, drop, get_or}
use Rattle.std.proofs.Math.Seq.{take-suc, drop-cons}
use Rattle.std.proofs.lemmas.Int.{ints}
use Rattle.aud_event.specs.declared.object.Op.TheVariants.{Read}
use Rattle.aud_event.specs.declared.object.Answer.TheVariants.{Done}
use Rattle.aud_object.specs.declared.execution.Execution.{Execution}
use Rattle.search_model.specs.declared.quantity.Quantity.{Quantity}
use Rattle.search_model.specs.Quantities.{change_by, net, seen_by, less, first_of, asked, Tell}

pub net-append : (f : Quantity) (a b : List Execution) → net f (a ++ b) ≡ net f a +ℤ net f b
net-append f [] b = omega (arith, ints)
net-append f (e ∷ a) b = let rest = net-append f a b in omega (arith, ints, rest)

pub net-more : (f : Quantity) (es : List Execution) (k : ℕ) (d : Execution) → k < length es → net f (take (k + 1) es) ≡ net f (take k es) +ℤ change_by f (get_or es k d)
net-more f es k d low =
    let last : net f (get_or es k d ∷ []) ≡ change_by f (get_or es k d) = omega (arith, ints) in
    let sum = net-append f (take k es) (get_or es k d ∷ []) in
    let one : k + 1 ≡ suc k = omega arith in
    ap (λ n. net f (take n es)) one ∙ ap (net f) (take-suc es k d low) ∙ sum ∙ ap (λ n. net f (take k es) +ℤ n) last

pub asked-next : (f : Quantity) (es : List Execution) (k : ℕ) (d : Execution) (before : ℤ) → k < length es → ((m : ℤ) → asked f (drop k es) ≡ Some m → asked f es ≡ Some (m -ℤ before)) → seen_by f (get_or es k d) ≡ None →
    (m : ℤ) → asked f (drop (k + 1) es) ≡ Some m → asked f es ≡ Some (m -ℤ (before +ℤ change_by f (get_or es k d)))
asked-next f es k d before low known none m is =
    let one : k + 1 ≡ suc k = omega arith in
    let later : asked f (drop (suc k) es) ≡ Some m = subst (λ n. asked f (drop n es) ≡ Some m) one is in
    let here : asked f (drop k es) ≡ Some (m -ℤ change_by f (get_or es k d)) =
    ap (asked f) (drop-cons es k d low) ∙ ap (λ o. first_of o (less (change_by f (get_or es k d)) (asked f (drop (suc k) es)))) none ∙ ap (less (change_by f (get_or es k d))) later in
    let sum : (m -ℤ change_by f (get_or es k d)) -ℤ before ≡ m -ℤ (before +ℤ change_by f (get_or es k d)) = omega (arith, ints) in
    known (m -ℤ change_by f (get_or es k d)) here ∙ ap (λ n. Some n) sum

pub asked-here : (f : Quantity) (es : List Execution) (k : ℕ) (d : Execution) (before n : ℤ) → k < length es → ((m : ℤ) → asked f (drop k es) ≡ Some m → asked f es ≡ Some (m -ℤ before)) → seen_by f (get_or es k d) ≡ Some n →
    asked f es ≡ Some (n -ℤ before)
asked-here f es k d before n low known is =
    known n (ap (asked f) (drop-cons es k d low) ∙ ap (λ o. first_of o (less (change_by f (get_or es k d)) (asked f (drop (suc k) es)))) is)

-- what stands where a block has no execution
abbrev pub idle : Execution
idle = record { object = 0; op = Read; answer = Done }

-- what is seen at a place
pub tell-at : (f : Quantity) (es : List Execution) (k : ℕ) (d : Execution) (n m : ℤ) → Tell f n es → k < length es → seen_by f (get_or es k d) ≡ Some m → n +ℤ net f (take k es) ≡ m
tell-at f [] k d n m tell low is = absurd (omega (arith, low))
tell-at f (e ∷ es) zero d n m tell low is = let same = tell.0 m is in omega (arith, ints, same)
tell-at f (e ∷ es) (suc k) d n m tell low is = let rest = tell-at f es k d (n +ℤ change_by f e) m tell.1 (omega (arith, low)) is in omega (arith, ints, rest)
