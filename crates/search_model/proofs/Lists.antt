-- Elements of lists that are joined.
use Rattle.std.specs.Prelude.{◌≡◌, ℕ, zero, suc, ◌+◌, ◌<◌, List, [], ◌∷◌, ◌++◌, length, Some, slice_get, ◌⊎◌}
use Rattle.std.proofs.Common.{ap, inl, inr, arith}

pub get-left : {X : Type 0} (xs ys : List X) (k : ℕ) (v : X) → slice_get xs k ≡ Some v → slice_get (xs ++ ys) k ≡ Some v
get-left [] ys k v at = absurd (cc)
get-left (x ∷ xs) ys zero v at = at
get-left (x ∷ xs) ys (suc k) v at = get-left xs ys k v at

pub get-right : {X : Type 0} (xs ys : List X) (n k : ℕ) → n ≡ length xs + k → slice_get (xs ++ ys) n ≡ slice_get ys k
get-right [] ys n k is = let same : n ≡ k = omega (arith, is) in ap (slice_get ys) same
get-right (x ∷ xs) ys zero k is = absurd (omega (arith, is))
get-right (x ∷ xs) ys (suc n) k is = get-right xs ys n k (omega (arith, is))

-- an element of the first list, or of the second
pub get-or : {X : Type 0} (xs ys : List X) (n : ℕ) (v : X) → slice_get (xs ++ ys) n ≡ Some v →
    ((n < length xs) × (slice_get xs n ≡ Some v)) ⊎ ((k : ℕ) × ((n ≡ length xs + k) × (slice_get ys k ≡ Some v)))
get-or [] ys n v at = inr (n, (omega arith, at))
get-or (x ∷ xs) ys zero v at = inl (omega arith, at)
get-or (x ∷ xs) ys (suc n) v at =
    elim (get-or xs ys n v at) [
      | inl first ↦ inl (omega (arith, first.0), first.1)
      | inr second ↦
          let (k, (is, there)) = second in
          inr (k, (omega (arith, is), there))
    ]

pub get-at : {X : Type 0} (xs : List X) (v : X) (ys : List X) (n : ℕ) → n ≡ length xs → slice_get (xs ++ v ∷ ys) n ≡ Some v
get-at xs v ys n is = get-right xs (v ∷ ys) n 0 (omega (arith, is))
