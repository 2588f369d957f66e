-- Lists and searches.
use Rattle.std.proofs.Common.{◌≡◌, ℕ, zero, suc, ◌+◌, ◌<◌, ◌≤◌, List, [], ◌∷◌, length, refl, arith, ◌⊎◌, inl, inr}
use Rattle.std.specs.Prelude.{Bool, true, false, not, ◌||◌, if◌then◌else◌, Some, None, nat_lt, nat_eq}
use Rattle.std.proofs.lemmas.Bool.{cases_lt}
use Rattle.std.specs.List.{filter, list_any}
use Rattle.aud_event.specs.declared.limits.TheConstants.{STAMPS}
use Rattle.aud_event.specs.declared.fact.Fact.{Fact}
use Rattle.aud_event.specs.declared.fact.Fact.TheVariants.{Rec, End}
use Rattle.aud_facts.specs.Status.{least_below, has_stamp, is_missing}
use Rattle.aud_facts.specs.Scans.{up_to_two, AreWithin}

count-le_step : {X : Type 0} (b : Bool) (x : X) (ys : List X) (n : ℕ) → length ys ≤ n → length (if b then x ∷ ys else ys) ≤ suc n
count-le_step true x ys n h = omega arith
count-le_step false x ys n h = omega arith

pub count-le : {X : Type 0} (p : X → Bool) (xs : List X) → length (filter p xs) ≤ length xs
count-le p [] = omega arith
count-le p (x ∷ xs) = count-le_step (p x) x (filter p xs) (length xs) (count-le p xs)

count-cons_step : {X : Type 0} (b : Bool) (x : X) (ys : List X) → length (if b then x ∷ ys else ys) ≡ (if b then length ys + 1 else length ys)
count-cons_step true x ys = omega arith
count-cons_step false x ys = refl

pub count-cons : {X : Type 0} (p : X → Bool) (x : X) (xs : List X) → length (filter p (x ∷ xs)) ≡ (if p x then length (filter p xs) + 1 else length (filter p xs))
count-cons p x xs = count-cons_step (p x) x (filter p xs)

-- a search that finds none below n, and one that finds the least
pub least_none : (t : ℕ → Bool) (n : ℕ) → ((m : ℕ) → m < n → t m ≡ false) → least_below t n ≡ None
least_none t zero h = refl
least_none t (suc n) h = rw (least_none t n (λ m lt. h m (omega arith)), h n (omega arith)) refl

found_step : (t : ℕ → Bool) (n i : ℕ) → t i ≡ true → (i < n → least_below t n ≡ Some i) → (n ≡ i → least_below t n ≡ None) → (i < n) ⊎ (n ≡ i) → least_below t (suc n) ≡ Some i
found_step t n i e before none (inl below) = rw (before below) refl
found_step t n i e before none (inr same) = rw (none same, same, e) refl

pub split_last : (i n : ℕ) → i < suc n → (i < n) ⊎ (n ≡ i)
split_last i n lt = elim (cases_lt i n) [ inl below ↦ inl below | inr above ↦ inr (omega arith) ]

pub least_found : (t : ℕ → Bool) (n i : ℕ) → i < n → t i ≡ true → ((m : ℕ) → m < i → t m ≡ false) → least_below t n ≡ Some i
least_found t zero i lt e h = absurd (omega (arith, lt))
least_found t (suc n) i lt e h =
    found_step t n i e (λ below. least_found t n i below e h) (λ same. least_none t n (λ m lt. h m (omega arith))) (split_last i n lt)

any_step : (b c : Bool) {X : Type 0} (x : X) (ys : List X) → c ≡ nat_lt 0 (length ys) → (b || c) ≡ nat_lt 0 (length (if b then x ∷ ys else ys))
any_step true c x ys h = grind arith
any_step false c x ys h = h

-- one passes exactly where the number that pass is not 0
pub any-count : {X : Type 0} (p : X → Bool) (xs : List X) → list_any p xs ≡ nat_lt 0 (length (filter p xs))
any-count p [] = refl
any-count p (x ∷ xs) = any_step (p x) (list_any p xs) x (filter p xs) (any-count p xs)

pub up-none : (a b : ℕ) → up_to_two a ≡ up_to_two b → nat_eq a 0 ≡ not (nat_lt 0 b)
up-none zero zero h = refl
up-none zero (suc zero) h = absurd (omega (arith, h))
up-none zero (suc (suc b)) h = absurd (omega (arith, h))
up-none (suc zero) zero h = absurd (omega (arith, h))
up-none (suc (suc a)) zero h = absurd (omega (arith, h))
up-none (suc a) (suc b) h = grind arith

pub up-more : (a b : ℕ) → up_to_two a ≡ up_to_two b → nat_lt 1 a ≡ nat_lt 1 b
up-more zero zero h = refl
up-more zero (suc zero) h = refl
up-more zero (suc (suc b)) h = absurd (omega (arith, h))
up-more (suc zero) zero h = refl
up-more (suc zero) (suc zero) h = refl
up-more (suc zero) (suc (suc b)) h = absurd (omega (arith, h))
up-more (suc (suc a)) zero h = absurd (omega (arith, h))
up-more (suc (suc a)) (suc zero) h = absurd (omega (arith, h))
up-more (suc (suc a)) (suc (suc b)) h = grind arith

-- a stamp past the limit is missing
absent : (facts : List Fact) (s : ℕ) → AreWithin facts → STAMPS ≤ s → list_any (has_stamp s) facts ≡ false
absent [] s w h = refl
absent (Rec r ∷ facts) s w h =
    let other : nat_eq r.stamp s ≡ false = grind (arith, w.0.1) in
    rw (other, absent facts s w.1 h) refl
absent (End e ∷ facts) s w h = absent facts s w.1 h

pub missing_beyond : (facts : List Fact) (s : ℕ) → AreWithin facts → STAMPS ≤ s → is_missing facts s ≡ true
missing_beyond facts s w h = rw (absent facts s w h) refl

pub none_more : (t : ℕ → Bool) (n : ℕ) → ((m : ℕ) → m < n → t m ≡ false) → t n ≡ false → (m : ℕ) → m < n + 1 → t m ≡ false
none_more t n h e m lt = elim (split_last m n (omega arith)) [ inl below ↦ h m below | inr same ↦ rw (← same) e ]
