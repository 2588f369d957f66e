-- Facts in their order, by their places.
use Rattle.std.proofs.Common.{◌≡◌, ℕ, ◌<◌, ◌≤◌, ◌⊎◌, inl, inr, List, [], ◌∷◌, refl, ap, arith}
use Rattle.std.specs.Prelude.{⊤, Bool, true, false, ◌&&◌, ◌||◌, if◌then◌else◌, Option, Some, None, map, nat_lt, nat_le, nat_eq}
use Rattle.std.specs.List.{AllByRecursion, filter}
use Rattle.std.specs.declared.cmp.Ordering.{Ordering}
use Rattle.std.specs.declared.cmp.Ordering.TheVariants.{Less, Equal, Greater}
use Rattle.std.specs.Ordering.{nat_cmp, ordering_then, is_eq}
use Rattle.std.specs.Cmp.{tied_itself}
use Rattle.aud_event.specs.contracts.fact.FactOrd.TheImpl.Laws as fact_laws
use Rattle.std.specs.FinSet.{nat_cmp-IsAntisymmetric}
use Rattle.std.specs.List.Sorted.{IsStrictlySortedBy}
use Rattle.aud_event.specs.declared.fact.Record.{Record}
use Rattle.aud_event.specs.declared.fact.EndMark.{EndMark}
use Rattle.aud_event.specs.declared.fact.Fact.{Fact}
use Rattle.aud_event.specs.declared.fact.Fact.TheVariants.{Rec, End}
use Rattle.aud_event.specs.contracts.fact.FactOrd.TheImpl as fact
use Rattle.aud_facts.specs.Order.{AreOrdered}
use Rattle.aud_facts.specs.Clashes.{Place, place_of, is_same, lesser, least_with, least_place}
use Rattle.aud_facts.specs.Scans.{first_place}

-- of two facts, the second comes later
abbrev pub After : Fact → Fact → Type 0
After (Rec r) (Rec s) = ((r.log < s.log) ⊎ ((r.log ≡ s.log) × (r.at ≤ s.at))) × (is_same (Rec r) (Rec s) ≡ false)
After (Rec r) (End e) = ⊤
After (End e) (Rec r) = ⊥
After (End e) (End g) = (e.log < g.log) ⊎ ((e.log ≡ g.log) × (e.count < g.count))

abbrev pub Ordered : List Fact → Type 0
Ordered [] = ⊤
Ordered (x ∷ xs) = AllByRecursion (After x) xs × Ordered xs

nat_less : (a b : ℕ) → nat_cmp a b ≡ Less → a < b
nat_less a b e = grind (arith, e)

less_then : (a b : Ordering) → ordering_then a b ≡ Less → (a ≡ Less) ⊎ ((a ≡ Equal) × (b ≡ Less))
less_then Less b e = inl refl
less_then Equal b e = inr (refl, e)
less_then Greater b e = cc

at_most : (a b : ℕ) (o : Ordering) → (nat_cmp a b ≡ Less) ⊎ ((nat_cmp a b ≡ Equal) × (o ≡ Less)) → a ≤ b
at_most a b o (inl e) = let lt : a < b = nat_less a b e in omega arith
at_most a b o (inr e) = let same : a ≡ b = nat_cmp-IsAntisymmetric a b e.0 in omega arith

by_log : (a b x y : ℕ) (o : Ordering) → (nat_cmp a b ≡ Less) ⊎ ((nat_cmp a b ≡ Equal) × (ordering_then (nat_cmp x y) o ≡ Less)) → (a < b) ⊎ ((a ≡ b) × (x ≤ y))
by_log a b x y o (inl e) = inl (nat_less a b e)
by_log a b x y o (inr e) = inr (nat_cmp-IsAntisymmetric a b e.0, at_most x y o (less_then (nat_cmp x y) o e.1))

by_count : (a b x y : ℕ) → (nat_cmp a b ≡ Less) ⊎ ((nat_cmp a b ≡ Equal) × (nat_cmp x y ≡ Less)) → (a < b) ⊎ ((a ≡ b) × (x < y))
by_count a b x y (inl e) = inl (nat_less a b e)
by_count a b x y (inr e) = inr (nat_cmp-IsAntisymmetric a b e.0, nat_less x y e.1)

after : (x y : Fact) → fact.ghosts.cmp x y ≡ Less → After x y
after (Rec r) (Rec s) e = (by_log r.log s.log r.at s.at _ (less_then (nat_cmp r.log s.log) _ e), ap is_eq e)
after (Rec r) (End g) e = tt
after (End g) (Rec s) e = cc
after (End g) (End h) e = by_count g.log h.log g.count h.count (less_then (nat_cmp g.log h.log) (nat_cmp g.count h.count) e)

after_all : (x : Fact) (ys : List Fact) → AllByRecursion (λ y. fact.ghosts.cmp x y ≡ Less) ys → AllByRecursion (After x) ys
after_all x [] h = tt
after_all x (y ∷ ys) h = (after x y h.0, after_all x ys h.1)

pub ordered : (xs : List Fact) → AreOrdered xs → Ordered xs
unfolding IsStrictlySortedBy
ordered [] o = tt
ordered (x ∷ xs) o = (after_all x xs o.0, ordered xs o.1)

pub same_self : (x : Fact) → is_same x x ≡ true
same_self x = ap is_eq (tied_itself fact_laws.total-law x)

-- The least place of those that pass is that of the first.

lesser_first : (b : Bool) (p q : Place) → b ≡ true → (if b then p else q) ≡ p
lesser_first true p q e = refl
lesser_first false p q e = cc

lesser_is : (a b x y : ℕ) → (a < b) ⊎ ((a ≡ b) × (x ≤ y)) → lesser (a, x) (b, y) ≡ (a, x)
lesser_is a b x y h = lesser_first (nat_lt a b || (nat_eq a b && nat_le x y)) (a, x) (b, y) (grind (arith, h))

abbrev pub IsOfOne : (Fact → Bool) → Type 0
IsOfOne t = ((e : EndMark) → t (End e) ≡ false) ⊎ ((r : Record) → t (Rec r) ≡ false)

weaker : (e g : EndMark) → (e.log < g.log) ⊎ ((e.log ≡ g.log) × (e.count < g.count)) → (e.log < g.log) ⊎ ((e.log ≡ g.log) × (e.count ≤ g.count))
weaker e g (inl h) = inl h
weaker e g (inr h) = inr (h.0, omega arith)

lesser_of : (t : Fact → Bool) (x y : Fact) → IsOfOne t → After x y → t x ≡ true → t y ≡ true → lesser (place_of x) (place_of y) ≡ place_of x
lesser_of t (Rec r) (Rec s) one a ex ey = lesser_is r.log s.log r.at s.at a.0
lesser_of t (Rec r) (End e) (inl h) a ex ey = let no_end : t (End e) ≡ false = h e in cc
lesser_of t (Rec r) (End e) (inr h) a ex ey = let no_record : t (Rec r) ≡ false = h r in cc
lesser_of t (End e) (Rec r) one a ex ey = absurd a
lesser_of t (End e) (End g) one a ex ey = lesser_is e.log g.log e.count g.count (weaker e g a)

least_step : (p q : Place) (z : Option Place) → lesser p q ≡ p → least_with p z ≡ Some p → least_with p (least_with q z) ≡ Some p
least_step p q None h e = ap Some h
least_step p q (Some z) h e = pick (nat_lt q.0 z.0 || (nat_eq q.0 z.0 && nat_le q.1 z.1))
  where
    pick : (b : Bool) → Some (lesser p (if b then q else z)) ≡ Some p
    pick true = ap Some h
    pick false = e

least_all : (p : Place) (ps : List Place) → AllByRecursion (λ q. lesser p q ≡ p) ps → least_with p (least_place ps) ≡ Some p
least_all p [] h = refl
least_all p (q ∷ qs) h = least_step p q (least_place qs) h.0 (least_all p qs h.1)

passed_step : (t : Fact → Bool) (x y : Fact) (zs : List Fact) (b : Bool) → t y ≡ b → (t y ≡ true → lesser (place_of x) (place_of y) ≡ place_of x) →
    AllByRecursion (λ q. lesser (place_of x) q ≡ place_of x) (map place_of zs) →
    AllByRecursion (λ q. lesser (place_of x) q ≡ place_of x) (map place_of (if b then y ∷ zs else zs))
passed_step t x y zs true e h rest = (h e, rest)
passed_step t x y zs false e h rest = rest

passed : (t : Fact → Bool) (x : Fact) (ys : List Fact) → IsOfOne t → t x ≡ true → AllByRecursion (After x) ys → AllByRecursion (λ q. lesser (place_of x) q ≡ place_of x) (map place_of (filter t ys))
passed t x [] one ex a = tt
passed t x (y ∷ ys) one ex a = passed_step t x y (filter t ys) (t y) refl (λ ey. lesser_of t x y one a.0 ex ey) (passed t x ys one ex a.1)

first_step : (t : Fact → Bool) (x : Fact) (ys : List Fact) (b : Bool) → t x ≡ b → (t x ≡ true → least_with (place_of x) (least_place (map place_of ys)) ≡ Some (place_of x)) →
    (o : Option Place) → least_place (map place_of ys) ≡ o →
    least_place (map place_of (if b then x ∷ ys else ys)) ≡ (if b then Some (place_of x) else o)
first_step t x ys true e h o rest = h e
first_step t x ys false e h o rest = rest

pub first_is_least : (t : Fact → Bool) (xs : List Fact) → IsOfOne t → Ordered xs → least_place (map place_of (filter t xs)) ≡ first_place t xs
first_is_least t [] one o = refl
first_is_least t (x ∷ xs) one o =
    first_step t x (filter t xs) (t x) refl (λ e. least_all (place_of x) (map place_of (filter t xs)) (passed t x xs one e o.0)) (first_place t xs) (first_is_least t xs one o.1)
