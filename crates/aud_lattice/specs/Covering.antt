-- Covers in normal form.
use Rattle.std.proofs.Common.{◌≡◌, Bool, true, false, ◌||◌, ◌&&◌, List, [], ◌∷◌, refl, sym, ap, subst, ◌∙◌, inl, inr, ◌≢◌}
use mathlib.Core.Bool.{true≢false}
use Rattle.std.specs.declared.cmp.Ordering.{Ordering}
use Rattle.std.specs.declared.cmp.Ordering.TheVariants.{Less, Equal, Greater}
use Rattle.std.specs.Ordering.{is_eq, ordering_reverse, ordering_then}
use Rattle.std.specs.Cmp.{IsTotalOrder, alike_right, tied_itself, tied_back, Equal-is}
use Rattle.std.specs.Cmp.Lexicographic.{slice_cmp}
use Rattle.std.specs.List.{list_any, AllByRecursion}
use Rattle.std.specs.List.Sorted.{IsStrictlySortedBy}
use Rattle.std.proofs.lemmas.Bool.{and_parts, and_from, cases_Bool, cond_both}
use Rattle.base_values.specs.Exact.{IsExact}
use Rattle.aud_lattice.specs.Covers.{cover_cmp, begins, IsCover, covers, with_list, cover_union}
use Rattle.base_sorted.specs.Sorted.{three_ways}
use Rattle.base_values.proofs.Bools.{or_assoc, or_swap}

-- a test that another test passes too adds nothing
absorbed : (a b c : Bool) → (a ≡ true → b ≡ true) → (b || c) ≡ (a || (b || c))
absorbed true true c h = refl
absorbed true false c h = absurd (true≢false (sym (h refl)))
absorbed false b c h = refl

pub Less≢Equal : Less ≢ Equal
Less≢Equal e = cc

reverse_then : (a b : Ordering) → ordering_reverse (ordering_then a b) ≡ ordering_then (ordering_reverse a) (ordering_reverse b)
reverse_then Less b = refl
reverse_then Equal b = refl
reverse_then Greater b = refl

module _ {D : Type 0} {R : D → D → Ordering} (o : IsTotalOrder R) where
  abbrev C : List D → List D → Ordering
  C = cover_cmp R

  pub turned_back : (x y : List D) → C x y ≡ ordering_reverse (C y x)
  turned_back [] [] = refl
  turned_back [] (y ∷ ys) = refl
  turned_back (x ∷ xs) [] = refl
  turned_back (x ∷ xs) (y ∷ ys) = (λ i. ordering_then (o.antisymm x y i) (turned_back xs ys i)) ∙ sym (reverse_then (R y x) (C ys xs))

  pub less_trans : (x y z : List D) → C x y ≡ Less → C y z ≡ Less → C x z ≡ Less
  less_trans [] y z e f = absurd (Less≢Equal (sym e))
  less_trans (x ∷ xs) [] z e f = absurd (Less≢Equal (sym e))
  less_trans (x ∷ xs) (y ∷ ys) [] e f = absurd (Less≢Equal (sym f))
  less_trans (x ∷ xs) (y ∷ ys) (z ∷ zs) e f =
      elim (R x y) as (λ r. R x y ≡ r → ordering_then r (C xs ys) ≡ Less → C (x ∷ xs) (z ∷ zs) ≡ Less) [
        | Less ↦ λ p _. elim (R y z) as (λ r. R y z ≡ r → ordering_then r (C ys zs) ≡ Less → C (x ∷ xs) (z ∷ zs) ≡ Less) [
          | Less ↦ λ q _. ap (λ r. ordering_then r (C xs zs)) (o.trans x y z p q)
          | Equal ↦ λ q _. ap (λ r. ordering_then r (C xs zs)) (sym (alike_right o y z x q) ∙ p)
          | Greater ↦ λ q h. cc
        ] refl f
        | Equal ↦ λ p tails. elim (R y z) as (λ r. R y z ≡ r → ordering_then r (C ys zs) ≡ Less → C (x ∷ xs) (z ∷ zs) ≡ Less) [
          | Less ↦ λ q _. ap (λ r. ordering_then r (C xs zs)) (o.congr x y z p ∙ q)
          | Equal ↦ λ q more. ap (λ r. ordering_then r (C xs zs)) (o.congr x y z p ∙ q) ∙ less_trans xs ys zs tails more
          | Greater ↦ λ q h. cc
        ] refl f
        | Greater ↦ λ p h. cc
      ] refl e

  pub begins_itself : (p : List D) → begins R p p ≡ true
  begins_itself [] = refl
  begins_itself (x ∷ p) = and_from (is_eq (R x x)) (begins R p p) (ap is_eq (tied_itself o x)) (begins_itself p)

  tie : (x y : D) → is_eq (R x y) ≡ true → R x y ≡ Equal
  tie x y e = (Equal-is (R x y)).0 e

  pub begins_trans : (p q r : List D) → begins R p q ≡ true → begins R q r ≡ true → begins R p r ≡ true
  begins_trans [] q r e f = refl
  begins_trans (x ∷ p) [] r e f = absurd (true≢false (sym e))
  begins_trans (x ∷ p) (y ∷ q) [] e f = absurd (true≢false (sym f))
  begins_trans (x ∷ p) (y ∷ q) (z ∷ r) e f =
      let a = and_parts (is_eq (R x y)) (begins R p q) e in
      let b = and_parts (is_eq (R y z)) (begins R q r) f in
      and_from (is_eq (R x z)) (begins R p r) (ap is_eq (o.congr x y z (tie x y a.0)) ∙ b.0) (begins_trans p q r a.1 b.1)

  -- a beginning ties with what it begins
  pub begins_ties : (p q : List D) → begins R p q ≡ true → C p q ≡ Equal
  begins_ties [] q e = refl
  begins_ties (x ∷ p) [] e = refl
  begins_ties (x ∷ p) (y ∷ q) e = let a = and_parts (is_eq (R x y)) (begins R p q) e in (λ i. ordering_then (tie x y a.0 i) (C p q)) ∙ begins_ties p q a.1

  pub begun_ties : (p q : List D) → begins R p q ≡ true → C q p ≡ Equal
  begun_ties p q e = turned_back q p ∙ ap ordering_reverse (begins_ties p q e)

  -- of two that tie, one begins the other
  pub one_begins : (p q : List D) → C p q ≡ Equal → begins R p q ≡ false → begins R q p ≡ true
  one_begins [] q e f = absurd (true≢false f)
  one_begins (x ∷ p) [] e f = refl
  one_begins (x ∷ p) (y ∷ q) e f =
      elim (R x y) as (λ r. R x y ≡ r → ordering_then r (C p q) ≡ Equal → (is_eq r && begins R p q) ≡ false → begins R (y ∷ q) (x ∷ p) ≡ true) [
        | Less ↦ λ h e f. cc
        | Equal ↦ λ h e f. and_from (is_eq (R y x)) (begins R q p) (ap is_eq (tied_back o x y h)) (one_begins p q e f)
        | Greater ↦ λ h e f. cc
      ] refl e f

  -- two beginnings of one list tie
  pub both_begin : (p q r : List D) → begins R p r ≡ true → begins R q r ≡ true → C p q ≡ Equal
  both_begin [] q r e f = refl
  both_begin (x ∷ p) [] r e f = refl
  both_begin (x ∷ p) (y ∷ q) [] e f = absurd (true≢false (sym e))
  both_begin (x ∷ p) (y ∷ q) (z ∷ r) e f =
      let a = and_parts (is_eq (R x z)) (begins R p r) e in
      let b = and_parts (is_eq (R y z)) (begins R q r) f in
      ap (λ w. ordering_then w (C p q)) (alike_right o y z x (tie y z b.0) ∙ tie x z a.0) ∙ both_begin p q r a.1 b.1

  -- two lists that begin each other are one
  pub same_list : IsExact R → (p q : List D) → begins R p q ≡ true → begins R q p ≡ true → p ≡ q
  same_list ex [] [] e f = refl
  same_list ex [] (y ∷ q) e f = absurd (true≢false (sym f))
  same_list ex (x ∷ p) [] e f = absurd (true≢false (sym e))
  same_list ex (x ∷ p) (y ∷ q) e f =
      let a = and_parts (is_eq (R x y)) (begins R p q) e in
      let b = and_parts (is_eq (R y x)) (begins R q p) f in
      λ i. ex x y (tie x y a.0) i ∷ same_list ex p q a.1 b.1 i

  abbrev pub Under : List D → List (List D) → Type 0
  Under p ps = AllByRecursion (λ q. C p q ≡ Less) ps

  pub Under-less : (p q : List D) (ps : List (List D)) → C p q ≡ Less → Under q ps → Under p ps
  Under-less p q [] e u = tt
  Under-less p q (r ∷ ps) e u = (less_trans p q r e u.0, Under-less p q ps e u.1)

  Under-with_list : (p q : List D) (ps : List (List D)) → C p q ≡ Less → Under p ps → Under p (with_list R q ps)
  Under-with_list p q [] e u = (e, tt)
  Under-with_list p q (r ∷ ps) e u =
      three_ways (Under p) (C q r) _ _ _
      (λ _. (e, u))
      (λ _. cond_both (begins R r q) (r ∷ ps) (with_list R q ps) (Under p) (λ _. u) (λ _. Under-with_list p q ps e u.1))
      (λ _. (u.0, Under-with_list p q ps e u.1))

  pub Under-union : (p : List D) (ps qs : List (List D)) → Under p ps → Under p qs → Under p (cover_union R ps qs)
  Under-union p [] qs u v = v
  Under-union p (r ∷ ps) qs u v = Under-with_list p r (cover_union R ps qs) u.0 (Under-union p ps qs u.1 v)

  pub turned : (p q : List D) → C p q ≡ Greater → C q p ≡ Less
  turned p q e = turned_back q p ∙ ap ordering_reverse e

  pub cover_with_list : (q : List D) (ps : List (List D)) → IsCover R ps → IsCover R (with_list R q ps)
  unfolding IsStrictlySortedBy
  cover_with_list q [] s = (tt, tt)
  cover_with_list q (p ∷ ps) s =
      three_ways (IsCover R) (C q p) _ _ _
      (λ e. ((e, Under-less q p ps e s.0), s))
      (λ e. cond_both (begins R p q) (p ∷ ps) (with_list R q ps) (IsCover R) (λ _. s) (λ _. cover_with_list q ps s.1))
      (λ e. (Under-with_list p q ps (turned q p e) s.0, cover_with_list q ps s.1))

  pub cover_cover_union : (ps qs : List (List D)) → IsCover R qs → IsCover R (cover_union R ps qs)
  cover_cover_union [] qs s = s
  cover_cover_union (p ∷ ps) qs s = cover_with_list p _ (cover_cover_union ps qs s)

  pub covers-with_list : (q : List D) (ps : List (List D)) (r : List D) → covers R (with_list R q ps) r ≡ (begins R q r || covers R ps r)
  covers-with_list q [] r = refl
  covers-with_list q (p ∷ ps) r =
      three_ways (λ l. covers R l r ≡ (begins R q r || covers R (p ∷ ps) r)) (C q p) _ _ _
      (λ e. refl)
      (λ e. cond_both (begins R p q) (p ∷ ps) (with_list R q ps) (λ l. covers R l r ≡ (begins R q r || covers R (p ∷ ps) r))
      (λ shorter. absorbed (begins R q r) (begins R p r) (covers R ps r) (λ f. begins_trans p q r shorter f))
      (λ longer. covers-with_list q ps r ∙ absorbed (begins R p r) (begins R q r) (covers R ps r) (λ f. begins_trans q p r (one_begins p q (turned_back p q ∙ ap ordering_reverse e) longer) f) ∙ or_swap (begins R p r) (begins R q r) (covers R ps r)))
      (λ e. ap (λ b. begins R p r || b) (covers-with_list q ps r) ∙ or_swap (begins R p r) (begins R q r) (covers R ps r))

  pub covers-cover_union : (ps qs : List (List D)) (r : List D) → covers R (cover_union R ps qs) r ≡ (covers R ps r || covers R qs r)
  covers-cover_union [] qs r = refl
  covers-cover_union (p ∷ ps) qs r = covers-with_list p (cover_union R ps qs) r ∙ ap (λ b. begins R p r || b) (covers-cover_union ps qs r) ∙ sym (or_assoc (begins R p r) (covers R ps r) (covers R qs r))

  not_true : (b : Bool) → (b ≡ true → ⊥) → b ≡ false
  not_true true h = absurd (h refl)
  not_true false h = refl

  none_of : (p : List D) (l : List (List D)) (t : List D → Bool) → ((q : List D) → C p q ≡ Less → t q ≡ false) → Under p l → list_any t l ≡ false
  none_of p [] t h u = refl
  none_of p (q ∷ l) t h u = (λ i. h q u.0 i || list_any t l) ∙ none_of p l t h u.1

  -- what lies under a cover has no beginning in it
  pub uncovered_under : (p : List D) (ps : List (List D)) → Under p ps → covers R ps p ≡ false
  uncovered_under p ps u = none_of p ps (λ q. begins R q p) (λ q e. not_true (begins R q p) (λ f. Less≢Equal (sym e ∙ begun_ties q p f))) u

  -- nor has anything that begins it
  pub uncovered_above : (p q : List D) (ps : List (List D)) → Under p ps → begins R q p ≡ true → covers R ps q ≡ false
  uncovered_above p q ps u h = none_of p ps (λ r. begins R r q) (λ r e. not_true (begins R r q) (λ f. Less≢Equal (sym e ∙ begun_ties r p (begins_trans r q p f h)))) u

  -- nor anything that it begins
  pub uncovered_below : (p q : List D) (ps : List (List D)) → Under p ps → begins R p q ≡ true → covers R ps q ≡ false
  uncovered_below p q ps u h = none_of p ps (λ r. begins R r q) (λ r e. not_true (begins R r q) (λ f. Less≢Equal (sym e ∙ both_begin p r q h f))) u

  first_there : (p : List D) (ps : List (List D)) → covers R (p ∷ ps) p ≡ true
  first_there p ps = ap (λ b. b || covers R ps p) (begins_itself p)

  pub or_of_false : (a b : Bool) → a ≡ false → (a || b) ≡ true → b ≡ true
  or_of_false true b e f = absurd (true≢false e)
  or_of_false false b e f = f

  -- the first of the one is begun by the first of the other
  first_begun : (p q : List D) (ps qs : List (List D)) → Under p ps → C p q ≡ Equal → ((r : List D) → covers R (p ∷ ps) r ≡ covers R (q ∷ qs) r) → begins R p q ≡ true
  first_begun p q ps qs u e same =
      elim (cases_Bool (begins R p q)) [
        | inl begun ↦ begun
        | inr apart ↦ absurd (true≢false (sym (or_of_false (begins R p q) (covers R ps q) apart (same q ∙ first_there q qs)) ∙ uncovered_above p q ps u (one_begins p q e apart)))
      ]

  rest_same : (p : List D) (ps qs : List (List D)) → Under p ps → Under p qs → ((r : List D) → covers R (p ∷ ps) r ≡ covers R (p ∷ qs) r) → (r : List D) → covers R ps r ≡ covers R qs r
  rest_same p ps qs u v same r =
      elim (cases_Bool (begins R p r)) [
        | inl begun ↦ uncovered_below p r ps u begun ∙ sym (uncovered_below p r qs v begun)
        | inr apart ↦ (λ i. sym apart i || covers R ps r) ∙ same r ∙ (λ i. apart i || covers R qs r)
      ]

  -- two covers that cover the same are one
  pub same_cover : IsExact R → (ps qs : List (List D)) → IsCover R ps → IsCover R qs → ((r : List D) → covers R ps r ≡ covers R qs r) → ps ≡ qs
  unfolding IsStrictlySortedBy
  same_cover ex [] [] s t same = refl
  same_cover ex [] (q ∷ qs) s t same = absurd (true≢false (sym (first_there q qs) ∙ sym (same q)))
  same_cover ex (p ∷ ps) [] s t same = absurd (true≢false (sym (first_there p ps) ∙ same p))
  same_cover ex (p ∷ ps) (q ∷ qs) s t same =
      elim (C p q) as (λ r. C p q ≡ r → p ∷ ps ≡ q ∷ qs) [
        | Less ↦ λ e. absurd (true≢false (sym (first_there p ps) ∙ same p ∙ uncovered_under p (q ∷ qs) (e, Under-less p q qs e t.0)))
        | Equal ↦ λ e.
            let heads = same_list ex p q (first_begun p q ps qs s.0 e same) (first_begun q p qs ps t.0 (turned_back q p ∙ ap ordering_reverse e) (λ r. sym (same r))) in
            let under : Under p qs = subst (λ z. Under z qs) (sym heads) t.0 in
            let tails = same_cover ex ps qs s.1 t.1 (rest_same p ps qs s.0 under (λ r. same r ∙ ap (λ z. covers R (z ∷ qs) r) (sym heads))) in
            λ i. heads i ∷ tails i
        | Greater ↦ λ e. absurd (true≢false (sym (first_there q qs) ∙ sym (same q) ∙ uncovered_under q (p ∷ ps) (turned p q e, Under-less q p ps (turned p q e) s.0)))
      ] refl

  less_first : (p q : List D) → C p q ≡ Less → slice_cmp R p q ≡ Less
  less_first [] q e = absurd (Less≢Equal (sym e))
  less_first (x ∷ p) [] e = absurd (Less≢Equal (sym e))
  less_first (x ∷ p) (y ∷ q) e =
      elim (R x y) as (λ r. ordering_then r (C p q) ≡ Less → ordering_then r (slice_cmp R p q) ≡ Less) [
        | Less ↦ λ _. refl
        | Equal ↦ λ h. less_first p q h
        | Greater ↦ λ h. cc
      ] e

  -- a cover stands by the first element that differs
  pub cover_sorted : (ps : List (List D)) → IsCover R ps → IsStrictlySortedBy (slice_cmp R) ps
  unfolding IsStrictlySortedBy
  cover_sorted [] s = tt
  cover_sorted (p ∷ ps) s = (below ps s.0, cover_sorted ps s.1)
    where
      below : (qs : List (List D)) → Under p qs → AllByRecursion (λ q. slice_cmp R p q ≡ Less) qs
      below [] u = tt
      below (q ∷ qs) u = (less_first p q u.0, below qs u.1)
