-- What is reported of the prefixes that a line rests on.
use Rattle.std.specs.Prelude.{◌≡◌, ◌↔◌, ℕ, ◌+◌, ◌<◌, ◌≤◌, Bool, true, false, IsTrue, List, [], ◌∷◌, ◌++◌, length}
use Rattle.std.specs.List.{Contains}
use Rattle.std.proofs.Common.{sym, subst, inl, inr, get_or, take}
use Rattle.std.proofs.lemmas.List.{take_more, take_all}
use Rattle.std.proofs.lemmas.List.Elements.{Contains-push_cases, Contains-get_or}
use Rattle.aud_event.specs.Meanings.{Declared}
use Rattle.aud_history.specs.Histories.{History}
use Rattle.aud_witness.specs.declared.decision.Decision.{Decision}
use Rattle.aud_witness.specs.Orders.{IsFull, IsGood, IsGoodNext}
use Rattle.aud_order.specs.Shapes.{ShapeOf, objects_of, history_of}
use Rattle.aud_order.specs.Kids.{AreKids}
use Rattle.cert_earlier.proofs.Placing.{no_decision}
use Rattle.cert_earlier.specs.Resting.{HasEarlierKids, HasSame}
use Rattle.cert_earlier.specs.OfShapes.{HasLines}

-- # Some first elements of a list

pub first-more : (P : Decision → Type 0) (ks : List Decision) (n : ℕ) → n < length ks → ((d : Decision) → Contains (take n ks) d → P d) → P (get_or ks n no_decision) →
    (d : Decision) → Contains (take (n + 1) ks) d → P d
first-more P ks n inside before here d member =
    elim (Contains-push_cases (take n ks) (get_or ks n no_decision) d (subst (λ (l : List Decision). Contains l d) (take_more ks n no_decision inside) member)) [
      | inl old ↦ before d old
      | inr same ↦ subst P same here
    ]

pub first-all : (P : Decision → Type 0) (ks : List Decision) (n : ℕ) → length ks ≤ n → ((d : Decision) → Contains (take n ks) d → P d) → (d : Decision) → Contains ks d → P d
first-all P ks n past all d member = all d (subst (λ (l : List Decision). Contains l d) (sym (take_all n ks past)) member)

pub here-in : (ks : List Decision) (n : ℕ) → n < length ks → Contains ks (get_or ks n no_decision)
here-in ks n inside = Contains-get_or ks n no_decision inside

-- # Kids

pub all-not : (seen : List (List Decision)) (p ks : List Decision) (n : ℕ) (next : List Decision) (b : Bool) → n < length ks → next ≡ p ++ get_or ks n no_decision ∷ [] →
    (IsTrue b ↔ Contains seen next) → b ≡ false → IsTrue false ↔ HasLines seen p ks
all-not seen p ks n next b inside is reported fails = (
  (λ e. absurd (cc)),
  λ all. let clash : b ≡ true = reported.1 (subst (λ (l : List Decision). Contains seen l) (sym is) (all (get_or ks n no_decision) (here-in ks n inside))) in absurd (cc),
)

pub all-more : (seen : List (List Decision)) (p ks : List Decision) (n : ℕ) (next : List Decision) (b : Bool) → n < length ks → next ≡ p ++ get_or ks n no_decision ∷ [] →
    (IsTrue b ↔ Contains seen next) → b ≡ true → HasLines seen p (take n ks) → HasLines seen p (take (n + 1) ks)
all-more seen p ks n next b inside is reported holds before =
    first-more (λ d. Contains seen (p ++ d ∷ [])) ks n inside before (subst (λ (l : List Decision). Contains seen l) is (reported.0 holds))

pub kids-reported : (objects : List Declared) (h : History) (seen : List (List Decision)) (path p kids ks : List Decision) (full has : Bool) → path ≡ p →
    (IsTrue full ↔ IsFull h path) → full ≡ false → AreKids objects h path kids → ks ≡ kids → (IsTrue has ↔ HasLines seen p ks) → IsTrue has ↔ HasEarlierKids objects h seen p
kids-reported objects h seen path p kids ks full has here is_full unfull are same reported = (
  (λ holds. record {
    unfull = λ whole. let clash : full ≡ true = is_full.1 (subst (λ l. IsFull h l) (sym here) whole) in absurd (cc);
    kids = λ d next. reported.0 holds d (subst (λ (l : List Decision). Contains l d) (sym same) ((are.each d).1 (subst (λ l. IsGoodNext objects h l d) (sym here) next)));
  }),
  λ holds. reported.1 (λ d member. holds.kids d (subst (λ l. IsGoodNext objects h l d) here ((are.each d).0 (subst (λ (l : List Decision). Contains l d) same member)))),
)

-- # Other lists

pub not-placed : (shape other : ShapeOf) (seen : List (List Decision)) (path p q : List Decision) (b : Bool) → other ≡ shape →
    ((l : List Decision) → Contains seen l → IsGood (objects_of shape) (history_of shape) l) → q ≡ p → (IsTrue b ↔ IsGood (objects_of other) (history_of other) q) → b ≡ false →
    IsTrue false ↔ HasSame (objects_of shape) (history_of shape) seen path p
not-placed shape other seen path p q b same goods is reported fails = (
  (λ e. absurd (cc)),
  λ has.
      let good : IsGood (objects_of other) (history_of other) q =
      subst (λ (s : ShapeOf). IsGood (objects_of s) (history_of s) q) (sym same) (subst (IsGood (objects_of shape) (history_of shape)) (sym is) (goods p has.line)) in
      let clash : b ≡ true = reported.1 good in absurd (cc),
)
