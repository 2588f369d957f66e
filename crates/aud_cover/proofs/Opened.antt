-- Which prefixes are open, and how they gather.
use Rattle.std.specs.Prelude.{◌≡◌, ◌⊎◌, ℕ, zero, suc, ◌+◌, ◌<◌, ◌≤◌, List, [], ◌∷◌, ◌++◌, length, refl}
use Rattle.std.specs.List.{Contains, AllByRecursion}
use Rattle.std.specs.List.Sorted.{IsStrictlySortedBy}
use Rattle.std.specs.Cmp.Lexicographic.{slice_cmp}
use Rattle.std.specs.Cmp.{tied_itself}
use Rattle.std.specs.Ordering.{ordering_then}
use Rattle.std.specs.declared.cmp.Ordering.TheVariants.{Less}
use Rattle.std.proofs.Common.{sym, ◌∙◌, ap, subst, inl, inr, arith, get_or, append_assoc, length-append}
use Rattle.std.proofs.lemmas.List.{append-nil}
use Rattle.std.proofs.lemmas.List.Elements.{Contains-append_cases, Contains-append_left, Contains-append_right}
use Rattle.aud_event.specs.Meanings.{Declared}
use Rattle.aud_history.specs.Histories.{History}
use Rattle.aud_witness.specs.declared.decision.Decision.{Decision}
use Rattle.aud_witness.specs.DecisionOrder.{decision_cmp, decisions_total}
use Rattle.aud_witness.specs.Prefixes.{BeginsWith}
use Rattle.aud_witness.specs.Orders.{IsFull, IsGood, IsGoodNext}
use Rattle.aud_witness.proofs.Good.{IsGood-last, IsGood-beginning}
use Rattle.aud_order.specs.Kids.{AreKids}
use Rattle.aud_order.specs.Shapes.{ShapeOf, objects_of, history_of}
use Rattle.aud_order.specs.Cursors.{CursorOf}
use Rattle.aud_cover.specs.Closings.{IsCovered, IsInside}
use Rattle.aud_cover.specs.Openings.{IsReached, IsOpen, AreOpen, AreAdded}
use Rattle.aud_cover.proofs.Steps.{no_decision}
use Rattle.aud_cover.proofs.Distinct.{kids-rise}

-- # Beginnings

-- what a prefix with one more at its end begins with, the prefix begins with
last-split : (p q : List Decision) (d e : Decision) (rest : List Decision) → p ++ d ∷ rest ≡ q ++ e ∷ [] → BeginsWith p q
last-split [] q d e rest is = (q, refl)
last-split (x ∷ p) [] d e rest is =
    let long : length (x ∷ (p ++ d ∷ rest)) ≡ 1 = ap length is in
    let more : length (p ++ d ∷ rest) ≡ length p + length (d ∷ rest) = length-append p (d ∷ rest) in
    absurd (omega arith)
last-split (x ∷ p) (y ∷ q) d e rest is =
    let head : x ≡ y = cc in
    let tail : p ++ d ∷ rest ≡ q ++ e ∷ [] = cc in
    let (s, so) = last-split p q d e rest tail in
    (s, λ i. sym head i ∷ so i)

inside-beginning : (cover : List (List Decision)) (p q : List Decision) → BeginsWith p q → IsInside cover q → IsInside cover p
inside-beginning cover p q (rest, is) (d, (more, member)) =
    go rest (subst (λ l. Contains cover l) (ap (λ l. l ++ d ∷ more) is ∙ append_assoc p rest (d ∷ more)) member)
  where
    go : (s : List Decision) → Contains cover (p ++ (s ++ d ∷ more)) → IsInside cover p
    go [] there = (d, (more, there))
    go (e ∷ s) there = (e, (s ++ d ∷ more, there))

pub covered-longer : (cover : List (List Decision)) (p q : List Decision) → BeginsWith p q → IsCovered cover p → IsCovered cover q
covered-longer cover p q (rest, is) (m, (more, (member, so))) =
    (m, (more ++ rest, (member, is ∙ ap (λ l. l ++ rest) so ∙ append_assoc m more rest)))

pub begins-itself : (p : List Decision) → BeginsWith p p
begins-itself p = ([], sym (append-nil p))

-- lists of which the first that differ rise
pub begins-less : (p x y : List Decision) (d e : Decision) → decision_cmp d e ≡ Less → BeginsWith (p ++ d ∷ []) x → BeginsWith (p ++ e ∷ []) y → slice_cmp decision_cmp x y ≡ Less
begins-less p x y d e less (r, is) (s, so) =
    (λ i. slice_cmp decision_cmp ((is ∙ append_assoc p (d ∷ []) r) i) ((so ∙ append_assoc p (e ∷ []) s) i)) ∙ alike p
  where
    alike : (p : List Decision) → slice_cmp decision_cmp (p ++ d ∷ r) (p ++ e ∷ s) ≡ Less
    alike [] = ap (λ o. ordering_then o (slice_cmp decision_cmp r s)) less
    alike (z ∷ p) = ap (λ o. ordering_then o (slice_cmp decision_cmp (p ++ d ∷ r) (p ++ e ∷ s))) (tied_itself decisions_total z) ∙ alike p

-- # Strictly sorted lists

abbrev Lists : Type 0
Lists = List (List Decision)

below-append : (x : List Decision) (xs ys : Lists) → AllByRecursion (λ y. slice_cmp decision_cmp x y ≡ Less) xs → ((y : List Decision) → Contains ys y → slice_cmp decision_cmp x y ≡ Less) →
    AllByRecursion (λ y. slice_cmp decision_cmp x y ≡ Less) (xs ++ ys)
below-append x [] [] all low = tt
below-append x [] (y ∷ ys) all low = (low y (0, omega arith, refl), below-append x [] ys all (λ z (k, inside, is). low z (suc k, omega arith, is)))
below-append x (z ∷ xs) ys all low = (all.0, below-append x xs ys all.1 low)

pub sorted-append : (xs ys : Lists) → IsStrictlySortedBy (slice_cmp decision_cmp) xs → IsStrictlySortedBy (slice_cmp decision_cmp) ys →
    ((x y : List Decision) → Contains xs x → Contains ys y → slice_cmp decision_cmp x y ≡ Less) → IsStrictlySortedBy (slice_cmp decision_cmp) (xs ++ ys)
unfolding IsStrictlySortedBy
sorted-append [] ys s t low = t
sorted-append (x ∷ xs) ys s t low = (
  below-append x xs ys s.0 (λ y member. low x y (0, omega arith, refl) member),
  sorted-append xs ys s.1 t (λ z y (k, inside, is) member. low z y (suc k, omega arith, is) member),
)

pub sorted-none : IsStrictlySortedBy (slice_cmp decision_cmp) []
unfolding IsStrictlySortedBy
sorted-none = tt

pub sorted-one : (p : List Decision) → IsStrictlySortedBy (slice_cmp decision_cmp) (p ∷ [])
unfolding IsStrictlySortedBy
sorted-one p = (tt, tt)

pub none_there : (q : List Decision) → Contains [] q → ⊥
none_there q (k, inside, is) = absurd (omega arith)

pub only_there : (p q : List Decision) → Contains (p ∷ []) q → p ≡ q
only_there p q (zero, inside, is) = is
only_there p q (suc k, inside, is) = absurd (omega arith)

module _ (objects : List Declared) (h : History) (cover : Lists) where
  -- of an open prefix, what it is longer than is inside
  open-inside : (p : List Decision) (d : Decision) (rest : List Decision) → IsOpen objects h cover (p ++ d ∷ rest) → IsInside cover p
  open-inside p d rest open_it = go open_it.reached
    where
      go : IsReached objects h cover (p ++ d ∷ rest) → IsInside cover p
      go (inl empty) =
          let long : length (p ++ d ∷ rest) ≡ 0 = ap length empty in
          let more : length (p ++ d ∷ rest) ≡ length p + length (d ∷ rest) = length-append p (d ∷ rest) in
          absurd (omega arith)
      go (inr (q, (e, (is, inner)))) = inside-beginning cover p q (last-split p q d e rest is) inner.inside

  -- # At one prefix

  added-none : (p : List Decision) (old : Lists) → ((q : List Decision) → IsOpen objects h cover q → BeginsWith p q → ⊥) → AreAdded objects h cover p old old
  added-none p old none = record {
    more = [];
    grown = sym (append-nil old);
    each = λ q. ((λ member. absurd (none_there q member)), λ is. absurd (none q is.0 is.1));
    rising = sorted-none;
  }

  pub added-covered : (p : List Decision) (old : Lists) → IsCovered cover p → AreAdded objects h cover p old old
  added-covered p old there = added-none p old (λ q it begins. it.uncovered (covered-longer cover p q begins there))

  pub added-outside : (p : List Decision) (old new : Lists) (one : List Decision) → IsGood objects h p → IsReached objects h cover p → (IsCovered cover p → ⊥) × (IsInside cover p → ⊥) →
      one ≡ p → new ≡ old ++ one ∷ [] → AreAdded objects h cover p old new
  added-outside p old new one good reached none same is = record {
    more = p ∷ [];
    grown = is ∙ ap (λ l. old ++ l ∷ []) same;
    each = λ q. (
      (λ member. subst (λ l. IsOpen objects h cover l × BeginsWith p l) (only_there p q member) (
        record { good = good; uncovered = none.0; outside = none.1; reached = reached },
        begins-itself p,
      )),
      (λ both. go q both.1.0 both.0 both.1.1),
    );
    rising = sorted-one p;
  }
    where
      go : (q rest : List Decision) → IsOpen objects h cover q → q ≡ p ++ rest → Contains (p ∷ []) q
      go q [] it so = (0, omega arith, sym (append-nil p) ∙ sym so)
      go q (d ∷ rest) it so = absurd (none.1 (open-inside p d rest (subst (λ l. IsOpen objects h cover l) so it)))

  -- below a full prefix is nothing
  full_next : (p : List Decision) (d : Decision) → IsFull h p → IsGoodNext objects h p d → ⊥
  full_next p d full next = let named = full.same d.tx ∙ next.in_history in let new = next.new in absurd (cc)

  pub added-full : (p : List Decision) (old : Lists) → (IsCovered cover p → ⊥) × IsInside cover p → IsFull h p → AreAdded objects h cover p old old
  added-full p old inner full = added-none p old (λ q it begins. go q begins.0 it begins.1)
    where
      go : (q rest : List Decision) → IsOpen objects h cover q → q ≡ p ++ rest → ⊥
      go q [] it so = it.outside (subst (λ l. IsInside cover l) (sym (append-nil p) ∙ sym so) inner.1)
      go q (d ∷ rest) it so =
          full_next p d full (IsGood-last objects h p d (IsGood-beginning objects h (p ++ d ∷ []) rest
          (subst (λ l. IsGood objects h l) (so ∙ sym (append_assoc p (d ∷ []) rest)) it.good)))

  -- # Over the kids

  -- what was added for the first kids
  pub record AreGathered (p : List Decision) (ks : List Decision) (n : ℕ) (old new : Lists) : Type 0 where
    pub more : Lists
    pub grown : new ≡ old ++ more
    pub from : (q : List Decision) → Contains more q → IsOpen objects h cover q × ((k : ℕ) × ((k < n) × ((k < length ks) × BeginsWith (p ++ get_or ks k no_decision ∷ []) q)))
    pub whole : (q : List Decision) (k : ℕ) → k < n → k < length ks → IsOpen objects h cover q → BeginsWith (p ++ get_or ks k no_decision ∷ []) q → Contains more q
    pub rising : IsStrictlySortedBy (slice_cmp decision_cmp) more

  pub gathered-none : (p ks : List Decision) (old : Lists) → AreGathered p ks 0 old old
  gathered-none p ks old = record {
    more = [];
    grown = sym (append-nil old);
    from = λ q member. absurd (none_there q member);
    whole = λ q k before inside it begins. absurd (omega arith);
    rising = sorted-none;
  }

  pub gathered-more : (p ks : List Decision) (n : ℕ) (old mid new : Lists) → AreKids objects h p ks → n < length ks → AreGathered p ks n old mid →
      AreAdded objects h cover (p ++ get_or ks n no_decision ∷ []) mid new → AreGathered p ks (n + 1) old new
  gathered-more p ks n old mid new kids inside before added = record {
    more = before.more ++ added.more;
    grown = added.grown ∙ ap (λ l. l ++ added.more) before.grown ∙ append_assoc old before.more added.more;
    from = λ q member. elim (Contains-append_cases before.more added.more q member) [
      | inl first ↦ let (it, (k, (low, (there, begins)))) = before.from q first in (it, (k, (omega arith, (there, begins))))
      | inr second ↦ let both = (added.each q).0 second in (both.0, (n, (omega arith, (inside, both.1))))
    ];
    whole = λ q k low there it begins. elim (cases_last k) [
      | inl last ↦ Contains-append_right before.more added.more q ((added.each q).1 (it, subst (λ (m : ℕ). BeginsWith (p ++ get_or ks m no_decision ∷ []) q) last begins))
      | inr earlier ↦ Contains-append_left before.more added.more q (before.whole q k (earlier low) there it begins)
    ];
    rising = sorted-append before.more added.more before.rising added.rising (λ x y first second.
        let (it, (k, (low, (there, begins)))) = before.from x first in
        begins-less p x y (get_or ks k no_decision) (get_or ks n no_decision) (kids-rise objects h p ks k n no_decision kids low inside) begins ((added.each y).0 second).1);
  }
    where
      cases_last : (k : ℕ) → (k ≡ n) ⊎ (k < n + 1 → k < n)
      cases_last k = elim (eq k n) [ inl same ↦ inl same | inr other ↦ inr (λ low. omega arith) ]
        where
          eq : (a b : ℕ) → (a ≡ b) ⊎ ((a ≡ b) → ⊥)
          eq zero zero = inl refl
          eq zero (suc b) = inr (λ e. omega arith)
          eq (suc a) zero = inr (λ e. omega arith)
          eq (suc a) (suc b) = elim (eq a b) [ inl e ↦ inl (ap suc e) | inr f ↦ inr (λ e. f (omega arith)) ]

  pub added-kids : (p ks : List Decision) (n : ℕ) (old new : Lists) → (IsCovered cover p → ⊥) × IsInside cover p → AreKids objects h p ks → length ks ≤ n →
      AreGathered p ks n old new → AreAdded objects h cover p old new
  added-kids p ks n old new inner kids past all = record {
    more = all.more;
    grown = all.grown;
    each = λ q. (
      (λ member.
          let (it, (k, (low, (there, (rest, is))))) = all.from q member in
          (it, (get_or ks k no_decision ∷ rest, is ∙ append_assoc p (get_or ks k no_decision ∷ []) rest))),
      (λ both. go q both.1.0 both.0 both.1.1),
    );
    rising = all.rising;
  }
    where
      go : (q rest : List Decision) → IsOpen objects h cover q → q ≡ p ++ rest → Contains all.more q
      go q [] it so = absurd (it.outside (subst (λ l. IsInside cover l) (sym (append-nil p) ∙ sym so) inner.1))
      go q (d ∷ rest) it so =
          let next : IsGoodNext objects h p d = IsGood-last objects h p d (IsGood-beginning objects h (p ++ d ∷ []) rest
          (subst (λ l. IsGood objects h l) (so ∙ sym (append_assoc p (d ∷ []) rest)) it.good)) in
          let (k, inside, at) = (kids.each d).1 next in
          let same : get_or ks k no_decision ≡ d = default ks k no_decision d inside ∙ at in
          all.whole q k (omega arith) inside it (rest, so ∙ sym (append_assoc p (d ∷ []) rest) ∙ ap (λ (x : Decision). (p ++ x ∷ []) ++ rest) (sym same))
        where
          default : (ks : List Decision) (k : ℕ) (d e : Decision) → k < length ks → get_or ks k d ≡ get_or ks k e
          default [] k d e lt = absurd (omega arith)
          default (x ∷ ks) zero d e lt = refl
          default (x ∷ ks) (suc k) d e lt = default ks k d e (omega arith)

  -- a kid is reached
  pub reached-kid : (p : List Decision) (d : Decision) → IsGood objects h p → (IsCovered cover p → ⊥) × IsInside cover p → IsReached objects h cover (p ++ d ∷ [])
  reached-kid p d good inner = inr (p, (d, (refl, record { good = good; inside = inner.1; uncovered = inner.0 })))

  -- all that is added to nothing at the empty prefix
  pub open-from_added : (new : Lists) → AreAdded objects h cover [] [] new → AreOpen objects h cover new
  open-from_added new added =
      subst (λ l. AreOpen objects h cover l) (sym added.grown) (record {
        each = λ q. ((λ member. ((added.each q).0 member).0), λ it. (added.each q).1 (it, (q, refl)));
        rising = added.rising;
      })

-- from a cursor at the empty prefix
pub open-whole : (shape : ShapeOf) (start : CursorOf) (cover old new : Lists) → start ≡ record { shape = shape; path = [] } → old ≡ [] →
    AreAdded (objects_of start.shape) (history_of start.shape) cover start.path old new → AreOpen (objects_of shape) (history_of shape) cover new
open-whole shape start cover old new is none added =
    open-from_added (objects_of shape) (history_of shape) cover new
    (subst (λ (l : Lists). AreAdded (objects_of shape) (history_of shape) cover [] l new) none
    (subst (λ (c : CursorOf). AreAdded (objects_of c.shape) (history_of c.shape) cover c.path old new) is added))
