-- The steps of a search.
use Rattle.std.specs.Prelude.{◌≡◌, ℕ, zero, suc, ◌+◌, ◌-◌, ◌<◌, ◌≤◌, nat_lt, List, [], ◌∷◌, ◌++◌, length, Option, Some, slice_get, ◌⊎◌, refl}
use Rattle.std.specs.List.{Contains}
use Rattle.std.proofs.Common.{sym, ◌∙◌, ap, subst, inl, inr, arith, take, append_assoc, length-append}
use Rattle.std.proofs.lemmas.Bool.Decides.{nat_tests}
use Rattle.std.proofs.lemmas.List.{append-nil}
use Rattle.aud_event.specs.Meanings.{Declared, PlanOf}
use Rattle.base_values.proofs.Bools.{split}
use Rattle.aud_history.specs.Histories.{History}
use Rattle.aud_history.specs.WellFormed.{IsWellFormed}
use Rattle.aud_history.specs.FirstFault.{IsWithinLimits}
use Rattle.aud_witness.specs.declared.decision.Decision.{Decision}
use Rattle.aud_witness.specs.Prefixes.{BeginsWith}
use Rattle.aud_witness.specs.Orders.{IsFull, IsGood, IsGoodNext, Shows, Refuted}
use Rattle.aud_witness.proofs.Good.{Shows-from_IsGood}
use Rattle.aud_order.proofs.Moves.{refuted-by_silent}
use Rattle.aud_order.proofs.Lists.{length-push, push-parts, take-push}
use Rattle.aud_order.proofs.Lengths.{length-full, full-from_length}
use Rattle.search_memo.specs.declared.choice.Choice.{Choice}
use Rattle.search_memo.specs.Choices.{AreChoices}
use Rattle.search_prefix.specs.Searches.{IsExpandable, SpentBy}
use Rattle.search_prefix.specs.Levels.{AreTried, AreBelow, IsSearching}
use Rattle.search_prefix.specs.Tried.{IsNextPlace}
use Rattle.search_memo.proofs.Refuting.{refuted-bad, refuted-by_kids}
use Rattle.aud_witness.proofs.Beginnings.{Refuted-append}

pub there-below : (cs : List Choice) (k : ℕ) (c : Choice) → slice_get cs k ≡ Some c → k < length cs
there-below [] k c at = absurd (cc)
there-below (x ∷ cs) zero c at = omega arith
there-below (x ∷ cs) (suc k) c at = let low : k < length cs = there-below cs k c at in omega arith

-- # Lists

abbrev Lists : Type 0
Lists = List (List Decision)

contains_cases : (x : List Decision) (xs : Lists) (y : List Decision) → Contains (x ∷ xs) y → (x ≡ y) ⊎ Contains xs y
contains_cases x xs y (zero, inside, is) = inl is
contains_cases x xs y (suc k, inside, is) = inr (k, omega arith, is)

contains_after : (x : List Decision) (xs : Lists) (y : List Decision) → Contains xs y → Contains (x ∷ xs) y
contains_after x xs y (k, inside, is) = (suc k, omega arith, is)

contains_none : (y : List Decision) → Contains [] y → ⊥
contains_none y (k, inside, is) = absurd (omega arith)

-- # What stands below

below-extends : (objects : List Declared) (h : History) (p : List Decision) (cs : List Choice) (es : Lists) (gs : List ℕ) (path : List Decision) →
    AreBelow objects h p cs es gs path → (q : List Decision) × (path ≡ p ++ q)
below-extends objects h p cs es [] path is = ([], is ∙ sym (append-nil p))
below-extends objects h p cs es (g ∷ gs) path (q, (d, (is, _, _, rest))) =
    let (r, so) = below-extends objects h p cs es gs q rest in
    (r ++ d ∷ [], is ∙ ap (λ l. l ++ d ∷ []) so ∙ append_assoc p r (d ∷ []))

-- a longer prefix was expanded
below-more : (objects : List Declared) (h : History) (p : List Decision) (cs : List Choice) (es : Lists) (gs : List ℕ) (path new : List Decision) → length path < length new →
    AreBelow objects h p cs es gs path → AreBelow objects h p cs (new ∷ es) gs path
below-more objects h p cs es [] path new longer is = is
below-more objects h p cs es (g ∷ gs) path new longer (q, (d, (is, tried, fresh, rest))) =
    let long : length path ≡ length q + 1 = ap length is ∙ length-push q d in (
      q,
      (
        d,
        (
          is,
          tried,
          (λ k c past at member. elim (contains_cases new es (q ++ c.decision ∷ []) member) [
            | inl same ↦ let clash : length new ≡ length q + 1 = ap length same ∙ length-push q c.decision in absurd (omega arith)
            | inr old ↦ fresh k c past at old
          ]),
          below-more objects h p cs es gs q new (omega arith) rest,
        ),
      ),
    )

-- # The steps

-- the first prefix is expanded
pub search-start : (objects : List Declared) (h : History) (p : List Decision) (cs : List Choice) → IsGood objects h p → (IsFull h p → ⊥) → IsSearching objects h p cs 1 p 0 []
search-start objects h p cs good unfull = record {
  es = p ∷ [];
  count = refl;
  different = ((λ member. contains_none p member), tt);
  opens = λ e member. subst (λ l. IsExpandable objects h l) (only e member) (good, unfull);
  extend = λ e member. ([], sym (only e member) ∙ sym (append-nil p));
  parents = λ e d member. inl (sym (only (e ++ d ∷ []) member));
  unfull = λ e d member _ _. sym (only e member);
  here = (0, omega arith, refl);
  tried = λ k c below at. absurd (omega arith);
  fresh = λ k c past at member.
      let same : p ≡ p ++ c.decision ∷ [] = only (p ++ c.decision ∷ []) member in
      let clash : length p ≡ length p + 1 = ap length same ∙ length-push p c.decision in
      absurd (omega arith);
  levels = refl;
}
  where
    only : (e : List Decision) → Contains (p ∷ []) e → p ≡ e
    only e member = elim (contains_cases p [] e member) [ inl same ↦ same | inr none ↦ absurd (contains_none e none) ]

-- a choice that was tried and is not good
pub tried-more : (objects : List Declared) (h : History) (cs : List Choice) (path : List Decision) (next k : ℕ) → AreTried objects h cs path next →
    ((j : ℕ) (c : Choice) → next ≤ j → j < k → slice_get cs j ≡ Some c → IsGoodNext objects h path c.decision → ⊥) → AreTried objects h cs path k
tried-more objects h cs path next k tried bad = λ j c below at.
    elim (split (nat_lt j next)) [
      | inl before ↦ let low : j < next = grind (arith, nat_tests) in tried j c low at
      | inr behind ↦ let high : next ≤ j = grind (arith, nat_tests) in refuted-bad objects h path c.decision (bad j c high below at)
    ]

one_choice : (x y : Choice) (o : Option Choice) → o ≡ Some x → o ≡ Some y → x ≡ y
one_choice x y o is same = cc

-- the choice that was followed is refuted too
tried-next : (objects : List Declared) (h : History) (cs : List Choice) (path : List Decision) (k : ℕ) (c : Choice) → slice_get cs k ≡ Some c → AreTried objects h cs path k →
    Refuted objects h (path ++ c.decision ∷ []) → AreTried objects h cs path (k + 1)
tried-next objects h cs path k c at tried refuted = λ j e below there.
    elim (split (nat_lt j k)) [
      | inl before ↦ let low : j < k = grind (arith, nat_tests) in tried j e low there
      | inr behind ↦
          let same : j ≡ k = grind (arith, nat_tests) in
          let is : c ≡ e = one_choice c e (slice_get cs k) at (ap (slice_get cs) (sym same) ∙ there) in
          subst (λ (x : Choice). Refuted objects h (path ++ x.decision ∷ [])) is refuted
    ]

-- a full good prefix is not one decision longer than one as long as a good one that is not full
not_full : (objects : List Declared) (h : History) (path : List Decision) (c d : Decision) → IsGood objects h (path ++ c ∷ []) → (IsFull h (path ++ c ∷ []) → ⊥) →
    IsGood objects h (path ++ d ∷ []) → IsFull h (path ++ d ∷ []) → ⊥
not_full objects h path c d good unfull other full =
    unfull (full-from_length objects h (path ++ c ∷ []) good (length-push path c ∙ sym (length-push path d) ∙ length-full objects h (path ++ d ∷ []) other full))

-- and so are those after it, where it is of a silent transaction
pub tried-after : (plan : PlanOf) (h : History) (cs : List Choice) (path : List Decision) (k g : ℕ) (c : Choice) → IsWellFormed h → IsWithinLimits plan h → AreChoices h cs → IsNextPlace cs k g →
    slice_get cs k ≡ Some c → AreTried plan.objects h cs path k → IsGoodNext plan.objects h path c.decision → Refuted plan.objects h (path ++ c.decision ∷ []) → AreTried plan.objects h cs path g
tried-after plan h cs path k g c fine within choices behind at tried good refuted =
    elim (behind.silent c at) [
      | inl next ↦ subst (λ n. AreTried plan.objects h cs path n) (sym next) (tried-next plan.objects h cs path k c at tried refuted)
      | inr silent ↦
          let all : Refuted plan.objects h path = refuted-by_silent plan h path c.decision fine within (choices.silent k c at silent) good refuted in
          λ j e below there. Refuted-append plan.objects h path (e.decision ∷ []) all
    ]

-- a choice is passed over whose prefix is known to be refuted
pub search-on : (objects : List Declared) (h : History) (p : List Decision) (cs : List Choice) (used : ℕ) (path : List Decision) (next : ℕ) (gs : List ℕ) (g : ℕ) →
    IsSearching objects h p cs used path next gs → next ≤ g → AreTried objects h cs path g → IsSearching objects h p cs used path g gs
search-on objects h p cs used path next gs g s past tried = record {
  es = s.es;
  count = s.count;
  different = s.different;
  opens = s.opens;
  extend = s.extend;
  parents = s.parents;
  unfull = s.unfull;
  here = s.here;
  tried = tried;
  fresh = λ k c behind at. s.fresh k c (omega arith) at;
  levels = s.levels;
}

-- a good choice is followed, and its prefix expanded
pub search-deeper : (objects : List Declared) (h : History) (p : List Decision) (cs : List Choice) (used : ℕ) (path : List Decision) (next : ℕ) (gs : List ℕ) (k g : ℕ) (c : Choice) →
    AreChoices h cs → IsSearching objects h p cs used path next gs → next ≤ k → k < g → slice_get cs k ≡ Some c → (Refuted objects h (path ++ c.decision ∷ []) → AreTried objects h cs path g) →
    IsGood objects h (path ++ c.decision ∷ []) → (IsFull h (path ++ c.decision ∷ []) → ⊥) → IsSearching objects h p cs (used + 1) (path ++ c.decision ∷ []) 0 (g ∷ gs)
search-deeper objects h p cs used path next gs k g c choices s past behind at tried good unfull = record {
  es = new ∷ s.es;
  count = omega (arith, s.count);
  different = (s.fresh k c past at, s.different);
  opens = λ e member. elim (contains_cases new s.es e member) [ inl same ↦ subst (λ l. IsExpandable objects h l) same (good, unfull) | inr old ↦ s.opens e old ];
  extend = λ e member. elim (contains_cases new s.es e member) [ inl same ↦ subst (λ l. (q : List Decision) × (l ≡ p ++ q)) same longer | inr old ↦ s.extend e old ];
  parents = λ e d member. elim (contains_cases new s.es (e ++ d ∷ []) member) [
    | inl same ↦ inr (contains_after new s.es e (subst (λ l. Contains s.es l) (push-parts path e c.decision d same).0 s.here))
    | inr old ↦ elim (s.parents e d old) [ inl first ↦ inl first | inr parent ↦ inr (contains_after new s.es e parent) ]
  ];
  unfull = λ e d member other full. elim (contains_cases new s.es e member) [
    | inl same ↦ sym same
    | inr old ↦
        let is : e ≡ path = s.unfull e d old other full in
        absurd (not_full objects h path c.decision d good unfull (subst (λ l. IsGood objects h (l ++ d ∷ [])) is other) (subst (λ l. IsFull h (l ++ d ∷ [])) is full))
  ];
  here = (0, omega arith, refl);
  tried = λ j e below there. absurd (omega arith);
  fresh = λ j e _ there member. elim (contains_cases new s.es (new ++ e.decision ∷ []) member) [
    | inl same ↦ let clash : length new ≡ length new + 1 = ap length same ∙ length-push new e.decision in absurd (omega arith)
    | inr old ↦ elim (s.parents new e.decision old) [
      | inl first ↦
          let clash : length new + 1 ≡ length p = sym (length-push new e.decision) ∙ ap length first in
          let more : length new ≡ length p + length longer.0 = ap length longer.1 ∙ length-append p longer.0 in
          absurd (omega arith)
      | inr parent ↦ s.fresh k c past at parent
    ]
  ];
  levels = (
    path,
    (
      c.decision,
      (
        refl,
        tried,
        (λ j e beyond there member. elim (contains_cases new s.es (path ++ e.decision ∷ []) member) [
          | inl same ↦ choices.once k j c e (omega arith) at there (push-parts path path c.decision e.decision same).1
          | inr old ↦ s.fresh j e (omega arith) there old
        ]),
        below-more objects h p cs s.es gs path new (omega (arith, length-push path c.decision)) s.levels,
      ),
    ),
  );
}
  where
    new : List Decision
    new = path ++ c.decision ∷ []

    begins : (q : List Decision) × (path ≡ p ++ q)
    begins = below-extends objects h p cs s.es gs path s.levels

    longer : (q : List Decision) × (path ++ c.decision ∷ [] ≡ p ++ q)
    longer = (begins.0 ++ c.decision ∷ [], ap (λ l. l ++ c.decision ∷ []) begins.1 ∙ append_assoc p begins.0 (c.decision ∷ []))

-- the budget is spent at a good choice
pub search-spent : (objects : List Declared) (h : History) (p : List Decision) (cs : List Choice) (used : ℕ) (path : List Decision) (next : ℕ) (gs : List ℕ) (k : ℕ) (c : Choice) →
    IsSearching objects h p cs used path next gs → next ≤ k → slice_get cs k ≡ Some c →
    IsGood objects h (path ++ c.decision ∷ []) → (IsFull h (path ++ c.decision ∷ []) → ⊥) → SpentBy objects h p used
search-spent objects h p cs used path next gs k c s past at good unfull = (
  s.es,
  (
    s.count,
    record {
      different = s.different;
      opens = s.opens;
      extend = s.extend;
      parents = s.parents;
      unfull = λ e d member other full.
          let is : e ≡ path = s.unfull e d member other full in
          not_full objects h path c.decision d good unfull (subst (λ l. IsGood objects h (l ++ d ∷ [])) is other) (subst (λ l. IsFull h (l ++ d ∷ [])) is full);
    },
    (
      path ++ c.decision ∷ [],
      record {
        opens = (good, unfull);
        outside = s.fresh k c past at;
        place = inr (path, (c.decision, (s.here, refl)));
      },
    ),
  ),
)

-- no budget at all
pub search-unspent : (objects : List Declared) (h : History) (p : List Decision) → IsGood objects h p → (IsFull h p → ⊥) → SpentBy objects h p 0
search-unspent objects h p good unfull = (
  [],
  (
    refl,
    record {
      different = tt;
      opens = λ e member. absurd (contains_none e member);
      extend = λ e member. absurd (contains_none e member);
      parents = λ e d member. absurd (contains_none (e ++ d ∷ []) member);
      unfull = λ e d member _ _. contains_none e member;
    },
    (p, record { opens = (good, unfull); outside = λ member. contains_none p member; place = inl refl }),
  ),
)

-- where all choices are refuted after a prefix, it is refuted
pub refuted-here : (objects : List Declared) (h : History) (p : List Decision) (cs : List Choice) (used : ℕ) (path : List Decision) (next : ℕ) (gs : List ℕ) →
    AreChoices h cs → IsSearching objects h p cs used path next gs → AreTried objects h cs path (length cs) → Refuted objects h path
refuted-here objects h p cs used path next gs choices s tried =
    refuted-by_kids objects h path (s.opens path s.here).1 (λ d good.
    let (k, (c, (at, is))) = choices.whole d good.in_history good.allowed in
    subst (λ (x : Decision). Refuted objects h (path ++ x ∷ [])) is (tried k c (there-below cs k c at) at))

-- then the search goes back
pub search-back : (objects : List Declared) (h : History) (p : List Decision) (cs : List Choice) (used : ℕ) (path : List Decision) (next g : ℕ) (gs : List ℕ) →
    IsSearching objects h p cs used path next (g ∷ gs) → Refuted objects h path → IsSearching objects h p cs used (take (length path - 1) path) g gs
search-back objects h p cs used path next g gs s refuted =
    let (q, (d, (is, tried, fresh, rest))) = s.levels in
    let shorter : take (length path - 1) path ≡ q = ap (λ l. take (length l - 1) l) is ∙ take-push q d in
    subst (λ l. IsSearching objects h p cs used l g gs) (sym shorter) (record {
      es = s.es;
      count = s.count;
      different = s.different;
      opens = s.opens;
      extend = s.extend;
      parents = s.parents;
      unfull = λ e x member other full.
          let at : e ≡ path = s.unfull e x member other full in
          absurd (refuted (x ∷ []) (subst (λ l. Shows objects h (l ++ x ∷ [])) at (Shows-from_IsGood objects h (e ++ x ∷ []) full other)));
      here = elim (s.parents q d (subst (λ l. Contains s.es l) is s.here)) [
        | inl first ↦
            let (r, so) = below-extends objects h p cs s.es gs q rest in
            let clash : length q + 1 ≡ length p = sym (length-push q d) ∙ ap length first in
            let more : length q ≡ length p + length r = ap length so ∙ length-append p r in
            absurd (omega arith)
        | inr parent ↦ parent
      ];
      tried = tried refuted;
      fresh = fresh;
      levels = rest;
    })

-- at the end the prefix is refuted
pub search-refuted : (objects : List Declared) (h : History) (p : List Decision) (cs : List Choice) (used : ℕ) (path : List Decision) (next : ℕ) →
    IsSearching objects h p cs used path next [] → Refuted objects h path → Refuted objects h p
search-refuted objects h p cs used path next s refuted = subst (λ l. Refuted objects h l) s.levels refuted

-- the prefix that was found begins with the prefix
pub search-begins : (objects : List Declared) (h : History) (p : List Decision) (cs : List Choice) (used : ℕ) (path : List Decision) (next : ℕ) (gs : List ℕ) (d : Decision) →
    IsSearching objects h p cs used path next gs → BeginsWith p (path ++ d ∷ [])
search-begins objects h p cs used path next gs d s =
    let (q, is) = below-extends objects h p cs s.es gs path s.levels in
    (q ++ d ∷ [], ap (λ l. l ++ d ∷ []) is ∙ append_assoc p q (d ∷ []))
