-- Which lists are tasks, and how they gather.
use Rattle.std.specs.Prelude.{◌≡◌, ◌==◌, Bool, true, false, ◌⊎◌, ℕ, zero, suc, ◌+◌, ◌<◌, ◌≤◌, List, [], ◌∷◌, ◌++◌, length, refl}
use Rattle.std.specs.List.{Contains}
use Rattle.std.specs.List.Sorted.{IsStrictlySortedBy}
use Rattle.std.specs.Cmp.Lexicographic.{slice_cmp}
use Rattle.std.proofs.Common.{sym, ◌∙◌, ap, subst, inl, inr, arith, get_or, append_assoc}
use Rattle.std.proofs.lemmas.List.{append-nil}
use Rattle.std.proofs.lemmas.List.Elements.{Contains-append_cases, Contains-append_left, Contains-append_right}
use Rattle.aud_event.specs.Meanings.{Declared}
use Rattle.base_values.proofs.Bools.{nat_eq-is}
use Rattle.aud_history.specs.Histories.{History}
use Rattle.aud_witness.specs.declared.decision.Decision.{Decision}
use Rattle.aud_witness.specs.DecisionOrder.{decision_cmp}
use Rattle.aud_witness.specs.Orders.{IsFull, IsGood}
use Rattle.aud_witness.proofs.Good.{IsGood-push, IsGood-last, IsGood-beginning}
use Rattle.aud_order.specs.Kids.{AreKids}
use Rattle.aud_cover.proofs.Steps.{no_decision}
use Rattle.aud_cover.proofs.Distinct.{kids-rise}
use Rattle.aud_cover.proofs.Opened.{begins-less, sorted-append, sorted-none, sorted-one, none_there, only_there}
use Rattle.aud_split.specs.Tasks.{HasNoKids, IsTask, AreTasks, AreTasksAdded}

abbrev Lists : Type 0
Lists = List (List Decision)

-- by its length a list is known to be empty
pub none_by_length : (b : Bool) (n : ℕ) (ks : List Decision) → b ≡ (n == 0) → n ≡ length ks → b ≡ true → ks ≡ []
none_by_length b n [] reported long is = refl
none_by_length b n (k ∷ ks) reported long is = let none : n ≡ 0 = nat_eq-is n 0 (sym reported ∙ is) in absurd (omega arith)

pub some_by_length : (b : Bool) (n : ℕ) (ks : List Decision) → b ≡ (n == 0) → n ≡ length ks → b ≡ false → ks ≡ [] → ⊥
some_by_length b n ks reported long is empty =
    let short : length ks ≡ 0 = ap length empty in
    let none : n ≡ 0 = omega arith in
    let clash : b ≡ true = reported ∙ ap (λ m. m == 0) none in
    absurd (cc)

module _ (objects : List Declared) (h : History) where
  -- where a prefix ends the search below it
  abbrev pub IsLast : ℕ → List Decision → Type 0
  IsLast depth p = (depth ≡ 0) ⊎ (IsFull h p ⊎ HasNoKids objects h p)

  -- a full list has no kids
  pub full-no_kids : (p : List Decision) → IsFull h p → HasNoKids objects h p
  full-no_kids p full d good =
      let next = IsGood-last objects h p d good in
      let named = full.same d.tx ∙ next.in_history in
      let new = next.new in
      absurd (cc)

  pub last-no_kids : (p : List Decision) → IsFull h p ⊎ HasNoKids objects h p → HasNoKids objects h p
  last-no_kids p (inl full) = full-no_kids p full
  last-no_kids p (inr none) = none

  -- what begins with p and one more decision is p with that decision and more
  longer-good : (p q : List Decision) (d : Decision) (rest : List Decision) → IsGood objects h q → q ≡ p ++ d ∷ rest → IsGood objects h (p ++ d ∷ [])
  longer-good p q d rest good is =
      IsGood-beginning objects h (p ++ d ∷ []) rest (subst (λ l. IsGood objects h l) (is ∙ sym (append_assoc p (d ∷ []) rest)) good)

  -- # At one list

  pub task-itself : (p : List Decision) (depth : ℕ) → IsGood objects h p → IsLast depth p → IsTask objects h p depth p
  task-itself p depth good last = record { good = good; rest = []; begins = sym (append-nil p); ends = go depth last }
    where
      go : (n : ℕ) → IsLast n p → (length {A = Decision} [] ≡ n) ⊎ ((length {A = Decision} [] < n) × (IsFull h p ⊎ HasNoKids objects h p))
      go zero it = inl refl
      go (suc n) (inl none) = absurd (omega arith)
      go (suc n) (inr it) = inr (omega arith, it)

  -- the only one there
  task-only : (p q : List Decision) (depth : ℕ) → IsLast depth p → IsTask objects h p depth q → p ≡ q
  task-only p q depth last task = go task.rest task.begins task.ends last
    where
      go : (rest : List Decision) → q ≡ p ++ rest → (length rest ≡ depth) ⊎ ((length rest < depth) × (IsFull h q ⊎ HasNoKids objects h q)) → IsLast depth p → p ≡ q
      go [] is ends it = sym (is ∙ append-nil p)
      go (d ∷ rest) is (inl long) (inl none) = absurd (omega arith)
      go (d ∷ rest) is (inr both) (inl none) = let short = both.0 in absurd (omega arith)
      go (d ∷ rest) is ends (inr it) = absurd (last-no_kids p it d (longer-good p q d rest task.good is))

  pub added-last : (p : List Decision) (depth : ℕ) (old new : Lists) → IsGood objects h p → IsLast depth p → new ≡ old ++ p ∷ [] → AreTasksAdded objects h p depth old new
  added-last p depth old new good last is = record {
    more = p ∷ [];
    grown = is;
    tasks = record {
      each = λ q. (
        (λ member. subst (λ l. IsTask objects h p depth l) (only_there p q member) (task-itself p depth good last)),
        (λ task. (0, omega arith, task-only p q depth last task)),
      );
      rising = sorted-one p;
    };
  }

  -- # Below its kids

  pub task-of_kid : (p q : List Decision) (d : Decision) (less depth : ℕ) → less + 1 ≡ depth → IsTask objects h (p ++ d ∷ []) less q → IsTask objects h p depth q
  task-of_kid p q d less depth one task = record {
    good = task.good;
    rest = d ∷ task.rest;
    begins = task.begins ∙ append_assoc p (d ∷ []) task.rest;
    ends = elim task.ends [
      | inl long ↦ inl (omega arith)
      | inr both ↦ let short = both.0 in inr (omega arith, both.1)
    ];
  }

  -- of a list with a kid each task is one of a kid
  pub task-below : (p q : List Decision) (less depth : ℕ) → less + 1 ≡ depth → (HasNoKids objects h p → ⊥) → IsTask objects h p depth q →
      (d : Decision) × (IsGood objects h (p ++ d ∷ []) × IsTask objects h (p ++ d ∷ []) less q)
  task-below p q less depth one kid task = go task.rest task.begins task.ends
    where
      go : (rest : List Decision) → q ≡ p ++ rest → (length rest ≡ depth) ⊎ ((length rest < depth) × (IsFull h q ⊎ HasNoKids objects h q)) →
          (d : Decision) × (IsGood objects h (p ++ d ∷ []) × IsTask objects h (p ++ d ∷ []) less q)
      go [] is (inl none) = absurd (omega arith)
      go [] is (inr both) =
          let same : q ≡ p = is ∙ append-nil p in
          absurd (kid (subst (λ l. HasNoKids objects h l) same (last-no_kids q both.1)))
      go (d ∷ rest) is ends = (
        d,
        (
          longer-good p q d rest task.good is,
          record {
            good = task.good;
            rest = rest;
            begins = is ∙ sym (append_assoc p (d ∷ []) rest);
            ends = elim ends [
              | inl long ↦ inl (omega arith)
              | inr both ↦ let short = both.0 in inr (omega arith, both.1)
            ];
          },
        ),
      )

  -- what was added for the first kids
  pub record AreGathered (p : List Decision) (ks : List Decision) (less n : ℕ) (old new : Lists) : Type 0 where
    pub more : Lists
    pub grown : new ≡ old ++ more
    pub from : (q : List Decision) → Contains more q → (k : ℕ) × ((k < n) × ((k < length ks) × IsTask objects h (p ++ get_or ks k no_decision ∷ []) less q))
    pub whole : (q : List Decision) (k : ℕ) → k < n → k < length ks → IsTask objects h (p ++ get_or ks k no_decision ∷ []) less q → Contains more q
    pub rising : IsStrictlySortedBy (slice_cmp decision_cmp) more

  pub gathered-none : (p ks : List Decision) (less : ℕ) (old : Lists) → AreGathered p ks less 0 old old
  gathered-none p ks less old = record {
    more = [];
    grown = sym (append-nil old);
    from = λ q member. absurd (none_there q member);
    whole = λ q k before inside task. absurd (omega arith);
    rising = sorted-none;
  }

  pub gathered-more : (p ks : List Decision) (less n : ℕ) (old mid new : Lists) → AreKids objects h p ks → n < length ks → AreGathered p ks less n old mid →
      AreTasksAdded objects h (p ++ get_or ks n no_decision ∷ []) less mid new → AreGathered p ks less (n + 1) old new
  gathered-more p ks less n old mid new kids inside before added = record {
    more = before.more ++ added.more;
    grown = added.grown ∙ ap (λ l. l ++ added.more) before.grown ∙ append_assoc old before.more added.more;
    from = λ q member. elim (Contains-append_cases before.more added.more q member) [
      | inl first ↦ let (k, (low, (there, task))) = before.from q first in (k, (omega arith, (there, task)))
      | inr second ↦ (n, (omega arith, (inside, (added.tasks.each q).0 second)))
    ];
    whole = λ q k low there task. elim (cases_last k) [
      | inl last ↦ Contains-append_right before.more added.more q ((added.tasks.each q).1 (subst (λ (m : ℕ). IsTask objects h (p ++ get_or ks m no_decision ∷ []) less q) last task))
      | inr earlier ↦ Contains-append_left before.more added.more q (before.whole q k (earlier low) there task)
    ];
    rising = sorted-append before.more added.more before.rising added.tasks.rising (λ x y first second.
        let (k, (low, (there, task))) = before.from x first in
        let other = (added.tasks.each y).0 second in
        begins-less p x y (get_or ks k no_decision) (get_or ks n no_decision) (kids-rise objects h p ks k n no_decision kids low inside) (task.rest, task.begins) (other.rest, other.begins));
  }
    where
      cases_last : (k : ℕ) → (k ≡ n) ⊎ (k < n + 1 → k < n)
      cases_last k = elim (eq k n) [ inl same ↦ inl same | inr other ↦ inr (λ low. omega arith) ]
        where
          eq : (a b : ℕ) → (a ≡ b) ⊎ ((a ≡ b) → ⊥)
          eq zero zero = inl refl
          eq zero (suc b) = inr (λ e. omega arith)
          eq (suc a) zero = inr (λ e. omega arith)
          eq (suc a) (suc b) = elim (eq a b) [ inl e ↦ inl (ap suc e) | inr f ↦ inr (λ e. f (omega arith)) ]

  -- kids that are none
  pub no_kids : (p ks : List Decision) → AreKids objects h p ks → ks ≡ [] → HasNoKids objects h p
  no_kids p ks kids empty d good =
      let (k, inside, at) = (kids.each d).1 (IsGood-last objects h p d good) in
      let short : length ks ≡ 0 = ap length empty in
      absurd (omega arith)

  some_kid : (p ks : List Decision) → IsGood objects h p → AreKids objects h p ks → (ks ≡ [] → ⊥) → HasNoKids objects h p → ⊥
  some_kid p [] good kids some none = some refl
  some_kid p (d ∷ ks) good kids some none = none d (IsGood-push objects h p d good ((kids.each d).0 (0, omega arith, refl)))

  pub added-kids : (p ks : List Decision) (less depth n : ℕ) (old new : Lists) → IsGood objects h p → less + 1 ≡ depth → (ks ≡ [] → ⊥) → AreKids objects h p ks → length ks ≤ n →
      AreGathered p ks less n old new → AreTasksAdded objects h p depth old new
  added-kids p ks less depth n old new good one some kids past all = record {
    more = all.more;
    grown = all.grown;
    tasks = record {
      each = λ q. (
        (λ member. let (k, (low, (there, task))) = all.from q member in task-of_kid p q (get_or ks k no_decision) less depth one task),
        (λ task.
            let (d, (longer, below)) = task-below p q less depth one (some_kid p ks good kids some) task in
            let (k, inside, at) = (kids.each d).1 (IsGood-last objects h p d longer) in
            let same : get_or ks k no_decision ≡ d = default ks k no_decision d inside ∙ at in
            all.whole q k (omega arith) inside (subst (λ (x : Decision). IsTask objects h (p ++ x ∷ []) less q) (sym same) below)),
      );
      rising = all.rising;
    };
  }
    where
      default : (ks : List Decision) (k : ℕ) (d e : Decision) → k < length ks → get_or ks k d ≡ get_or ks k e
      default [] k d e lt = absurd (omega arith)
      default (x ∷ ks) zero d e lt = refl
      default (x ∷ ks) (suc k) d e lt = default ks k d e (omega arith)

  -- # Of all

  -- all that is added to nothing
  pub tasks-added : (p : List Decision) (depth : ℕ) (old new : Lists) → old ≡ [] → AreTasksAdded objects h p depth old new → AreTasks objects h p depth new
  tasks-added p depth old new none added = subst (λ l. AreTasks objects h p depth l) (sym (added.grown ∙ ap (λ l. l ++ added.more) none)) added.tasks

  -- below a prefix that is not good is none
  pub tasks-bad : (p : List Decision) (depth : ℕ) (list : Lists) → (IsGood objects h p → ⊥) → list ≡ [] → AreTasks objects h p depth list
  tasks-bad p depth list bad none =
      subst (λ l. AreTasks objects h p depth l) (sym none) (record {
        each = λ q. ((λ member. absurd (none_there q member)), λ task. absurd (bad (task-good q task)));
        rising = sorted-none;
      })
    where
      task-good : (q : List Decision) → IsTask objects h p depth q → IsGood objects h p
      task-good q task = IsGood-beginning objects h p task.rest (subst (λ l. IsGood objects h l) task.begins task.good)

  pub bad-empty : (p : List Decision) (depth : ℕ) (list : Lists) → AreTasks objects h p depth list → (IsGood objects h p → ⊥) → list ≡ []
  bad-empty p depth [] tasks bad = refl
  bad-empty p depth (q ∷ list) tasks bad =
      let task = (tasks.each q).0 (0, omega arith, refl) in
      absurd (bad (IsGood-beginning objects h p task.rest (subst (λ l. IsGood objects h l) task.begins task.good)))
