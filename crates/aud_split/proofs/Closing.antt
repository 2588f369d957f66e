-- A cover that has a beginning of each task below a prefix closes the prefix.
use Rattle.std.specs.Prelude.{◌≡◌, ◌↔◌, ◌⊎◌, ℕ, zero, suc, List, [], ◌∷◌, ◌++◌, refl}
use Rattle.std.specs.List.{Contains}
use Rattle.std.proofs.Common.{sym, ◌∙◌, subst, inl, inr, arith, append_assoc}
use Rattle.std.proofs.lemmas.List.{append-nil}
use Rattle.std.proofs.lemmas.List.Sorted.{IsPermutation-refl}
use Rattle.aud_event.specs.Meanings.{Declared}
use Rattle.base_values.proofs.Bools.{split}
use Rattle.aud_history.specs.Histories.{History}
use Rattle.aud_witness.specs.declared.decision.Decision.{Decision}
use Rattle.aud_witness.specs.Orders.{IsGood, IsGoodNext}
use Rattle.aud_witness.specs.OrderFaults.{is_good_next, kids}
use Rattle.aud_witness.proofs.Good.{IsGood-empty, IsGood-push, IsGood-last}
use Rattle.aud_order.proofs.KidLemmas.{kids-each, next-from_good, good-from_next}
use Rattle.aud_cover.specs.Closings.{IsCovered, IsClosed, covered, bad, by_kids}
use Rattle.aud_split.specs.Tasks.{HasNoKids, IsTask}
use Rattle.aud_split.specs.Laws.{TasksClose}
use Rattle.aud_split.proofs.Tasks.{full-no_kids, task-itself, task-of_kid}

-- # What can be said

module _ (objects : List Declared) (h : History) where
  -- a prefix is good or not
  good_or_bad : (p : List Decision) → IsGood objects h p ⊎ (IsGood objects h p → ⊥)
  good_or_bad p = go [] p (IsGood-empty objects h)
    where
      go : (before rest : List Decision) → IsGood objects h before → IsGood objects h (before ++ rest) ⊎ (IsGood objects h (before ++ rest) → ⊥)
      go before [] good = inl (subst (λ l. IsGood objects h l) (sym (append-nil before)) good)
      go before (d ∷ rest) good = elim (split (is_good_next objects h before d)) [
        | inl fine ↦
            subst (λ l. IsGood objects h l ⊎ (IsGood objects h l → ⊥)) (append_assoc before (d ∷ []) rest)
            (go (before ++ d ∷ []) rest (IsGood-push objects h before d good (next-from_good objects h before d fine)))
        | inr fails ↦ inr (λ whole.
            let clash = good-from_next objects h before d (whole before d rest refl) in
            absurd (cc))
      ]

  -- a good prefix has a kid or none
  kid_or_none : (p : List Decision) → IsGood objects h p → ((d : Decision) × IsGood objects h (p ++ d ∷ [])) ⊎ HasNoKids objects h p
  kid_or_none p good = go (kids objects h p) (λ d. kids-each objects h p (kids objects h p) d (IsPermutation-refl (kids objects h p)))
    where
      go : (ks : List Decision) → ((d : Decision) → Contains ks d ↔ IsGoodNext objects h p d) → ((d : Decision) × IsGood objects h (p ++ d ∷ [])) ⊎ HasNoKids objects h p
      go [] each = inr (λ d longer. let (k, inside, is) = (each d).1 (IsGood-last objects h p d longer) in absurd (omega arith))
      go (d ∷ ks) each = inl (d, IsGood-push objects h p d good ((each d).0 (0, omega arith, refl)))

  -- below a good prefix there is a task
  some_task : (depth : ℕ) (p : List Decision) → IsGood objects h p → (q : List Decision) × IsTask objects h p depth q
  some_task zero p good = (p, task-itself objects h p zero good (inl refl))
  some_task (suc n) p good = elim (kid_or_none p good) [
    | inl (d, longer) ↦
        let found = some_task n (p ++ d ∷ []) longer in
        (found.0, task-of_kid objects h p found.0 d n (suc n) (omega arith) found.1)
    | inr none ↦ (p, task-itself objects h p (suc n) good (inr (inr none)))
  ]

-- # Beginnings of one prefix

-- of two beginnings of a prefix the first begins the second, or goes on after it
compared : (m p a b : List Decision) → m ++ a ≡ p ++ b → ((s : List Decision) × (p ≡ m ++ s)) ⊎ ((d : Decision) × ((s : List Decision) × (m ≡ p ++ d ∷ s)))
compared [] p a b is = inl (p, refl)
compared (x ∷ m) [] a b is = inr (x, (m, refl))
compared (x ∷ m) (y ∷ p) a b is =
    let head : x ≡ y = cc in
    let tail : m ++ a ≡ p ++ b = cc in
    elim (compared m p a b tail) [
      | inl (s, so) ↦ inl (s, λ i. sym head i ∷ so i)
      | inr (d, (s, so)) ↦ inr (d, (s, λ i. head i ∷ so i))
    ]

-- # Closed

module _ (objects : List Declared) (h : History) (cover : List (List Decision)) where
  -- a prefix with a kid, of which all kids are closed, and a prefix that goes on after it has a beginning in the cover
  closed-by_kids : (p q : List Decision) (d : Decision) (rest : List Decision) → IsGood objects h (p ++ d ∷ []) → q ≡ p ++ d ∷ rest → IsCovered cover q →
      ((e : Decision) → IsGood objects h (p ++ e ∷ []) → IsClosed objects h cover (p ++ e ∷ [])) → IsClosed objects h cover p
  closed-by_kids p q d rest longer is (m, (more, (member, so))) all = elim (compared m p more (d ∷ rest) (sym so ∙ is)) [
    | inl (s, begins) ↦ covered (m, (s, (member, begins)))
    | inr (e, (s, goes)) ↦
        by_kids (λ full. full-no_kids objects h p full d longer) (e, (s, subst (λ l. Contains cover l) goes member)) all
  ]

  closed-tasks : (depth : ℕ) (p : List Decision) → ((q : List Decision) → IsTask objects h p depth q → IsCovered cover q) → IsClosed objects h cover p
  closed-tasks zero p all = elim (good_or_bad objects h p) [
    | inl good ↦ covered (all p (task-itself objects h p zero good (inl refl)))
    | inr none ↦ bad none
  ]
  closed-tasks (suc n) p all = elim (good_or_bad objects h p) [
    | inl good ↦ elim (kid_or_none objects h p good) [
      | inl (d, longer) ↦
          let found = some_task objects h n (p ++ d ∷ []) longer in
          let task = found.1 in
          closed-by_kids p found.0 d task.rest longer (task.begins ∙ append_assoc p (d ∷ []) task.rest) (all found.0 (task-of_kid objects h p found.0 d n (suc n) (omega arith) task))
          (λ e good_kid. closed-tasks n (p ++ e ∷ []) (λ q below. all q (task-of_kid objects h p q e n (suc n) (omega arith) below)))
      | inr none ↦ covered (all p (task-itself objects h p (suc n) good (inr (inr none))))
    ]
    | inr none ↦ bad none
  ]

pub tasks_closed : TasksClose
tasks_closed objects h cover p depth tasks are all = closed-tasks objects h cover depth p (λ q task. all q ((are.each q).1 task))
