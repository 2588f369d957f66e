-- What the verdict says where each task ended.
use Rattle.std.specs.Prelude.{◌≡◌, ◌⊎◌, ℕ, zero, suc, List, [], ◌∷◌, Option, Some, None, refl}
use Rattle.std.specs.List.{Contains}
use Rattle.std.proofs.Common.{sym, ◌∙◌, ap, subst, inl, inr, arith}
use Rattle.aud_event.specs.Meanings.{Declared, PlanOf}
use Rattle.aud_history.specs.Histories.{History}
use Rattle.aud_history.specs.WellFormed.{IsWellFormed}
use Rattle.aud_facts.specs.declared.status.FactStatus.{FactStatus}
use Rattle.aud_facts.specs.declared.status.FactStatus.TheVariants as status
use Rattle.aud_facts.specs.Sets.{SealedOf}
use Rattle.aud_facts.specs.Status.{fact_status, hist}
use Rattle.aud_facts.proofs.Quiet.{quiet_is_no_conflict, sealed_is_all}
use Rattle.aud_witness.specs.declared.decision.Decision.{Decision}
use Rattle.aud_witness.specs.Orders.{Refuted}
use Rattle.aud_witness.proofs.Beginnings.{Refuted-append}
use Rattle.search_prefix.specs.Searches.{SpentBy}
use Rattle.aud_cover.specs.Closings.{IsCovered, IsClosed}
use Rattle.aud_cover.proofs.Refuting.{closed-refuted}
use Rattle.aud_know.specs.Known.{KnownAtom, Held, KnowledgeOf, norm_of}
use Rattle.aud_know.specs.Truth.{IsKnowledge}
use Rattle.aud_know.specs.Verdicts.{OfWellFormed, IsVerdict}
use Rattle.aud_know.specs.declared.verdict.Verdict.{Verdict}
use Rattle.aud_know.proofs.Judging.{OfStatus, quiet, witness_shows, closed_refutes, no_fault}
use Rattle.aud_split.specs.Tasks.{AreTasks}
use Rattle.aud_split.specs.Searched.{HasWitness, IsEndedBy, IsSearched, AreUnfinished, Says, IsUnsealed}
use Rattle.aud_split.specs.Laws.{SearchIsSaid}
use Rattle.aud_split.proofs.Closing.{tasks_closed}
use Rattle.aud_split.proofs.Keeping.{known_kept}

-- # By what is held

-- of a task a beginning is in the cover, or a witness is held, or its budget is spent
abbrev IsEnded : KnowledgeOf → ℕ → List Decision → Type 0
IsEnded k budget t = IsCovered k.held.cover t ⊎ (HasWitness k.held ⊎ SpentBy k.plan.objects (hist k.held.facts) t budget)

-- a task that ended by what was taken ended by what is held
ended_by : (k : KnowledgeOf) (atoms : List KnownAtom) (budget : ℕ) (t : List Decision) → k.held ≡ norm_of atoms →
    IsEndedBy atoms k.plan.objects (hist k.held.facts) budget t → IsEnded k budget t
ended_by k atoms budget t took (inl there) = inl (subst (λ (n : Held). IsCovered n.cover t) (sym took) (((known_kept atoms).refuted t).0 there))
ended_by k atoms budget t took (inr (inl some)) = inr (inl (subst HasWitness (sym took) ((known_kept atoms).shown.0 some)))
ended_by k atoms budget t took (inr (inr spent)) = inr (inr spent)

-- all tasks are covered, or one is spent, where no witness is held
all_or_one : (k : KnowledgeOf) (budget : ℕ) (ts : List (List Decision)) → k.held.witness ≡ None → ((t : List Decision) → Contains ts t → IsEnded k budget t) →
    ((t : List Decision) → Contains ts t → IsCovered k.held.cover t) ⊎ ((t : List Decision) × (Contains ts t × SpentBy k.plan.objects (hist k.held.facts) t budget))
all_or_one k budget [] none ended = inl (λ t (i, inside, is). absurd (omega arith))
all_or_one k budget (x ∷ ts) none ended = elim (ended x (0, omega arith, refl)) [
  | inl there ↦ elim (all_or_one k budget ts none (λ t (i, inside, is). ended t (suc i, omega arith, is))) [
    | inl all ↦ inl (first x ts there all)
    | inr (t, ((i, inside, is), spent)) ↦ inr (t, ((suc i, omega arith, is), spent))
  ]
  | inr other ↦ elim other [
    | inl (p, known) ↦ absurd (cc)
    | inr spent ↦ inr (x, ((0, omega arith, refl), spent))
  ]
]
  where
    first : (x : List Decision) (ts : List (List Decision)) → IsCovered k.held.cover x → ((t : List Decision) → Contains ts t → IsCovered k.held.cover t) →
        (t : List Decision) → Contains (x ∷ ts) t → IsCovered k.held.cover t
    first x ts there all t (zero, inside, is) = subst (λ l. IsCovered k.held.cover l) is there
    first x ts there all t (suc i, inside, is) = all t (i, omega arith, is)

module _ (k : KnowledgeOf) (depth budget : ℕ) (tasks : List (List Decision)) (truth : IsKnowledge k.plan k.held)
    (sealed : fact_status k.plan.logs k.held.facts ≡ status.Sealed) (well : IsWellFormed (hist k.held.facts))
    (whole_split : AreTasks k.plan.objects (hist k.held.facts) [] depth tasks) (ended : (t : List Decision) → Contains tasks t → IsEnded k budget t) where
  -- a task with a beginning in the cover is refuted
  covered-refuted : (t : List Decision) → IsCovered k.held.cover t → Refuted k.plan.objects (hist k.held.facts) t
  covered-refuted t (q, (rest, (member, is))) =
      subst (λ l. Refuted k.plan.objects (hist k.held.facts) l) (sym is)
      (Refuted-append k.plan.objects (hist k.held.facts) q rest (truth.true_for.refuted (quiet quiet_is_no_conflict k truth sealed) q member).1)

  unfinished : k.held.witness ≡ None → (IsClosed k.plan.objects (hist k.held.facts) k.held.cover [] → ⊥) → AreUnfinished k.plan.objects (hist k.held.facts) budget tasks
  unfinished none open_still = record {
    each = λ t member. elim (ended t member) [
      | inl there ↦ inl (covered-refuted t there)
      | inr other ↦ elim other [ inl (p, known) ↦ absurd (cc) | inr spent ↦ inr spent ]
    ];
    one = elim (all_or_one k budget tasks none ended) [
      | inl all ↦ absurd (open_still (tasks_closed k.plan.objects (hist k.held.facts) k.held.cover [] depth tasks whole_split all))
      | inr found ↦ found
    ];
  }

  of_witness : (X : Type 0) (v : Verdict X) (w : Option (List Decision)) → k.held.witness ≡ w →
      OfWellFormed (IsClosed k.plan.objects (hist k.held.facts) k.held.cover []) w v → Says k.plan.objects (hist k.held.facts) budget tasks v
  of_witness X v (Some p) known is =
      subst (λ u. Says k.plan.objects (hist k.held.facts) budget tasks u) (sym is) (witness_shows quiet_is_no_conflict k truth sealed p known).1
  of_witness X v None none (inl (is, closed)) =
      subst (λ u. Says k.plan.objects (hist k.held.facts) budget tasks u) (sym is) (closed_refutes quiet_is_no_conflict k truth sealed closed-refuted well closed).1
  of_witness X v None none (inr (is, open_still)) =
      subst (λ u. Says k.plan.objects (hist k.held.facts) budget tasks u) (sym is) (unfinished none open_still)

  said_of_held : (X : Type 0) (v : Verdict X) → IsVerdict k v → Says k.plan.objects (hist k.held.facts) budget tasks v
  said_of_held X v said =
      elim (subst (λ s. OfStatus k.plan k.held s v) sealed said) [
        | inl (stamp, (rule, (fault, is))) ↦ absurd (no_fault (hist k.held.facts) stamp rule fault well)
        | inr (fine, of) ↦ of_witness X v k.held.witness refl of
      ]

-- # By what was taken

module _ (k : KnowledgeOf) (atoms : List KnownAtom) (s : SealedOf) (depth budget : ℕ) (tasks : List (List Decision)) (it : IsSearched k atoms s depth budget tasks)
    (sealed : fact_status k.plan.logs k.held.facts ≡ status.Sealed) where
  -- the part is all facts
  all_facts : k.held.facts ≡ s.facts.facts
  all_facts =
      sealed_is_all k.plan s.facts.facts k.held.facts it.ordered it.truth.normal.facts it.truth.sound
      (subst (λ (p : PlanOf). fact_status p.logs s.facts.facts ≡ status.Sealed) it.plan it.sealed.sealed) it.part (quiet quiet_is_no_conflict k it.truth sealed)

  abbrev theirs : List Declared × History
  theirs = (s.facts.plan.objects, s.history)

  abbrev ours : List Declared × History
  ours = (k.plan.objects, hist k.held.facts)

  same : theirs ≡ ours
  same = let events : s.history ≡ hist k.held.facts = it.sealed.events ∙ ap hist (sym all_facts) in λ i. ((it.plan i).objects, events i)

  said_of_part : (X : Type 0) (v : Verdict X) → IsVerdict k v → Says s.facts.plan.objects s.history budget tasks v
  said_of_part X v said =
      subst (λ (w : List Declared × History). Says w.0 w.1 budget tasks v) (sym same)
      (said_of_held k depth budget tasks it.truth sealed (subst IsWellFormed (ap (λ (w : List Declared × History). w.1) same) it.well_formed)
      (subst (λ (w : List Declared × History). AreTasks w.0 w.1 [] depth tasks) same it.whole_split)
      (λ t member. ended_by k atoms budget t it.took (subst (λ (w : List Declared × History). IsEndedBy atoms w.0 w.1 budget t) same (it.ended t member)))
      X v said)

-- a verdict is one on facts that are not sealed, or they are
unsealed_or_sealed : (X : Type 0) (k : KnowledgeOf) (v : Verdict X) → IsVerdict k v → IsUnsealed v ⊎ (fact_status k.plan.logs k.held.facts ≡ status.Sealed)
unsealed_or_sealed X k v said = go (fact_status k.plan.logs k.held.facts) refl said
  where
    go : (s : FactStatus) → fact_status k.plan.logs k.held.facts ≡ s → OfStatus k.plan k.held s v → IsUnsealed v ⊎ (fact_status k.plan.logs k.held.facts ≡ status.Sealed)
    go (status.Conflict kind log at) is e = inl (subst (λ (u : Verdict X). IsUnsealed u) (sym e) tt)
    go (status.Waiting log) is e = inl (subst (λ (u : Verdict X). IsUnsealed u) (sym e) tt)
    go (status.Gap stamp) is e = inl (subst (λ (u : Verdict X). IsUnsealed u) (sym e) tt)
    go status.Sealed is e = inr is

pub search_said : (X : Type 0) → SearchIsSaid X
search_said X k atoms s depth budget tasks v it said = elim (unsealed_or_sealed X k v said) [
  | inl early ↦ inl early
  | inr sealed ↦ inr (all_facts k atoms s depth budget tasks it sealed, said_of_part k atoms s depth budget tasks it sealed X v said)
]
