-- The normal form of atoms whose findings are true is a Knowledge.
use Rattle.std.proofs.Common.{◌≡◌, ℕ, zero, suc, ◌<◌, List, [], ◌∷◌, refl, sym, subst, arith, ◌⊎◌, inl, inr, ◌↔◌}
use Rattle.std.specs.Prelude.{Option, Some, None}
use Rattle.std.specs.declared.cmp.Ordering.{Ordering}
use Rattle.std.specs.declared.cmp.Ordering.TheVariants.{Less, Equal, Greater}
use Rattle.std.specs.List.{Contains, AllByRecursion}
use Rattle.std.specs.List.Sorted.{IsStrictlySortedBy}
use Rattle.std.specs.Cmp.Lexicographic.{slice_cmp}
use Rattle.std.proofs.lemmas.List.Elements.{Contains-append_right}
use Rattle.aud_event.specs.Meanings.{PlanOf}
use Rattle.aud_event.specs.Facts.{first_fact_fault}
use Rattle.aud_event.specs.declared.fact.Fact.{Fact}
use Rattle.aud_event.specs.Exactness.{fact_exact}
use Rattle.base_sorted.specs.Sets.{by_order}
use Rattle.base_sorted.specs.Sorted.{sorted_union}
use Rattle.base_sorted.proofs.Members.{contains_union}
use Rattle.aud_lattice.specs.Covers.{IsCover}
use Rattle.aud_lattice.specs.Covering.{cover_cover_union}
use Rattle.aud_lattice.proofs.Minimal.{kept}
use Rattle.aud_lattice.specs.Least.{least_of}
use Rattle.aud_facts.specs.Sets.{AreSound}
use Rattle.aud_facts.specs.Status.{fact_status}
use Rattle.aud_facts.specs.declared.status.FactStatus.TheVariants.{Sealed}
use Rattle.aud_facts.specs.Quiet.{AreQuiet, SealedIsAll}
use Rattle.aud_facts.specs.Order.{AreOrdered}
use Rattle.aud_witness.specs.declared.decision.Decision.{Decision}
use Rattle.aud_witness.specs.DecisionOrder.{decision_cmp, decisions_total, decision_exact}
use Rattle.aud_know.specs.Norms.{fact, refuted, shown, facts_of, refuted_of, shown_of, least_in}
use Rattle.aud_know.specs.Known.{KnownAtom, norm_of}
use Rattle.aud_know.specs.Truth.{AreWhole, IsKnowledge}
use Rattle.aud_know.specs.Findings.{FindingOf, Holds, IsTrueFinding}
use Rattle.aud_know.proofs.Keeping.{fact_total}
use Rattle.aud_lattice.proofs.Tries.{same_some}

-- an element further on
pub later : {A : Type 0} (x : A) (xs : List A) (y : A) → Contains xs y → Contains (x ∷ xs) y
later x xs y h = Contains-append_right (x ∷ []) xs y h

pub first : {A : Type 0} (x : A) (xs : List A) → Contains (x ∷ xs) x
first x xs = (0, omega arith, refl)

pub nowhere : {A : Type 0} (y : A) → Contains [] y → ⊥
nowhere y h = none h.0 h.1
  where
    none : (k : ℕ) → k < 0 → ⊥
    none k lt = omega (arith, lt)

pub head_or_later : {A : Type 0} (x : A) (xs : List A) (y : A) → Contains (x ∷ xs) y → (y ≡ x) ⊎ Contains xs y
head_or_later x xs y (zero, lt, e) = inl (sym e)
head_or_later x xs y (suc k, lt, e) = inr (k, omega (arith, lt), e)

same_fact : (f e : Fact) (same : Path KnownAtom (fact f) (fact e)) → f ≡ e
same_fact f e same = cc

not_refuted : (f : Fact) (p : List Decision) (same : Path KnownAtom (fact f) (refuted p)) → ⊥
not_refuted f p same = cc

not_shown : (f : Fact) (p : List Decision) (same : Path KnownAtom (fact f) (shown p)) → ⊥
not_shown f p same = cc

-- an atom among atoms is among the part of its kind, and back
pub fact_there : (xs : List KnownAtom) (f : Fact) → Contains xs (fact f) → Contains (facts_of xs) f
fact_there [] f h = absurd (nowhere (fact f) h)
fact_there (fact e ∷ xs) f h = elim (head_or_later (fact e) xs (fact f) h) [ inl same ↦ subst (λ g. Contains (g ∷ facts_of xs) f) (same_fact f e same) (first f (facts_of xs)) | inr rest ↦ later e (facts_of xs) f (fact_there xs f rest) ]
fact_there (refuted p ∷ xs) f h = elim (head_or_later (refuted p) xs (fact f) h) [ inl same ↦ absurd (not_refuted f p same) | inr rest ↦ fact_there xs f rest ]
fact_there (shown p ∷ xs) f h = elim (head_or_later (shown p) xs (fact f) h) [ inl same ↦ absurd (not_shown f p same) | inr rest ↦ fact_there xs f rest ]

pub there_fact : (xs : List KnownAtom) (f : Fact) → Contains (facts_of xs) f → Contains xs (fact f)
there_fact [] f h = absurd (nowhere f h)
there_fact (fact e ∷ xs) f h = elim (head_or_later e (facts_of xs) f h) [ inl same ↦ subst (λ a. Contains (fact e ∷ xs) (fact a)) (sym same) (first (fact e) xs) | inr rest ↦ later (fact e) xs (fact f) (there_fact xs f rest) ]
there_fact (refuted p ∷ xs) f h = later (refuted p) xs (fact f) (there_fact xs f h)
there_fact (shown p ∷ xs) f h = later (shown p) xs (fact f) (there_fact xs f h)

pub there_refuted : (xs : List KnownAtom) (p : List Decision) → Contains (refuted_of xs) p → Contains xs (refuted p)
there_refuted [] p h = absurd (nowhere p h)
there_refuted (refuted e ∷ xs) p h = elim (head_or_later e (refuted_of xs) p h) [ inl same ↦ subst (λ a. Contains (refuted e ∷ xs) (refuted a)) (sym same) (first (refuted e) xs) | inr rest ↦ later (refuted e) xs (refuted p) (there_refuted xs p rest) ]
there_refuted (fact f ∷ xs) p h = later (fact f) xs (refuted p) (there_refuted xs p h)
there_refuted (shown q ∷ xs) p h = later (shown q) xs (refuted p) (there_refuted xs p h)

there_shown : (xs : List KnownAtom) (p : List Decision) → Contains (shown_of xs) p → Contains xs (shown p)
there_shown [] p h = absurd (nowhere p h)
there_shown (shown e ∷ xs) p h = elim (head_or_later e (shown_of xs) p h) [ inl same ↦ subst (λ a. Contains (shown e ∷ xs) (shown a)) (sym same) (first (shown e) xs) | inr rest ↦ later (shown e) xs (shown p) (there_shown xs p rest) ]
there_shown (fact f ∷ xs) p h = later (fact f) xs (shown p) (there_shown xs p h)
there_shown (refuted q ∷ xs) p h = later (refuted q) xs (shown p) (there_shown xs p h)

lesser_there : {T : Type 0} (y : T) (ys : List T) (x z : T) (o : Ordering) → (Some z ≡ Some x → Contains ys x) → by_order o (Some y) (Some y) (Some z) ≡ Some x → Contains (y ∷ ys) x
lesser_there y ys x z Less rest e = subst (Contains (y ∷ ys)) (same_some y x e) (first y ys)
lesser_there y ys x z Equal rest e = subst (Contains (y ∷ ys)) (same_some y x e) (first y ys)
lesser_there y ys x z Greater rest e = later y ys x (rest e)

least_of_there : {T : Type 0} (cmp : T → T → Ordering) (y : T) (ys : List T) (x : T) (o : Option T) → (o ≡ Some x → Contains ys x) → least_of cmp (Some y) o ≡ Some x → Contains (y ∷ ys) x
least_of_there cmp y ys x None rest e = subst (Contains (y ∷ ys)) (same_some y x e) (first y ys)
least_of_there cmp y ys x (Some z) rest e = lesser_there y ys x z (cmp y z) rest e

no_least : {T : Type 0} (x : T) (e : Path (Option T) None (Some x)) → ⊥
no_least x e = cc

least_there : {T : Type 0} (cmp : T → T → Ordering) (xs : List T) (x : T) → least_in cmp xs ≡ Some x → Contains xs x
least_there cmp [] x e = absurd (no_least x e)
least_there cmp (y ∷ ys) x e = least_of_there cmp y ys x (least_in cmp ys) (λ r. least_there cmp ys x r) e

-- what holds of each element holds of all
all_of : {T : Type 0} (P : T → Type 0) (xs : List T) → ((x : T) → Contains xs x → P x) → AllByRecursion P xs
all_of P [] h = tt
all_of P (x ∷ xs) h = (h x (first x xs), all_of P xs (λ y k. h y (later x xs y k)))

-- the finding that an atom stands for: it is true, of the plan, and its facts are among the atoms
pub record IsFoundIn (plan : PlanOf) (xs : List KnownAtom) (a : KnownAtom) : Type 0 where
  pub finding : FindingOf
  pub is_true : IsTrueFinding finding
  pub of_plan : finding.facts.plan ≡ plan
  pub claims : finding.claim ≡ a
  pub among : (f : Fact) → Contains finding.facts.facts f → Contains xs (fact f)

-- a fact passes the plan's check, and what else is said was found
abbrev pub IsBacked : PlanOf → List KnownAtom → KnownAtom → Type 0
IsBacked plan xs (fact f) = first_fact_fault plan f ≡ None
IsBacked plan xs (refuted p) = IsFoundIn plan xs (refuted p)
IsBacked plan xs (shown p) = IsFoundIn plan xs (shown p)

abbrev pub AreBacked : PlanOf → List KnownAtom → Type 0
AreBacked plan xs = (a : KnownAtom) → Contains xs a → IsBacked plan xs a

-- the facts of a normal form are those of its atoms
pub norm_facts : (xs : List KnownAtom) (f : Fact) → Contains (norm_of xs).facts f ↔ Contains xs (fact f)
norm_facts xs f = (from, to)
  where
    from : Contains (norm_of xs).facts f → Contains xs (fact f)
    from h = elim ((contains_union fact_total fact_exact (facts_of xs) [] f).0 h) [ inl a ↦ there_fact xs f a | inr b ↦ absurd (nowhere f b) ]

    to : Contains xs (fact f) → Contains (norm_of xs).facts f
    to h = (contains_union fact_total fact_exact (facts_of xs) [] f).1 (inl (fact_there xs f h))

pub norm_ordered : (xs : List KnownAtom) → AreOrdered (norm_of xs).facts
unfolding IsStrictlySortedBy
norm_ordered xs = sorted_union fact_total (facts_of xs) [] tt

norm_cover : (xs : List KnownAtom) → IsCover decision_cmp (norm_of xs).cover
unfolding IsStrictlySortedBy
norm_cover xs = cover_cover_union decisions_total (refuted_of xs) [] tt

cover_there : (xs : List KnownAtom) (p : List Decision) → Contains (norm_of xs).cover p → Contains xs (refuted p)
unfolding IsStrictlySortedBy
cover_there xs p h = elim (kept decisions_total decision_exact (refuted_of xs) [] tt p h).there [ inl a ↦ there_refuted xs p a | inr b ↦ absurd (nowhere p b) ]

witness_there : (xs : List KnownAtom) (p : List Decision) → (norm_of xs).witness ≡ Some p → Contains xs (shown p)
witness_there xs p e = there_shown xs p (least_there (slice_cmp decision_cmp) (shown_of xs) p e)

pub norm_sound : (plan : PlanOf) (xs : List KnownAtom) → AreBacked plan xs → AreSound plan (norm_of xs).facts
norm_sound plan xs backed = all_of (λ f. first_fact_fault plan f ≡ None) (norm_of xs).facts (λ f h. backed (fact f) ((norm_facts xs f).0 h))

-- where the facts conflict nowhere, the finding's are all of them
module _ (all : SealedIsAll) (plan : PlanOf) (xs : List KnownAtom) (backed : AreBacked plan xs) where
  all_found : (a : KnownAtom) (t : IsFoundIn plan xs a) → AreQuiet (norm_of xs).facts → (norm_of xs).facts ≡ t.finding.facts.facts
  all_found a t quiet =
      all plan t.finding.facts.facts (norm_of xs).facts t.is_true.ordered (norm_ordered xs) (norm_sound plan xs backed)
      (subst (λ (p : PlanOf). fact_status p.logs t.finding.facts.facts ≡ Sealed) t.of_plan t.is_true.whole.sealed) (λ f h. (norm_facts xs f).1 (t.among f h)) quiet

  found_whole : (a : KnownAtom) (t : IsFoundIn plan xs a) → AreQuiet (norm_of xs).facts → AreWhole plan (norm_of xs).facts × Holds (record { plan = plan; facts = (norm_of xs).facts }) a
  found_whole a t quiet =
      subst (λ (fs : List Fact). AreWhole plan fs × Holds (record { plan = plan; facts = fs }) a) (sym (all_found a t quiet))
      (subst (λ (p : PlanOf). AreWhole p t.finding.facts.facts × Holds (record { plan = p; facts = t.finding.facts.facts }) a) t.of_plan
      (t.is_true.whole, subst (λ (c : KnownAtom). Holds t.finding.facts c) t.claims t.is_true.holds))

  pub is_knowledge : IsKnowledge plan (norm_of xs)
  is_knowledge = record {
    normal = record { facts = norm_ordered xs; cover = norm_cover xs };
    sound = norm_sound plan xs backed;
    true_for = record {
      refuted = λ quiet p h. found_whole (refuted p) (backed (refuted p) (cover_there xs p h)) quiet;
      shown = λ quiet p e. found_whole (shown p) (backed (shown p) (witness_there xs p e)) quiet;
    };
  }
