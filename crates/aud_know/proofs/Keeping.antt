-- What is taken keeps what the type of a Knowledge promises.
use Rattle.std.specs.Prelude.{◌≡◌, ◌∷◌, [], zero, suc, List, Some, None, map, refl}
use Rattle.std.specs.List.{Contains, AllByRecursion}
use Rattle.std.specs.Cmp.{IsTotalOrder}
use Rattle.std.specs.Cmp.Lexicographic.{slice_cmp}
use Rattle.std.proofs.Common.{sym, subst, arith}
use Rattle.aud_event.specs.Meanings.{PlanOf}
use Rattle.aud_event.specs.Facts.{first_fact_fault}
use Rattle.aud_event.specs.Exactness.{fact_exact}
use Rattle.aud_event.specs.declared.fact.Fact.{Fact}
use Rattle.aud_event.specs.contracts.fact.FactOrd.TheImpl as fact_order
use Rattle.aud_event.specs.contracts.fact.FactOrd.TheImpl.Laws as fact_laws
use Rattle.aud_lattice.specs.Covers.{with_list}
use Rattle.aud_lattice.specs.Least.{least_of}
use Rattle.base_sorted.proofs.Members.{member_of, has_member}
use Rattle.base_sorted.specs.Sets.{with_item, union}
use Rattle.aud_facts.specs.Order.{AreOrdered}
use Rattle.aud_facts.specs.Quiet.{AreQuiet, SealedIsAll}
use Rattle.aud_facts.specs.Sets.{FactsOf, AreSound}
use Rattle.aud_facts.specs.Status.{hist}
use Rattle.aud_facts.proofs.Inserted.{all_with, all_joined}
use Rattle.aud_witness.specs.declared.decision.Decision.{Decision}
use Rattle.aud_witness.specs.DecisionOrder.{decision_cmp, decisions_total, decision_exact}
use Rattle.aud_witness.specs.Orders.{Refuted, Shows}
use Rattle.aud_know.specs.Norms.{fact, refuted, shown, merge, atoms_of, IsNormal}
use Rattle.aud_know.specs.Known.{Held, KnownAtom, norm_of, Takes}
use Rattle.aud_know.specs.Truth.{AreWhole, IsTrue, IsKnowledge}
use Rattle.aud_know.specs.Findings.{IsTrueFinding}
use Rattle.aud_know.proofs.Norming.{is_normal, norm_atoms}
use Rattle.aud_know.proofs.Truths.{IsWithin, QuietParts, WholeStays, IsTrueFor}
use Rattle.aud_know.proofs.Taking.{takes, with_fact, with_refuted, with_shown, with_known, fact_true, refuted_true, shown_true, with_true}

pub fact_total : IsTotalOrder fact_order.ghosts.cmp
fact_total = fact_laws.total-law

-- facts that conflict nowhere and pass the plan's check
abbrev IsCalm : PlanOf → List Fact → Type 0
IsCalm plan facts = AreQuiet facts × AreSound plan facts

abbrev Refutes : PlanOf → List Fact → List Decision → Type 0
Refutes plan facts p = Refuted plan.objects (hist facts) p

abbrev Witnessed : PlanOf → List Fact → List Decision → Type 0
Witnessed plan facts p = Shows plan.objects (hist facts) p

abbrev IsTrueUnder : PlanOf → Held → Type 0
IsTrueUnder plan held = IsTrueFor (IsCalm plan) (AreWhole plan) (Refutes plan) (Witnessed plan) held

each_of : (P : Fact → Type 0) (xs : List Fact) → AllByRecursion P xs → (f : Fact) → Contains xs f → P f
each_of P [] all f h = absurd (let lt = h.1 in omega arith)
each_of P (x ∷ xs) all f (zero, lt, e) = subst P e all.0
each_of P (x ∷ xs) all f (suc i, lt, e) = each_of P xs all.1 f (i, omega (arith, lt), e)

all_of : (P : Fact → Type 0) (xs : List Fact) → ((f : Fact) → Contains xs f → P f) → AllByRecursion P xs
all_of P [] each = tt
all_of P (x ∷ xs) each = (each x (0, omega arith, refl), all_of P xs (λ f h. each f (suc h.0, (let lt = h.1 in omega arith), h.2)))

among : (xs ys : List Fact) → IsWithin fact_order.ghosts.cmp xs ys → (f : Fact) → Contains xs f → Contains ys f
among xs ys within f h = member_of fact_total fact_exact ys f (within f (has_member fact_total fact_exact xs f h))

calm_parts : (plan : PlanOf) → QuietParts fact_order.ghosts.cmp (IsCalm plan)
calm_parts plan xs ys within calm = (
  (λ k f g hf hg. calm.0 k f g (among xs ys within f hf) (among xs ys within g hg)),
  all_of (λ f. first_fact_fault plan f ≡ None) xs (λ f h. each_of (λ g. first_fact_fault plan g ≡ None) ys calm.1 f (among xs ys within f h)),
)

whole_stays : SealedIsAll → (plan : PlanOf) → WholeStays fact_order.ghosts.cmp (IsCalm plan) (AreWhole plan)
whole_stays law plan xs ys s t within whole calm = law plan xs ys s t calm.1 whole.sealed (among xs ys within) calm.0

weaken : (plan : PlanOf) (n : Held) → IsTrue plan n → IsTrueUnder plan n
weaken plan n t = record { refuted = λ calm p h. t.refuted calm.0 p h; shown = λ calm p e. t.shown calm.0 p e }

strengthen : (plan : PlanOf) (n : Held) → AreSound plan n.facts → IsTrueUnder plan n → IsTrue plan n
strengthen plan n sound t = record { refuted = λ quiet p h. t.refuted (quiet, sound) p h; shown = λ quiet p e. t.shown (quiet, sound) p e }

-- nothing is known
pub empty_keeps : (plan : PlanOf) → IsKnowledge plan (norm_of [])
empty_keeps plan = record {
  normal = is_normal fact_total fact_exact decisions_total decision_exact [];
  sound = tt;
  true_for = record { refuted = λ _ q h. absurd (let lt = h.1 in omega arith); shown = λ _ q e. absurd (cc) };
}

-- facts are known, and nothing was found of them
pub facts_keep : (plan : PlanOf) (facts : List Fact) → AreOrdered facts → AreSound plan facts → IsKnowledge plan (record { facts = facts; cover = []; witness = None })
facts_keep plan facts ordered sound = record {
  normal = record { facts = ordered; cover = (empty_keeps plan).normal.cover };
  sound = sound;
  true_for = record { refuted = λ _ q h. absurd (let lt = h.1 in omega arith); shown = λ _ q e. absurd (cc) };
}

module _ (law : SealedIsAll) (plan : PlanOf) where
  -- what is merged with true atoms
  with_atoms : (n m : Held) (atoms : List KnownAtom) → IsKnowledge plan n → AreSound plan m.facts → IsTrueUnder plan (norm_of atoms) → m ≡ merge fact_order.ghosts.cmp decision_cmp n (norm_of atoms) → IsKnowledge plan m
  with_atoms n m atoms k sound t e =
      let both = with_true fact_total fact_exact decisions_total decision_exact (IsCalm plan) (AreWhole plan) (Refutes plan) (Witnessed plan) (calm_parts plan) (whole_stays law plan) n m atoms k.normal (weaken plan n k.true_for) t e in
      record { normal = both.0; sound = sound; true_for = strengthen plan m sound both.1 }

  pub fact_keeps : (n : Held) (f : Fact) → IsKnowledge plan n → first_fact_fault plan f ≡ None →
      IsKnowledge plan (record { facts = with_item fact_order.ghosts.cmp f n.facts; cover = n.cover; witness = n.witness })
  fact_keeps n f k fits =
      with_atoms n (record { facts = with_item fact_order.ghosts.cmp f n.facts; cover = n.cover; witness = n.witness }) (fact f ∷ []) k
      (all_with (λ g. first_fact_fault plan g ≡ None) fact_order.ghosts.cmp f n.facts fits k.sound)
      (fact_true fact_total fact_exact decisions_total decision_exact (IsCalm plan) (AreWhole plan) (Refutes plan) (Witnessed plan) (calm_parts plan) (whole_stays law plan) f)
      (with_fact fact_total fact_exact decisions_total decision_exact n f k.normal)

  pub refuted_keeps : (n : Held) (g : FactsOf) (p : List Decision) → IsKnowledge plan n → g.plan ≡ plan → IsTrueFinding (record { facts = g; claim = refuted p }) →
      IsKnowledge plan (record { facts = union fact_order.ghosts.cmp n.facts g.facts; cover = with_list decision_cmp p n.cover; witness = n.witness })
  refuted_keeps n g p k same t =
      with_atoms n (record { facts = union fact_order.ghosts.cmp n.facts g.facts; cover = with_list decision_cmp p n.cover; witness = n.witness }) (refuted p ∷ map fact g.facts) k
      (all_joined (λ f. first_fact_fault plan f ≡ None) fact_order.ghosts.cmp n.facts g.facts k.sound (subst (λ (q : PlanOf). AreSound q g.facts) same t.sound))
      (refuted_true fact_total fact_exact decisions_total decision_exact (IsCalm plan) (AreWhole plan) (Refutes plan) (Witnessed plan) (calm_parts plan) (whole_stays law plan) g.facts p t.ordered
      (subst (λ (q : PlanOf). AreWhole q g.facts) same t.whole) (subst (λ (q : PlanOf). Refuted q.objects (hist g.facts) p) same t.holds))
      (with_refuted fact_total fact_exact decisions_total decision_exact n g.facts p k.normal t.ordered)

  pub shown_keeps : (n : Held) (g : FactsOf) (p : List Decision) → IsKnowledge plan n → g.plan ≡ plan → IsTrueFinding (record { facts = g; claim = shown p }) →
      IsKnowledge plan (record { facts = union fact_order.ghosts.cmp n.facts g.facts; cover = n.cover; witness = least_of (slice_cmp decision_cmp) n.witness (Some p) })
  shown_keeps n g p k same t =
      with_atoms n (record { facts = union fact_order.ghosts.cmp n.facts g.facts; cover = n.cover; witness = least_of (slice_cmp decision_cmp) n.witness (Some p) }) (shown p ∷ map fact g.facts) k
      (all_joined (λ f. first_fact_fault plan f ≡ None) fact_order.ghosts.cmp n.facts g.facts k.sound (subst (λ (q : PlanOf). AreSound q g.facts) same t.sound))
      (shown_true fact_total fact_exact decisions_total decision_exact (IsCalm plan) (AreWhole plan) (Refutes plan) (Witnessed plan) (calm_parts plan) (whole_stays law plan) g.facts p t.ordered
      (subst (λ (q : PlanOf). AreWhole q g.facts) same t.whole) (subst (λ (q : PlanOf). Shows q.objects (hist g.facts) p) same t.holds))
      (with_shown fact_total fact_exact decisions_total decision_exact n g.facts p k.normal t.ordered)

  pub known_keeps : (n m : Held) (other : PlanOf) → IsKnowledge plan n → IsKnowledge other m → other ≡ plan → IsKnowledge plan (merge fact_order.ghosts.cmp decision_cmp n m)
  known_keeps n m other k l same =
      let theirs : IsKnowledge plan m = subst (λ (q : PlanOf). IsKnowledge q m) same l in
      with_atoms n (merge fact_order.ghosts.cmp decision_cmp n m) (atoms_of m) k
      (all_joined (λ f. first_fact_fault plan f ≡ None) fact_order.ghosts.cmp n.facts m.facts k.sound theirs.sound)
      (subst (IsTrueUnder plan) (sym (whole_again m theirs.normal)) (weaken plan m theirs.true_for))
      (with_known fact_total fact_exact decisions_total decision_exact n m theirs.normal)
    where
      whole_again : (l : Held) → IsNormal fact_order.ghosts.cmp decision_cmp l → norm_of (atoms_of l) ≡ l
      whole_again l a = norm_atoms fact_total fact_exact decisions_total decision_exact l a

-- the values that takes leave
pub takes_fact : (n : Held) (f : Fact) → IsNormal fact_order.ghosts.cmp decision_cmp n →
    Takes n (record { facts = with_item fact_order.ghosts.cmp f n.facts; cover = n.cover; witness = n.witness }) (fact f ∷ [])
takes_fact n f a = takes fact_total fact_exact decisions_total decision_exact n _ (fact f ∷ []) (with_fact fact_total fact_exact decisions_total decision_exact n f a)

pub takes_refuted : (n : Held) (facts : List Fact) (p : List Decision) → IsNormal fact_order.ghosts.cmp decision_cmp n → AreOrdered facts →
    Takes n (record { facts = union fact_order.ghosts.cmp n.facts facts; cover = with_list decision_cmp p n.cover; witness = n.witness }) (refuted p ∷ map fact facts)
takes_refuted n facts p a s = takes fact_total fact_exact decisions_total decision_exact n _ (refuted p ∷ map fact facts) (with_refuted fact_total fact_exact decisions_total decision_exact n facts p a s)

pub takes_shown : (n : Held) (facts : List Fact) (p : List Decision) → IsNormal fact_order.ghosts.cmp decision_cmp n → AreOrdered facts →
    Takes n (record { facts = union fact_order.ghosts.cmp n.facts facts; cover = n.cover; witness = least_of (slice_cmp decision_cmp) n.witness (Some p) }) (shown p ∷ map fact facts)
takes_shown n facts p a s = takes fact_total fact_exact decisions_total decision_exact n _ (shown p ∷ map fact facts) (with_shown fact_total fact_exact decisions_total decision_exact n facts p a s)

pub takes_known : (n m : Held) → IsNormal fact_order.ghosts.cmp decision_cmp m → Takes n (merge fact_order.ghosts.cmp decision_cmp n m) (atoms_of m)
takes_known n m a = takes fact_total fact_exact decisions_total decision_exact n (merge fact_order.ghosts.cmp decision_cmp n m) (atoms_of m) (with_known fact_total fact_exact decisions_total decision_exact n m a)
