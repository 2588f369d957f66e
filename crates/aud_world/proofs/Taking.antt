-- What one node reports of an item that it took, or that was refused.
use Rattle.std.proofs.Common.{◌≡◌, ◌≢◌, ℕ, ◌<◌, List, ◌∷◌, [], length, slice_index_or, slice_set, refl, sym, ap, subst, ◌∙◌, arith}
use Rattle.std.specs.Prelude.{Option, Some, None, Result, Ok, Err, IsErrAnd, IfErr, zero, suc}
use Rattle.std.proofs.lemmas.Option.{slice_get_read}
use Rattle.aud_event.specs.Meanings.{PlanOf}
use Rattle.aud_event.specs.Facts.{first_fact_fault}
use Rattle.aud_event.specs.declared.fact.Fact.{Fact}
use Rattle.aud_know.specs.Known.{KnowledgeOf}
use Rattle.aud_know.specs.declared.fault.KnowFault.{KnowFault}
use Rattle.aud_know.specs.declared.fault.KnowFault.TheVariants as know_fault
use Rattle.aud_world.specs.Worlds.{AreOfPlan}
use Rattle.aud_world.specs.Faults.{fault_of, IsTakeFault, ReportsWhetherTaken}
use Rattle.aud_world.specs.declared.moves.MoveFault.{MoveFault}
use Rattle.aud_world.specs.declared.moves.MoveFault.TheVariants.{OutOfMemory}
use Rattle.aud_world.proofs.Gaining.{of_plan_at}

not_none : {A : Type 0} (x : A) (e : Path (Option A) (Some x) None) → ⊥
not_none x e = cc

not_refused : (x : Unit {0}) (d : KnowFault) (e : Path (Result (Unit {0}) KnowFault) (Ok x) (Err d)) → ⊥
not_refused x d e = cc

not_mismatch : (e : Path (Result (Unit {0}) KnowFault) (Err know_fault.OutOfMemory) (Err know_fault.PlanMismatch)) → ⊥
not_mismatch e = cc

none_unless : {A : Type 0} (o : Option A) → (o ≢ None → ⊥) → o ≡ None
none_unless None h = refl
none_unless (Some x) h = absurd (h (λ e. not_none x e))

-- a refused call left the node, so it left the nodes
pub put_back : (old : List KnowledgeOf) (n : ℕ) (k k' : KnowledgeOf) → n < length old → k ≡ slice_index_or old n k → k' ≡ k → slice_set old n k' ≡ old
put_back [] n k k' lt here same = absurd (omega (arith, lt))
put_back (x ∷ old) zero k k' lt here same = ap (λ y. y ∷ old) (same ∙ here)
put_back (x ∷ old) (suc n) k k' lt here same = ap (λ l. x ∷ l) (put_back old n k k' (omega (arith, lt)) here same)

reports : {V : Type 0} (P : Type 0) (d : MoveFault) (r : Result V MoveFault) → IsErrAnd r (λ e. e ≡ d) → IsTakeFault P d → ReportsWhetherTaken P r
reports P d (Ok x) is h = absurd is
reports P d (Err e) is h = subst (λ (m : MoveFault). IsTakeFault P m) (sym is) h

-- the node at the number
module _ (old : List KnowledgeOf) (n : ℕ) (k : KnowledgeOf) (lt : n < length old) (here : k ≡ slice_index_or old n k) where
  its_plan : (plan : PlanOf) → AreOfPlan plan old → k.plan ≡ plan
  its_plan plan all = of_plan_at plan old n k all (slice_get_read old (length old) n k refl lt here)

  -- a fact that it took fits the plan
  pub fits : (f : Fact) (x : Unit {0}) → (first_fact_fault k.plan f ≢ None → Path (Result (Unit {0}) KnowFault) (Ok x) (Err know_fault.PlanMismatch)) →
      (plan : PlanOf) → AreOfPlan plan old → first_fact_fault plan f ≡ None
  fits f x mismatch plan all =
      subst (λ p. first_fact_fault p f ≡ None) (its_plan plan all) (none_unless (first_fact_fault k.plan f) (λ h. not_refused x know_fault.PlanMismatch (mismatch h)))

  take_fault : (f : Fact) (d : KnowFault) → (Path (Result (Unit {0}) KnowFault) (Err d) (Err know_fault.PlanMismatch) → first_fact_fault k.plan f ≢ None) →
      (first_fact_fault k.plan f ≢ None → Path (Result (Unit {0}) KnowFault) (Err d) (Err know_fault.PlanMismatch)) → IsTakeFault (first_fact_fault k.plan f ≡ None) (fault_of d)
  take_fault f know_fault.PlanMismatch to from = to refl
  take_fault f know_fault.OutOfMemory to from = none_unless (first_fact_fault k.plan f) (λ h. not_mismatch (from h))

  -- why a fact was refused
  pub unfit : {V : Type 0} (f : Fact) (d : KnowFault) (r : Result V MoveFault) → IsErrAnd r (λ e. e ≡ fault_of d) →
      (Path (Result (Unit {0}) KnowFault) (Err d) (Err know_fault.PlanMismatch) → first_fact_fault k.plan f ≢ None) →
      (first_fact_fault k.plan f ≢ None → Path (Result (Unit {0}) KnowFault) (Err d) (Err know_fault.PlanMismatch)) →
      (plan : PlanOf) → AreOfPlan plan old → ReportsWhetherTaken (first_fact_fault plan f ≡ None) r
  unfit f d r is to from plan all =
      subst (λ p. ReportsWhetherTaken (first_fact_fault p f ≡ None) r) (its_plan plan all) (reports (first_fact_fault k.plan f ≡ None) (fault_of d) r is (take_fault f d to from))

  no_memory : (plan : PlanOf) (d : KnowFault) → (Path (Result (Unit {0}) KnowFault) (Err d) (Err know_fault.PlanMismatch) → plan ≢ k.plan) → AreOfPlan plan old → fault_of d ≡ OutOfMemory
  no_memory plan know_fault.PlanMismatch to all = absurd (to refl (sym (its_plan plan all)))
  no_memory plan know_fault.OutOfMemory to all = refl

  -- what is of the plan is refused for memory alone
  pub only_memory : {V : Type 0} (plan : PlanOf) (d : KnowFault) (r : Result V MoveFault) → IsErrAnd r (λ e. e ≡ fault_of d) →
      (Path (Result (Unit {0}) KnowFault) (Err d) (Err know_fault.PlanMismatch) → plan ≢ k.plan) → AreOfPlan plan old → IfErr r (λ e. e ≡ OutOfMemory)
  only_memory plan d (Ok x) is to all = absurd is
  only_memory plan d (Err e) is to all = is ∙ no_memory plan d to all
