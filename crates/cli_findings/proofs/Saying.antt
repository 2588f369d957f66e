-- What an audit may say: what decide says, and the verdict on what is known.
use Rattle.std.proofs.Common.{◌≡◌, ℕ, List, [], Option, Some, None, Result, Ok, Err, IfOk, false, Contains, sym, ap, subst, ◌∙◌, inl, inr}
use Rattle.std.specs.declared.alloc.Global.{Global}
use Rattle.aud_event.specs.Meanings.{PlanOf}
use Rattle.aud_event.specs.declared.fact.Fact.{Fact}
use Rattle.aud_facts.specs.Order.{AreOrdered}
use Rattle.aud_facts.specs.Sets.{FactsOf, SealedOf, IsSealedWith}
use Rattle.aud_facts.specs.Status.{fact_status, hist}
use Rattle.aud_history.specs.Histories.{History}
use Rattle.aud_witness.specs.declared.decision.Decision.{Decision}
use Rattle.aud_cover.specs.Closings.{IsClosed}
use Rattle.aud_know.specs.Known.{KnowledgeOf}
use Rattle.aud_know.specs.Laws.{KnowledgeIsNorm}
use Rattle.aud_know.specs.Norms.{atoms_of}
use Rattle.aud_know.specs.Truth.{AreRefutedAt, AreShownBy, IsKnowledge}
use Rattle.aud_know.specs.Verdicts.{IsVerdict, OfWellFormed, StatusReports, status_reported}
use Rattle.aud_know.specs.declared.verdict.Verdict.{Verdict}
use Rattle.aud_know.specs.declared.verdict.Verdict.TheVariants as verdict
use Rattle.aud_split.specs.Laws.{KnownIsKept, SearchIsSaid}
use Rattle.aud_split.specs.Searched.{AreUnfinished, IsSearched}
use Rattle.aud_report.specs.declared.said.Said.{Said}
use Rattle.aud_report.specs.declared.said.Said.TheVariants as said
use Rattle.cli_lines.specs.Line.{DecideSays, SetSays}
use Rattle.cli_findings.specs.Says.{AreLeftOpen, AuditSays}
use Rattle.cli_findings.specs.Searches.{HasAll, WasSearched, WasSearchedWith}
use Rattle.cli_findings.specs.declared.searching.TaskSearch.{TaskSearch}
use Rattle.cli_findings.proofs.Ending.{norm_knows}

-- # What decide says

pub audit_says : (budget : Option ℕ) (plan : PlanOf) (h : History) (s : Said) → DecideSays None false plan h s → AuditSays budget plan h s
audit_says None plan h s says = says
audit_says (Some b) plan h (said.Verdict (verdict.Conflict kind log at)) says = says
audit_says (Some b) plan h (said.Verdict (verdict.Waiting log)) says = says
audit_says (Some b) plan h (said.Verdict (verdict.Gap stamp)) says = says
audit_says (Some b) plan h (said.Verdict (verdict.IllFormed stamp rule)) says = says
audit_says (Some b) plan h (said.Verdict (verdict.Opaque p)) says = says
audit_says (Some b) plan h (said.Verdict verdict.NotOpaque) says = says
audit_says (Some b) plan h (said.Verdict verdict.Unfinished) says = absurd says
audit_says (Some b) plan h (said.OrderRefused e) says = says
audit_says (Some b) plan h (said.OrderTextRefused e) says = says
audit_says (Some b) plan h (said.PlanRefused e) says = says
audit_says (Some b) plan h (said.RecordRefused line e) says = says
audit_says (Some b) plan h (said.CertificateLineRefused line e) says = says
audit_says (Some b) plan h said.CertificateRefused says = says
audit_says (Some b) plan h (said.Certified cert) says = says
audit_says (Some b) plan h (said.Refuted lines) says = says
audit_says (Some b) plan h (said.RefutationLineRefused line) says = says

pub decided : (budget : Option ℕ) (plan : PlanOf) (facts : List Fact) (s : Said) → SetSays (DecideSays None false) plan facts s → SetSays (AuditSays budget) plan facts s
decided budget plan facts s = by_status (status_reported (fact_status plan.logs facts))
  where
    by_status : (o : Option (Verdict Global)) → StatusReports said.Verdict (hist facts) (DecideSays None false plan (hist facts)) o s → StatusReports said.Verdict (hist facts) (AuditSays budget plan (hist facts)) o s
    by_status (Some v) is = is
    by_status None (inl fault) = inl fault
    by_status None (inr (well, answer)) = inr (well, audit_says budget plan (hist facts) s answer)

-- # What is known

module _ (kept : KnownIsKept) (norm : KnowledgeIsNorm) (law : SearchIsSaid Global) (k : KnowledgeOf) (facts : FactsOf) (budget : Option ℕ) (truth : IsKnowledge k.plan k.held) (ordered : AreOrdered facts.facts) (all : HasAll facts k) where
  abbrev known : FactsOf
  known = record { plan = k.plan; facts = k.held.facts }

  same : facts ≡ known
  same = λ i. record { plan = sym all.0 i; facts = sym all.1 i }

  -- the tasks that are open
  open_tasks : (b : ℕ) (s : TaskSearch) → IsVerdict {X = Global} k verdict.Unfinished → WasSearched facts (Some b) k (Some s) → AreLeftOpen b k.plan (hist k.held.facts)
  open_tasks b s is (of_budget, (of_facts, ends)) =
      let sealed : SealedOf = s.shape.value.sealed in
      let here : sealed.facts ≡ known = of_facts.facts_are ∙ same in
      let took = ap (λ (j : KnowledgeOf). j.held) (norm k truth) in
      let searched : IsSearched k (atoms_of k.held) sealed 2 s.budget s.tasks.items = record {
        truth = truth;
        took = took;
        plan = ap (λ (f : FactsOf). f.plan) here;
        part = λ f there. subst (λ (l : List Fact). Contains l f) (ap (λ (g : FactsOf). g.facts) here) there;
        ordered = subst (λ (f : FactsOf). AreOrdered f.facts) (sym of_facts.facts_are) ordered;
        sealed = subst (λ (f : FactsOf). IsSealedWith f sealed.history) (sym of_facts.facts_are) of_facts.sealed;
        well_formed = of_facts.well_formed;
        whole_split = of_facts.split;
        ended = λ t there. norm_knows kept s.shape.value s.budget t k (atoms_of k.held) took (ends t there);
      } in
      let left : AreUnfinished sealed.facts.plan.objects sealed.history s.budget s.tasks.items = elim (law k (atoms_of k.held) sealed 2 s.budget s.tasks.items verdict.Unfinished searched is) [ inl un ↦ absurd un | inr both ↦ both.1 ] in
      let events : sealed.history ≡ hist k.held.facts = of_facts.sealed.events ∙ ap (λ (f : FactsOf). hist f.facts) same in
      subst (λ (h : History). AreLeftOpen b k.plan h) events
      (subst (λ (g : FactsOf). AreLeftOpen b g.plan sealed.history) here
      (subst (λ (n : ℕ). AreLeftOpen n sealed.facts.plan sealed.history) of_budget (s.tasks.items, (of_facts.split, left))))

  unfinished : (o : Option ℕ) (found : Option TaskSearch) → IsVerdict {X = Global} k verdict.Unfinished → WasSearchedWith o found → WasSearched facts o k found → AuditSays o k.plan (hist k.held.facts) (said.Verdict verdict.Unfinished)
  unfinished o None is searched was = absurd searched
  unfinished None (Some s) is searched was = absurd searched
  unfinished (Some b) (Some s) is searched was = open_tasks b s is was

  -- the verdict on what is known is what an audit may say
  pub said_of : (found : Option TaskSearch) (v : Verdict Global) → IsVerdict k v → WasSearched facts budget k found → (v ≡ verdict.Unfinished → WasSearchedWith budget found) →
      ((p : List Decision) → v ≡ verdict.Opaque p → AreShownBy k.plan k.held.facts p) → (v ≡ verdict.NotOpaque → AreRefutedAt k.plan k.held.facts []) →
      SetSays (AuditSays budget) facts.plan facts.facts (said.Verdict v)
  said_of found v is was searched shows refutes = subst (λ (f : FactsOf). SetSays (AuditSays budget) f.plan f.facts (said.Verdict v)) (sym same) (by_status (IsClosed k.plan.objects (hist k.held.facts) k.held.cover []) (status_reported (fact_status k.plan.logs k.held.facts)) is)
    where
      Says_so : Type 0
      Says_so = AuditSays budget k.plan (hist k.held.facts) (said.Verdict v)

      shown : (p : List Decision) → v ≡ verdict.Opaque p → Says_so
      shown p e = subst (λ (w : Verdict Global). AuditSays budget k.plan (hist k.held.facts) (said.Verdict w)) (sym e) (audit_says budget k.plan (hist k.held.facts) (said.Verdict (verdict.Opaque p)) (shows p e).1)

      refuted : v ≡ verdict.NotOpaque → Says_so
      refuted e = subst (λ (w : Verdict Global). AuditSays budget k.plan (hist k.held.facts) (said.Verdict w)) (sym e) (audit_says budget k.plan (hist k.held.facts) (said.Verdict verdict.NotOpaque) (λ opaque. (refutes e).1 opaque.0 opaque.1))

      left_open : v ≡ verdict.Unfinished → Says_so
      left_open e = subst (λ (w : Verdict Global). AuditSays budget k.plan (hist k.held.facts) (said.Verdict w)) (sym e) (unfinished budget found (subst (λ (w : Verdict Global). IsVerdict k w) e is) (searched e) was)

      by_witness : (C : Type 0) (o : Option (List Decision)) → OfWellFormed C o v → Says_so
      by_witness C (Some p) e = shown p e
      by_witness C None (inl (e, closed)) = refuted e
      by_witness C None (inr (e, not_closed)) = left_open e

      by_status : (C : Type 0) (o : Option (Verdict Global)) → StatusReports (λ reported. reported) (hist k.held.facts) (OfWellFormed C k.held.witness) o v → StatusReports said.Verdict (hist k.held.facts) (AuditSays budget k.plan (hist k.held.facts)) o (said.Verdict v)
      by_status C (Some w) e = ap said.Verdict e
      by_status C None (inl (stamp, (rule, (fault, e)))) = inl (stamp, (rule, (fault, ap said.Verdict e)))
      by_status C None (inr (well, answer)) = inr (well, by_witness C k.held.witness answer)

-- what is said in either case
pub decided_result : {E : Type 0} (budget : Option ℕ) (plan : PlanOf) (facts : List Fact) (r : Result Said E) → IfOk r (SetSays (DecideSays None false) plan facts) → IfOk r (SetSays (AuditSays budget) plan facts)
decided_result budget plan facts (Ok s) says = decided budget plan facts s says
decided_result budget plan facts (Err e) says = says
