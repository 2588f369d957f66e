-- What a verdict says.
use Rattle.std.specs.Prelude.{◌≡◌, ◌↔◌, ◌⊎◌, ℕ, List, [], ◌∷◌, ◌++◌, length, Option, Some, None, Result, Ok, Err, MatchResult, refl}
use Rattle.std.proofs.Common.{sym, ap, subst, ◌∙◌, inl, inr}
use Rattle.aud_event.specs.declared.fact.Event.{Event}
use Rattle.aud_event.specs.declared.fact.Fact.{Fact}
use Rattle.aud_event.specs.Meanings.{Declared, PlanOf}
use Rattle.aud_history.specs.declared.rule.Rule.{Rule}
use Rattle.aud_history.specs.declared.state.TxState.{TxState}
use Rattle.aud_history.specs.declared.state.TxState.TheVariants.{Idle}
use Rattle.aud_history.specs.ByState.{run}
use Rattle.aud_history.specs.FirstFault.{IsFirstFault}
use Rattle.aud_history.specs.Histories.{History, events_of}
use Rattle.aud_history.specs.WellFormed.{IsWellFormed}
use Rattle.aud_history.proofs.Events.{IsWellFormed-beginning}
use Rattle.aud_facts.specs.declared.status.FactStatus.{FactStatus}
use Rattle.aud_facts.specs.declared.status.FactStatus.TheVariants as status
use Rattle.aud_facts.specs.Growth.{IsConflict}
use Rattle.aud_facts.specs.Quiet.{AreQuiet, QuietIsNoConflict}
use Rattle.aud_facts.specs.Sets.{FactsOf, SealedOf, IsSealedWith}
use Rattle.aud_facts.specs.Status.{fact_status, hist}
use Rattle.aud_witness.specs.declared.decision.Decision.{Decision}
use Rattle.aud_witness.specs.Orders.{Refuted, Shows}
use Rattle.aud_order.specs.Shapes.{ShapeOf, objects_of, history_of}
use Rattle.aud_cover.specs.Closings.{IsClosed}
use Rattle.aud_cover.specs.Laws.{ClosedIsRefuted}
use Rattle.aud_know.specs.Known.{Held, KnowledgeOf}
use Rattle.aud_know.specs.Truth.{AreWhole, IsKnowledge}
use Rattle.aud_know.specs.Verdicts.{OfWellFormed, StatusReports, FactsReport, FactsReportAtOnce, status_reported, IsVerdict}
use Rattle.aud_know.specs.Laws.{VerdictIsOne, OpaqueIsShown, NotOpaqueIsRefuted}
use Rattle.aud_know.specs.declared.verdict.Verdict.{Verdict}
use Rattle.aud_know.specs.declared.verdict.Verdict.TheVariants as verdict

-- # What is said

abbrev pub OfStatus : {X : Type 0} → PlanOf → Held → FactStatus → Verdict X → Type 0
OfStatus plan held s v = StatusReports (λ reported. reported) (hist held.facts) (OfWellFormed (IsClosed plan.objects (hist held.facts) held.cover []) held.witness) (status_reported s) v

-- only of sealed facts the status says nothing
pub reports_nothing : (X : Type 0) (s : FactStatus) → status_reported {X = X} s ≡ None → s ≡ status.Sealed
reports_nothing X (status.Conflict kind log at) e = cc
reports_nothing X (status.Waiting log) e = cc
reports_nothing X (status.Gap stamp) e = cc
reports_nothing X status.Sealed e = refl

-- of facts with a well-formed history the answer is reported
pub answered : {X S : Type 0} (reported : Verdict X → S) (logs : ℕ) (facts : List Fact) (Answers : S → Type 0) (s : S) →
    fact_status logs facts ≡ status.Sealed → IsWellFormed (hist facts) → Answers s → FactsReport reported logs facts Answers s
answered reported logs facts Answers s sealed well answer = subst (λ st. StatusReports reported (hist facts) Answers (status_reported st) s) (sym sealed) (inr (well, answer))

-- of facts with a history the rule is reported that it breaks first
pub ill_formed : (X : Type 0) (facts : FactsOf) (h : History) (stamp : ℕ) (rule : Rule) → IsSealedWith facts h → IsFirstFault h stamp rule →
    FactsReportAtOnce {X = X} facts.plan.logs facts.facts (verdict.IllFormed stamp rule)
ill_formed X facts h stamp rule s fault =
    subst (λ st. StatusReports {X = X} (λ reported. reported) (hist facts.facts) (λ answer. ⊥) (status_reported st) (verdict.IllFormed stamp rule)) (sym s.sealed)
    (inl (stamp, (rule, (subst (λ (e : History). IsFirstFault e stamp rule) s.events fault, refl))))

-- what is read of the history of facts is read of the facts
pub read : {X Y : Type 0} (facts : FactsOf) (v : SealedOf) (value : Y → SealedOf) (r : Result Y (Verdict X)) → v.facts ≡ facts → IsSealedWith facts v.history →
    MatchResult r (λ s. (value s ≡ v) × IsWellFormed v.history) (λ reported. FactsReportAtOnce v.facts.plan.logs v.facts.facts reported) →
    MatchResult r (λ s. ((value s).facts ≡ facts) × IsSealedWith facts (value s).history × IsWellFormed (value s).history) (λ reported. FactsReportAtOnce facts.plan.logs facts.facts reported)
read facts v value (Ok s) is sealed h =
    let both : IsSealedWith facts (value s).history × IsWellFormed (value s).history = subst (λ (w : SealedOf). IsSealedWith facts w.history × IsWellFormed w.history) (sym h.0) (sealed, h.1) in
    (ap (λ (w : SealedOf). w.facts) h.0 ∙ is, both.0, both.1)
read facts v value (Err reported) is sealed h = subst (λ (f : FactsOf). FactsReportAtOnce f.plan.logs f.facts reported) is h

-- what is reported at once is reported whatever is asked
pub reported_at_once : {X S : Type 0} (reported : Verdict X → S) (logs : ℕ) (facts : List Fact) (Answers : S → Type 0) (v : Verdict X) →
    FactsReportAtOnce logs facts v → FactsReport reported logs facts Answers (reported v)
reported_at_once {X} {S} reported logs facts Answers v = by_status (status_reported (fact_status logs facts))
  where
    by_status : (o : Option (Verdict X)) → StatusReports (λ w. w) (hist facts) (λ answer. ⊥) o v → StatusReports reported (hist facts) Answers o (reported v)
    by_status (Some w) is = ap reported is
    by_status None (inl (stamp, (rule, (fault, is)))) = inl (stamp, (rule, (fault, ap reported is)))
    by_status None (inr both) = absurd both.1

quiet_of_sealed : QuietIsNoConflict → (logs : ℕ) (facts : List Fact) → fact_status logs facts ≡ status.Sealed → AreQuiet facts
quiet_of_sealed law logs facts sealed = (law logs facts).1 (λ conflict. subst IsConflict sealed conflict)

module _ (law : QuietIsNoConflict) (k : KnowledgeOf) (truth : IsKnowledge k.plan k.held) (sealed : fact_status k.plan.logs k.held.facts ≡ status.Sealed) where
  pub quiet : AreQuiet k.held.facts
  quiet = quiet_of_sealed law k.plan.logs k.held.facts sealed

  -- a witness shows
  pub witness_shows : (p : List Decision) → k.held.witness ≡ Some p → AreWhole k.plan k.held.facts × Shows k.plan.objects (hist k.held.facts) p
  witness_shows p is = truth.true_for.shown quiet p is

  -- where a witness is known, Opaque is said with it
  pub says_opaque : (X : Type 0) (p : List Decision) → k.held.witness ≡ Some p → IsVerdict {X = X} k (verdict.Opaque p)
  says_opaque X p is =
      subst (λ s. OfStatus {X = X} k.plan k.held s (verdict.Opaque p)) (sym sealed)
      (inr ((witness_shows p is).0.well_formed, subst (λ w. OfWellFormed {X = X} (IsClosed k.plan.objects (hist k.held.facts) k.held.cover []) w (verdict.Opaque p)) (sym is) refl))

  -- what is closed is refuted
  pub closed_refutes : ClosedIsRefuted → IsWellFormed (hist k.held.facts) → IsClosed k.plan.objects (hist k.held.facts) k.held.cover [] →
      AreWhole k.plan k.held.facts × Refuted k.plan.objects (hist k.held.facts) []
  closed_refutes closes well closed = (
    record { sealed = sealed; well_formed = well },
    closes k.plan.objects (hist k.held.facts) k.held.cover [] (λ q there. (truth.true_for.refuted quiet q there).1) closed,
  )

module _ (X : Type 0) (k : KnowledgeOf) (sealed : fact_status k.plan.logs k.held.facts ≡ status.Sealed) (well : IsWellFormed (hist k.held.facts)) (none : k.held.witness ≡ None) where
  pub says_not_opaque : IsClosed k.plan.objects (hist k.held.facts) k.held.cover [] → IsVerdict {X = X} k verdict.NotOpaque
  says_not_opaque closed =
      subst (λ s. OfStatus {X = X} k.plan k.held s verdict.NotOpaque) (sym sealed)
      (inr (well, subst (λ w. OfWellFormed {X = X} (IsClosed k.plan.objects (hist k.held.facts) k.held.cover []) w verdict.NotOpaque) (sym none) (inl (refl, closed))))

  pub says_unfinished : (IsClosed k.plan.objects (hist k.held.facts) k.held.cover [] → ⊥) → IsVerdict {X = X} k verdict.Unfinished
  says_unfinished open_still =
      subst (λ s. OfStatus {X = X} k.plan k.held s verdict.Unfinished) (sym sealed)
      (inr (well, subst (λ w. OfWellFormed {X = X} (IsClosed k.plan.objects (hist k.held.facts) k.held.cover []) w verdict.Unfinished) (sym none) (inr (refl, open_still))))

-- what is closed of a shape's history is closed of the facts
pub closed_same : (s : ShapeOf) (v : SealedOf) (k : KnowledgeOf) (cover : List (List Decision)) (p : List Decision) →
    s ≡ record { sealed = v } → v.facts ≡ record { plan = k.plan; facts = k.held.facts } → v.history ≡ hist k.held.facts → cover ≡ k.held.cover → p ≡ [] →
    IsClosed (objects_of s) (history_of s) cover p ↔ IsClosed k.plan.objects (hist k.held.facts) k.held.cover []
closed_same s v k cover p shape facts events covers empty = (subst Closed whole, subst Closed (sym whole))
  where
    Closed : List Declared × History × List (List Decision) × List Decision → Type 0
    Closed t = IsClosed t.0 t.1 t.2 t.3

    theirs : List Declared × History × List (List Decision) × List Decision
    theirs = (objects_of s, history_of s, cover, p)

    ours : List Declared × History × List (List Decision) × List Decision
    ours = (k.plan.objects, hist k.held.facts, k.held.cover, [])

    whole : theirs ≡ ours
    whole =
        let objects : objects_of s ≡ k.plan.objects = ap objects_of shape ∙ ap (λ (f : FactsOf). f.plan.objects) facts in
        let history : history_of s ≡ hist k.held.facts = ap history_of shape ∙ events in
        λ i. (objects i, history i, covers i, empty i)

-- # One verdict

-- two cuts at an event are one, or one stands within the other
cuts : (a b : History) (e f : ℕ × Event) (x y : History) → a ++ e ∷ x ≡ b ++ f ∷ y →
    ((a ≡ b) × (e ≡ f)) ⊎ (((r : History) × (b ≡ (a ++ e ∷ []) ++ r)) ⊎ ((r : History) × (a ≡ (b ++ f ∷ []) ++ r)))
cuts [] [] e f x y is = let same : e ≡ f = cc in inl (refl, same)
cuts [] (g ∷ b) e f x y is = let same : g ≡ e = cc in inr (inl (b, λ i. same i ∷ b))
cuts (g ∷ a) [] e f x y is = let same : g ≡ f = cc in inr (inr (a, λ i. same i ∷ a))
cuts (g ∷ a) (k ∷ b) e f x y is =
    let first : g ≡ k = cc in
    let rest : a ++ e ∷ x ≡ b ++ f ∷ y = cc in
    elim (cuts a b e f x y rest) [
      | inl both ↦ inl ((λ i. first i ∷ both.0 i), both.1)
      | inr within ↦ elim within [
        | inl it ↦ inr (inl (it.0, λ i. sym first i ∷ it.1 i))
        | inr it ↦ inr (inr (it.0, λ i. first i ∷ it.1 i))
      ]
    ]

-- a history has one first fault
one_fault : (h : History) (s t : ℕ) (q r : Rule) → IsFirstFault h s q → IsFirstFault h t r → (s ≡ t) × (q ≡ r)
one_fault h s t q r one other =
    elim (cuts one.before other.before one.event other.event one.rest other.rest (sym one.whole ∙ other.whole)) [
      | inl both ↦ (sym one.place ∙ ap length both.0 ∙ other.place, ap rule_of (sym one.broken ∙ (λ i. run Idle (events_of (both.1 i).0 (both.0 i ++ both.1 i ∷ []))) ∙ other.broken))
      | inr within ↦ elim within [
        | inl it ↦ absurd (one.faulty (IsWellFormed-beginning (one.before ++ one.event ∷ []) it.0 (subst IsWellFormed it.1 other.fine)))
        | inr it ↦ absurd (other.faulty (IsWellFormed-beginning (other.before ++ other.event ∷ []) it.0 (subst IsWellFormed it.1 one.fine)))
      ]
    ]
  where
    rule_of : Result TxState Rule → Rule
    rule_of (Ok s) = q
    rule_of (Err x) = x

-- and none where it is well-formed
pub no_fault : (h : History) (s : ℕ) (q : Rule) → IsFirstFault h s q → IsWellFormed h → ⊥
no_fault h s q fault well = fault.faulty (IsWellFormed-beginning (fault.before ++ fault.event ∷ []) fault.rest (subst IsWellFormed (fault.whole ∙ apart fault.before fault.event fault.rest) well))
  where
    apart : (a : History) (e : ℕ × Event) (x : History) → a ++ e ∷ x ≡ (a ++ e ∷ []) ++ x
    apart [] e x = refl
    apart (g ∷ a) e x = ap (λ l. g ∷ l) (apart a e x)

one_of_well_formed : (X Closed : Type 0) (w : Option (List Decision)) (u v : Verdict X) → OfWellFormed Closed w u → OfWellFormed Closed w v → u ≡ v
one_of_well_formed X Closed (Some p) u v a b = a ∙ sym b
one_of_well_formed X Closed None u v (inl a) (inl b) = a.0 ∙ sym b.0
one_of_well_formed X Closed None u v (inl a) (inr b) = absurd (b.1 a.1)
one_of_well_formed X Closed None u v (inr a) (inl b) = absurd (a.1 b.1)
one_of_well_formed X Closed None u v (inr a) (inr b) = a.0 ∙ sym b.0

one_of_status : (X : Type 0) (plan : PlanOf) (held : Held) (s : FactStatus) (u v : Verdict X) → OfStatus plan held s u → OfStatus plan held s v → u ≡ v
one_of_status X plan held (status.Conflict kind log at) u v a b = a ∙ sym b
one_of_status X plan held (status.Waiting log) u v a b = a ∙ sym b
one_of_status X plan held (status.Gap stamp) u v a b = a ∙ sym b
one_of_status X plan held status.Sealed u v (inl (s, (q, (fault, is)))) (inl (t, (r, (other, same)))) =
    let both = one_fault (hist held.facts) s t q r fault other in
    is ∙ (λ i. verdict.IllFormed (both.0 i) (both.1 i)) ∙ sym same
one_of_status X plan held status.Sealed u v (inl (s, (q, (fault, is)))) (inr b) = absurd (no_fault (hist held.facts) s q fault b.0)
one_of_status X plan held status.Sealed u v (inr a) (inl (t, (r, (other, same)))) = absurd (no_fault (hist held.facts) t r other a.0)
one_of_status X plan held status.Sealed u v (inr a) (inr b) = one_of_well_formed X (IsClosed plan.objects (hist held.facts) held.cover []) held.witness u v a.1 b.1

pub verdict_one : (X : Type 0) → VerdictIsOne X
verdict_one X k v w a b = one_of_status X k.plan k.held (fact_status k.plan.logs k.held.facts) v w a b

-- # What Opaque and NotOpaque say

of_opaque : (X Closed : Type 0) (w : Option (List Decision)) (p : List Decision) → OfWellFormed {X = X} Closed w (verdict.Opaque p) → w ≡ Some p
of_opaque X Closed (Some q) p e = cc
of_opaque X Closed None p (inl h) = absurd (let e = h.0 in cc)
of_opaque X Closed None p (inr h) = absurd (let e = h.0 in cc)

of_not_opaque : (X Closed : Type 0) (w : Option (List Decision)) → OfWellFormed {X = X} Closed w verdict.NotOpaque → (w ≡ None) × Closed
of_not_opaque X Closed (Some q) e = absurd (cc)
of_not_opaque X Closed None (inl h) = (refl, h.1)
of_not_opaque X Closed None (inr h) = absurd (let e = h.0 in cc)

pub opaque_says : (X : Type 0) (plan : PlanOf) (held : Held) (s : FactStatus) (p : List Decision) → OfStatus {X = X} plan held s (verdict.Opaque p) →
    (s ≡ status.Sealed) × (IsWellFormed (hist held.facts) × (held.witness ≡ Some p))
opaque_says X plan held (status.Conflict kind log at) p e = absurd (cc)
opaque_says X plan held (status.Waiting log) p e = absurd (cc)
opaque_says X plan held (status.Gap stamp) p e = absurd (cc)
opaque_says X plan held status.Sealed p (inl (s, (q, (fault, e)))) = absurd (cc)
opaque_says X plan held status.Sealed p (inr h) = (refl, (h.0, of_opaque X (IsClosed plan.objects (hist held.facts) held.cover []) held.witness p h.1))

pub not_opaque_says : (X : Type 0) (plan : PlanOf) (held : Held) (s : FactStatus) → OfStatus {X = X} plan held s verdict.NotOpaque →
    (s ≡ status.Sealed) × (IsWellFormed (hist held.facts) × ((held.witness ≡ None) × IsClosed plan.objects (hist held.facts) held.cover []))
not_opaque_says X plan held (status.Conflict kind log at) e = absurd (cc)
not_opaque_says X plan held (status.Waiting log) e = absurd (cc)
not_opaque_says X plan held (status.Gap stamp) e = absurd (cc)
not_opaque_says X plan held status.Sealed (inl (s, (q, (fault, e)))) = absurd (cc)
not_opaque_says X plan held status.Sealed (inr h) = (refl, (h.0, of_not_opaque X (IsClosed plan.objects (hist held.facts) held.cover []) held.witness h.1))

pub opaque_shown : QuietIsNoConflict → (X : Type 0) → OpaqueIsShown X
opaque_shown law X k p truth said =
    let it = opaque_says X k.plan k.held (fact_status k.plan.logs k.held.facts) p said in
    witness_shows law k truth it.0 p it.1.1

pub not_opaque_refuted : QuietIsNoConflict → ClosedIsRefuted → (X : Type 0) → NotOpaqueIsRefuted X
not_opaque_refuted law closes X k truth said =
    let it = not_opaque_says X k.plan k.held (fact_status k.plan.logs k.held.facts) said in
    closed_refutes law k truth it.0 closes it.1.0 it.1.1.1
