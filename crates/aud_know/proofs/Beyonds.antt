-- What one Knowledge has beyond another is true, and joined to the other it is enough.
use Rattle.std.specs.Prelude.{◌≡◌, ◌↔◌, ◌⊎◌, ◌++◌, Bool, true, false, not, ◌||◌, List, [], ◌∷◌, Option, Some, None, refl}
use Rattle.std.proofs.Common.{sym, ap, subst, ◌∙◌, arith, inl, inr}
use mathlib.Core.Bool.{true≢false}
use Rattle.std.specs.Cmp.{tied_itself}
use Rattle.std.specs.Cmp.Lexicographic.{slice_cmp, lists_total}
use Rattle.std.specs.Ordering.{eq_by_cmp}
use Rattle.std.specs.List.{Contains}
use Rattle.std.specs.Option.{is_some}
use Rattle.std.specs.declared.sync.Arc.{Arc}
use Rattle.std.specs.List.Sorted.{IsStrictlySortedBy}
use Rattle.aud_event.specs.Meanings.{PlanOf}
use Rattle.aud_event.specs.Exactness.{fact_exact}
use Rattle.aud_event.specs.declared.fact.Fact.{Fact}
use Rattle.aud_event.specs.contracts.fact.FactOrd.TheImpl as fact_order
use Rattle.base_sorted.specs.Sets.{by_order, has, union}
use Rattle.base_sorted.specs.Sorted.{has-union, sorted_union, same_sorted}
use Rattle.base_sorted.proofs.Members.{has_is}
use Rattle.aud_lattice.specs.Covers.{begins, covers, IsCover, cover_union}
use Rattle.aud_lattice.specs.Covering.{covers-cover_union, cover_cover_union, same_cover}
use Rattle.base_sorted.proofs.Strict.{some_passes, one_passes}
use Rattle.aud_lattice.specs.Least.{least_of}
use Rattle.aud_facts.specs.Sets.{AreSound}
use Rattle.aud_facts.specs.Quiet.{AreQuiet}
use Rattle.aud_witness.specs.declared.decision.Decision.{Decision}
use Rattle.aud_witness.specs.DecisionOrder.{decision_cmp, decisions_total, decision_exact, prefix_exact}
use Rattle.aud_know.specs.Norms.{merge, atoms_of, IsNormal}
use Rattle.aud_know.specs.Known.{Held, norm_of, linked}
use Rattle.aud_know.specs.Truth.{AreShownBy, AreRefutedAt, IsKnowledge}
use Rattle.aud_know.specs.Beyond.{AreNew, AreAllOrNew, IsNewWitness, HasFinding, IsBeyond, JoinAlike}
use Rattle.aud_know.proofs.Keeping.{fact_total}
use Rattle.aud_know.proofs.Norming.{here, norm_append, norm_atoms}
use Rattle.aud_know.proofs.Staying.{same_lists}
use Rattle.base_values.proofs.Bools.{is_false}
use Rattle.aud_lattice.proofs.Tries.{same_some}
use Rattle.base_values.proofs.Results.{none≢some}

no_item : {T : Type 0} (x : T) → Contains [] x → ⊥
no_item x h = let lt = h.1 in omega arith

-- where what is new is all that is added
adds : (a b d : Bool) → (d ≡ true → a ≡ true) → (a ≡ true → b ≡ false → d ≡ true) → (b || d) ≡ (b || a)
adds a true d f g = refl
adds true false d f g = g refl refl
adds false false true f g = sym (f refl)
adds false false false f g = refl

-- there is a finding, or none
pub finding_or_none : (cover : List (List Decision)) (witness : Option (List Decision)) → HasFinding cover witness ⊎ ¬ (HasFinding cover witness)
finding_or_none (p ∷ ps) witness = inl (p, inl (here p ps))
finding_or_none [] (Some p) = inl (p, inr refl)
finding_or_none [] None = inr (λ h. elim h.1 [ inl there ↦ no_item h.0 there | inr e ↦ none≢some h.0 e ])

-- a prefix is there, or not
there_or_not : (ps : List (List Decision)) (p : List Decision) → Contains ps p ⊎ ¬ (Contains ps p)
there_or_not ps p = cases (has (slice_cmp decision_cmp) ps p) (has_is (lists_total decisions_total) prefix_exact ps p)
  where
    cases : (b : Bool) → (b ≡ true) ↔ Contains ps p → Contains ps p ⊎ ¬ (Contains ps p)
    cases true is = inl (is.0 refl)
    cases false is = inr (λ h. true≢false (sym (is.1 h)))

module _ (n m d : Held) (b : IsBeyond n m d) where
  has_all : d.facts ≡ n.facts → (q : Fact) → (has fact_order.ghosts.cmp m.facts q || has fact_order.ghosts.cmp d.facts q) ≡ (has fact_order.ghosts.cmp m.facts q || has fact_order.ghosts.cmp n.facts q)
  has_all e q = ap (λ l. has fact_order.ghosts.cmp m.facts q || has fact_order.ghosts.cmp l q) e

  has_new : AreNew n.facts m.facts d.facts → (q : Fact) → (has fact_order.ghosts.cmp m.facts q || has fact_order.ghosts.cmp d.facts q) ≡ (has fact_order.ghosts.cmp m.facts q || has fact_order.ghosts.cmp n.facts q)
  has_new new q =
      let ours = has_is fact_total fact_exact n.facts q in
      let theirs = has_is fact_total fact_exact m.facts q in
      let left = has_is fact_total fact_exact d.facts q in
      adds (has fact_order.ghosts.cmp n.facts q) (has fact_order.ghosts.cmp m.facts q) (has fact_order.ghosts.cmp d.facts q)
      (λ e. ours.1 ((new q).0 (left.0 e)).0)
      (λ e f. left.1 ((new q).1 (ours.0 e, λ h. true≢false (sym (theirs.1 h) ∙ f))))

  same_facts : IsStrictlySortedBy fact_order.ghosts.cmp n.facts → IsStrictlySortedBy fact_order.ghosts.cmp d.facts → union fact_order.ghosts.cmp m.facts d.facts ≡ union fact_order.ghosts.cmp m.facts n.facts
  same_facts s t =
      same_sorted fact_total fact_exact (union fact_order.ghosts.cmp m.facts d.facts) (union fact_order.ghosts.cmp m.facts n.facts) (sorted_union fact_total m.facts d.facts t) (sorted_union fact_total m.facts n.facts s)
      (λ q. has-union fact_total m.facts d.facts q ∙ each q ∙ sym (has-union fact_total m.facts n.facts q))
    where
      each : (q : Fact) → (has fact_order.ghosts.cmp m.facts q || has fact_order.ghosts.cmp d.facts q) ≡ (has fact_order.ghosts.cmp m.facts q || has fact_order.ghosts.cmp n.facts q)
      each = elim (finding_or_none d.cover d.witness) [ inl found ↦ has_all (b.all_facts found) | inr none ↦ has_new (b.new_facts none) ]

  covers_new : (q : List Decision) → (covers decision_cmp m.cover q || covers decision_cmp d.cover q) ≡ (covers decision_cmp m.cover q || covers decision_cmp n.cover q)
  covers_new q = adds (covers decision_cmp n.cover q) (covers decision_cmp m.cover q) (covers decision_cmp d.cover q) within left
    where
      within : covers decision_cmp d.cover q ≡ true → covers decision_cmp n.cover q ≡ true
      within e = let p = some_passes (λ x. begins decision_cmp x q) d.cover e in one_passes (λ x. begins decision_cmp x q) n.cover p.0 ((b.cover p.0).0 p.1).0 p.2

      left : covers decision_cmp n.cover q ≡ true → covers decision_cmp m.cover q ≡ false → covers decision_cmp d.cover q ≡ true
      left e f =
          let p = some_passes (λ x. begins decision_cmp x q) n.cover e in
          one_passes (λ x. begins decision_cmp x q) d.cover p.0 ((b.cover p.0).1 (p.1, λ h. true≢false (sym (one_passes (λ x. begins decision_cmp x q) m.cover p.0 h p.2) ∙ f))) p.2

  same_covers : IsCover decision_cmp n.cover → IsCover decision_cmp d.cover → cover_union decision_cmp m.cover d.cover ≡ cover_union decision_cmp m.cover n.cover
  same_covers s t =
      same_cover decisions_total decision_exact (cover_union decision_cmp m.cover d.cover) (cover_union decision_cmp m.cover n.cover) (cover_cover_union decisions_total m.cover d.cover t) (cover_cover_union decisions_total m.cover n.cover s)
      (λ q. covers-cover_union decisions_total m.cover d.cover q ∙ covers_new q ∙ sym (covers-cover_union decisions_total m.cover n.cover q))

-- a witness that is there already adds nothing
least_same : (p : List Decision) → least_of (slice_cmp decision_cmp) (Some p) (Some p) ≡ Some p
least_same p = ap (λ r. by_order r (Some p) (Some p) (Some p)) (tied_itself (lists_total decisions_total) p)

same_least : (held other new : Option (List Decision)) → IsNewWitness held other new → least_of (slice_cmp decision_cmp) other new ≡ least_of (slice_cmp decision_cmp) other held
same_least held other (Some p) new = ap (least_of (slice_cmp decision_cmp) other) (sym ((new p).0 refl).0)
same_least None other None new = refl
same_least (Some p) None None new = absurd (none≢some p ((new p).1 (refl, λ e. none≢some p e)))
same_least (Some p) (Some r) None new = cases (eq_by_cmp (slice_cmp decision_cmp) r p) (same_lists r p)
  where
    cases : (b : Bool) → (b ≡ true) ↔ (r ≡ p) → Some r ≡ least_of (slice_cmp decision_cmp) (Some r) (Some p)
    cases true is = let e = is.0 refl in sym (least_same r) ∙ (λ i. least_of (slice_cmp decision_cmp) (Some r) (Some (e i)))
    cases false is = absurd (none≢some p ((new p).1 (refl, λ e. true≢false (sym (is.1 (same_some r p e))))))

-- what is new is enough
pub enough : (n m d : Held) → IsNormal fact_order.ghosts.cmp decision_cmp n → IsNormal fact_order.ghosts.cmp decision_cmp m → IsNormal fact_order.ghosts.cmp decision_cmp d → IsBeyond n m d → JoinAlike m d n
enough n m d a c e b = merged d e ∙ same ∙ sym (merged n a)
  where
    merged : (k : Held) → IsNormal fact_order.ghosts.cmp decision_cmp k → norm_of (atoms_of m ++ atoms_of k) ≡ merge fact_order.ghosts.cmp decision_cmp m k
    merged k f =
        norm_append fact_total fact_exact decisions_total decision_exact (atoms_of m) (atoms_of k)
        ∙ (λ i. merge fact_order.ghosts.cmp decision_cmp (norm_atoms fact_total fact_exact decisions_total decision_exact m c i) (norm_atoms fact_total fact_exact decisions_total decision_exact k f i))

    same : merge fact_order.ghosts.cmp decision_cmp m d ≡ merge fact_order.ghosts.cmp decision_cmp m n
    same =
        let facts = same_facts n m d b a.facts e.facts in
        let cover = same_covers n m d b a.cover e.cover in
        let witness = same_least n.witness m.witness d.witness b.witness in
        λ i. record { facts = facts i; cover = cover i; witness = witness i }

-- what is new, put together
pub is_beyond : (n m d : Held) (all : Bool) → AreNew n.cover m.cover d.cover → IsNewWitness n.witness m.witness d.witness → (all ≡ true) ↔ HasFinding d.cover d.witness → AreAllOrNew all n.facts m.facts d.facts → IsBeyond n m d
is_beyond n m d true cover witness finding facts = record { cover = cover; witness = witness; all_facts = λ _. facts; new_facts = λ none. absurd (none (finding.0 refl)) }
is_beyond n m d false cover witness finding facts = record { cover = cover; witness = witness; all_facts = λ found. absurd (true≢false (sym (finding.1 found))); new_facts = λ _. facts }

-- it is true
pub beyond_keeps : (plan : PlanOf) (n m d : Held) → IsKnowledge plan n → IsBeyond n m d → IsNormal fact_order.ghosts.cmp decision_cmp d → AreSound plan d.facts → IsKnowledge plan d
beyond_keeps plan n m d k b normal sound = record {
  normal = normal;
  sound = sound;
  true_for = record {
    refuted = λ quiet p h.
        let same = b.all_facts (p, inl h) in
        subst (λ l. AreRefutedAt plan l p) (sym same) (k.true_for.refuted (subst AreQuiet same quiet) p ((b.cover p).0 h).0);
    shown = λ quiet p e.
        let same = b.all_facts (p, inr e) in
        subst (λ l. AreShownBy plan l p) (sym same) (k.true_for.shown (subst AreQuiet same quiet) p ((b.witness p).0 e).0);
  };
}

-- the witness is new where the two differ
pub witness_stays : (held other : Option (List Decision)) → (held ≡ other → ⊥) → IsNewWitness held other held
witness_stays held other apart p = (λ e. (e, λ f. apart (e ∙ sym f)), λ h. h.0)

pub witness_goes : (held other : Option (List Decision)) → held ≡ other → IsNewWitness held other None
witness_goes held other same p = (λ e. absurd (none≢some p e), λ h. absurd (h.1 (sym same ∙ h.0)))

-- where there is no witness, a refuted prefix alone is a finding
pub list_found : (cover : List (List Decision)) (witness : Option (List Decision)) (bare : Bool) → witness ≡ None → (bare ≡ true) ↔ (cover ≡ []) → (not bare ≡ true) ↔ HasFinding cover witness
list_found (p ∷ ps) witness bare none is = ((λ _. (p, inl (here p ps))), λ _. ap not (is_false bare (λ e. some_item p ps (is.0 e))))
  where
    some_item : (x : List Decision) (xs : List (List Decision)) → x ∷ xs ≡ [] → ⊥
    some_item x xs e = cc
list_found [] witness bare none is = (
  (λ e. absurd (true≢false (sym e ∙ ap not (is.1 refl)))),
  (λ h. elim h.1 [ inl there ↦ absurd (no_item h.0 there) | inr e ↦ absurd (none≢some h.0 (sym none ∙ e)) ]),
)

pub none_linked : {T Z : Type 0} (witness : Option (Arc T Z)) → is_some witness ≡ false → linked witness ≡ None
none_linked None e = refl
none_linked (Some a) e = absurd (true≢false e)
