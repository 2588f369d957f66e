-- The normal form of atoms is known by its members.
use Rattle.std.specs.Prelude.{◌≡◌, ◌↔◌, true, false, List, Option, Some, None, refl}
use Rattle.std.specs.List.{list_any, Contains}
use Rattle.std.specs.List.Sorted.{IsStrictlySortedBy}
use Rattle.std.specs.Cmp.{IsTotalOrder, tied_itself}
use Rattle.std.specs.Cmp.Lexicographic.{slice_cmp, lists_total}
use Rattle.std.specs.Ordering.{is_le, ordering_reverse}
use Rattle.std.specs.declared.cmp.Ordering.{Ordering}
use Rattle.std.specs.declared.cmp.Ordering.TheVariants.{Less, Equal, Greater}
use Rattle.std.proofs.Common.{sym, ap, subst, ◌∙◌}
use mathlib.Core.Bool.{true≢false}
use Rattle.base_values.specs.Exact.{IsExact}
use Rattle.aud_event.specs.Exactness.{fact_exact}
use Rattle.aud_lattice.specs.Covers.{begins, IsFirst}
use Rattle.aud_lattice.specs.Covering.{cover_sorted}
use Rattle.aud_lattice.specs.Least.{reaches}
use Rattle.base_sorted.proofs.Members.{has_member, member_of}
use Rattle.aud_lattice.proofs.Normed.{norm_of_firsts}
use Rattle.base_sorted.specs.Sets.{has}
use Rattle.base_sorted.specs.Sorted.{same_sorted}
use Rattle.base_sorted.proofs.Strict.{some_passes, one_passes}
use Rattle.aud_witness.specs.declared.decision.Decision.{Decision}
use Rattle.aud_witness.specs.DecisionOrder.{decision_cmp, decisions_total, decision_exact, prefix_exact}
use Rattle.aud_know.specs.Norms.{shown, facts_of, refuted_of, shown_of}
use Rattle.aud_know.specs.Known.{KnownAtom, Held, norm_of}
use Rattle.aud_know.specs.Members.{IsFirstRefuted, IsLeastShown, IsNormOf}
use Rattle.aud_know.specs.Laws.{NormIsExact}
use Rattle.aud_know.proofs.Keeping.{fact_total}
use Rattle.aud_know.proofs.Norming.{fact_there, there_fact, refuted_there, there_refuted, shown_there, there_shown, has-norm, reaches-norm, is_normal}
use Rattle.base_values.proofs.Bools.{same_bools}
use Rattle.aud_cover.proofs.Beginnings.{begins-rest, begins-longer}

prefix_total : IsTotalOrder (slice_cmp decision_cmp)
prefix_total = lists_total decisions_total

-- sorted lists with the same members are one
same_members : {T : Type 0} {R : T → T → Ordering} → IsTotalOrder R → IsExact R → (xs ys : List T) → IsStrictlySortedBy R xs → IsStrictlySortedBy R ys →
    ((x : T) → Contains xs x → Contains ys x) → ((x : T) → Contains ys x → Contains xs x) → xs ≡ ys
same_members {R = R} o ex xs ys s t f g =
    same_sorted o ex xs ys s t (λ q. same_bools (has R xs q) (has R ys q) (λ e. has_member o ex ys q (f q (member_of o ex xs q e))) (λ e. has_member o ex xs q (g q (member_of o ex ys q e))))

-- # Beginnings

first_refuted : (atoms : List KnownAtom) (p : List Decision) → IsFirst decision_cmp (refuted_of atoms) p ↔ IsFirstRefuted atoms p
first_refuted atoms p = (
  (λ it. record {
    there = refuted_there atoms p it.there;
    first = λ q rest member is. it.first q (there_refuted atoms q member) (subst (λ l. begins decision_cmp q l ≡ true) (sym is) (begins-longer q rest));
  }),
  (λ it. record {
    there = there_refuted atoms p it.there;
    first = λ q member e. let rest = begins-rest q p e in it.first q rest.0 (refuted_there atoms q member) rest.1;
  }),
)

-- # The least

not_less : (r : Ordering) → is_le r ≡ true → ordering_reverse r ≡ Less → ⊥
not_less Less e is = cc
not_less Equal e is = cc
not_less Greater e is = true≢false (sym e)

both_ways : (r : Ordering) → is_le r ≡ true → is_le (ordering_reverse r) ≡ true → r ≡ Equal
both_ways Less e f = absurd (true≢false (sym f))
both_ways Equal e f = refl
both_ways Greater e f = absurd (true≢false (sym e))

not_above : (r : Ordering) → (ordering_reverse r ≡ Less → ⊥) → is_le r ≡ true
not_above Less none = refl
not_above Equal none = refl
not_above Greater none = absurd (none refl)

at_most_itself : (p : List Decision) → is_le (slice_cmp decision_cmp p p) ≡ true
at_most_itself p = ap is_le (tied_itself prefix_total p)

-- what reaches as far as some lists is their least
least_reaches : (atoms : List KnownAtom) (w : Option (List Decision)) →
    ((q : List Decision) → reaches (slice_cmp decision_cmp) w q ≡ list_any (λ x. is_le (slice_cmp decision_cmp x q)) (shown_of atoms)) → IsLeastShown atoms w
least_reaches atoms None same = λ q h.
    true≢false (sym (one_passes (λ x. is_le (slice_cmp decision_cmp x q)) (shown_of atoms) q (there_shown atoms q h) (at_most_itself q)) ∙ sym (same q))
least_reaches atoms (Some p) same = (there, least)
  where
    below : (q : List Decision) → Contains atoms (shown q) → is_le (slice_cmp decision_cmp p q) ≡ true
    below q h = same q ∙ one_passes (λ x. is_le (slice_cmp decision_cmp x q)) (shown_of atoms) q (there_shown atoms q h) (at_most_itself q)

    least : (q : List Decision) → Contains atoms (shown q) → slice_cmp decision_cmp q p ≡ Less → ⊥
    least q h is = not_less (slice_cmp decision_cmp p q) (below q h) (sym (prefix_total.antisymm q p) ∙ is)

    there : Contains atoms (shown p)
    there =
        let found = some_passes (λ x. is_le (slice_cmp decision_cmp x p)) (shown_of atoms) (sym (same p) ∙ at_most_itself p) in
        let member = shown_there atoms found.0 found.1 in
        let tie = both_ways (slice_cmp decision_cmp found.0 p) found.2 (ap is_le (sym (prefix_total.antisymm p found.0)) ∙ below found.0 member) in
        subst (λ l. Contains atoms (shown l)) (prefix_exact found.0 p tie) member

one_least : (atoms : List KnownAtom) (v w : Option (List Decision)) → IsLeastShown atoms v → IsLeastShown atoms w → v ≡ w
one_least atoms None None a b = refl
one_least atoms None (Some q) a b = absurd (a q b.0)
one_least atoms (Some p) None a b = absurd (b p a.0)
one_least atoms (Some p) (Some q) a b =
    let low = not_above (slice_cmp decision_cmp p q) (λ is. a.1 q b.0 (prefix_total.antisymm q p ∙ is)) in
    let high = not_above (slice_cmp decision_cmp q p) (λ is. b.1 p a.0 (prefix_total.antisymm p q ∙ is)) in
    ap Some (prefix_exact p q (both_ways (slice_cmp decision_cmp p q) low (ap is_le (sym (prefix_total.antisymm q p)) ∙ high)))

-- # The normal form

normal : (atoms : List KnownAtom) → IsNormOf atoms (norm_of atoms)
normal atoms = record {
  facts = λ f. (
    (λ h. fact_there atoms f (member_of fact_total fact_exact (facts_of atoms) f
        (sym (has-norm fact_total fact_exact decisions_total decision_exact atoms f) ∙ has_member fact_total fact_exact (norm_of atoms).facts f h))),
    (λ h. member_of fact_total fact_exact (norm_of atoms).facts f
        (has-norm fact_total fact_exact decisions_total decision_exact atoms f ∙ has_member fact_total fact_exact (facts_of atoms) f (there_fact atoms f h))),
  );
  ordered = (is_normal fact_total fact_exact decisions_total decision_exact atoms).facts;
  cover = λ p. (
    (λ h. (first_refuted atoms p).0 (((norm_of_firsts decisions_total decision_exact (refuted_of atoms)).1 p).0 h)),
    (λ h. ((norm_of_firsts decisions_total decision_exact (refuted_of atoms)).1 p).1 ((first_refuted atoms p).1 h)),
  );
  rising = cover_sorted decisions_total (norm_of atoms).cover (is_normal fact_total fact_exact decisions_total decision_exact atoms).cover;
  witness = least_reaches atoms (norm_of atoms).witness (reaches-norm fact_total fact_exact decisions_total decision_exact atoms);
}

one_normal : (atoms : List KnownAtom) (n m : Held) → IsNormOf atoms n → IsNormOf atoms m → n ≡ m
one_normal atoms n m a b =
    let facts = same_members fact_total fact_exact n.facts m.facts a.ordered b.ordered (λ f h. (b.facts f).1 ((a.facts f).0 h)) (λ f h. (a.facts f).1 ((b.facts f).0 h)) in
    let cover = same_members prefix_total prefix_exact n.cover m.cover a.rising b.rising (λ p h. (b.cover p).1 ((a.cover p).0 h)) (λ p h. (a.cover p).1 ((b.cover p).0 h)) in
    let witness = one_least atoms n.witness m.witness a.witness b.witness in
    λ i. record { facts = facts i; cover = cover i; witness = witness i }

pub norm_exact : NormIsExact
norm_exact atoms held = ((λ e. subst (IsNormOf atoms) (sym e) (normal atoms)), λ it. one_normal atoms held (norm_of atoms) it (normal atoms))
