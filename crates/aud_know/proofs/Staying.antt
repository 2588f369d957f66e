-- Covers that stay as they are.
use Rattle.std.specs.Prelude.{◌≡◌, ◌↔◌, Bool, true, false, ◌||◌, List, All, refl}
use Rattle.std.specs.Cmp.{Equal-is, tied_itself}
use Rattle.std.specs.Cmp.Lexicographic.{slice_cmp, lists_total}
use Rattle.std.specs.Ordering.{eq_by_cmp, is_eq}
use Rattle.std.proofs.Common.{sym, ap, subst, ◌∙◌}
use Rattle.aud_lattice.specs.Covers.{begins, covers, IsCover, with_list, cover_union, HasBeginning}
use Rattle.aud_lattice.specs.Covering.{begins_trans, covers-with_list, covers-cover_union, cover_with_list, cover_cover_union, same_cover}
use Rattle.base_sorted.proofs.Strict.{some_passes, one_passes}
use Rattle.aud_witness.specs.declared.decision.Decision.{Decision}
use Rattle.aud_witness.specs.DecisionOrder.{decision_cmp, decisions_total, decision_exact, prefix_exact}

absorbed : (a b : Bool) → (a ≡ true → b ≡ true) → (a || b) ≡ b
absorbed true b f = sym (f refl)
absorbed false b f = refl

absorbs : (a b : Bool) → (b ≡ true → a ≡ true) → (a || b) ≡ a
absorbs true b f = refl
absorbs false true f = sym (f refl)
absorbs false false f = refl

-- a prefix of which a beginning is there changes nothing
pub covered_stays : (ps : List (List Decision)) (q : List Decision) → IsCover decision_cmp ps → HasBeginning decision_cmp ps q → with_list decision_cmp q ps ≡ ps
covered_stays ps q s (p, member, e) =
    same_cover decisions_total decision_exact (with_list decision_cmp q ps) ps (cover_with_list decisions_total q ps s) s
    (λ r.
    covers-with_list decisions_total q ps r
    ∙ absorbed (begins decision_cmp q r) (covers decision_cmp ps r) (λ f. one_passes (λ x. begins decision_cmp x r) ps p member (begins_trans decisions_total p q r e f)))

-- what one of some lists begins has a beginning where all of them have one
beginning_of : (ps qs : List (List Decision)) → All (λ q. covers decision_cmp ps q ≡ true) qs → (r : List Decision) → covers decision_cmp qs r ≡ true → covers decision_cmp ps r ≡ true
beginning_of ps qs all r e =
    let found = some_passes (λ q. begins decision_cmp q r) qs e in
    let within : covers decision_cmp ps found.0 ≡ true = subst (λ q. covers decision_cmp ps q ≡ true) found.1.2 (all found.1.0 found.0 found.1.1) in
    let below = some_passes (λ p. begins decision_cmp p found.0) ps within in
    one_passes (λ p. begins decision_cmp p r) ps below.0 below.1 (begins_trans decisions_total below.0 found.0 r below.2 found.2)

-- joining lists of which a beginning is there changes nothing
pub joined_covered : (ps qs : List (List Decision)) → IsCover decision_cmp ps → IsCover decision_cmp qs → All (λ q. covers decision_cmp ps q ≡ true) qs → cover_union decision_cmp ps qs ≡ ps
joined_covered ps qs s t all =
    same_cover decisions_total decision_exact (cover_union decision_cmp ps qs) ps (cover_cover_union decisions_total ps qs t) s
    (λ r. covers-cover_union decisions_total ps qs r ∙ absorbs (covers decision_cmp ps r) (covers decision_cmp qs r) (beginning_of ps qs all r))

-- nor does it where they are joined to it
pub covered_joined : (ps qs : List (List Decision)) → IsCover decision_cmp qs → All (λ p. covers decision_cmp qs p ≡ true) ps → cover_union decision_cmp ps qs ≡ qs
covered_joined ps qs t all =
    same_cover decisions_total decision_exact (cover_union decision_cmp ps qs) qs (cover_cover_union decisions_total ps qs t) t
    (λ r. covers-cover_union decisions_total ps qs r ∙ absorbed (covers decision_cmp ps r) (covers decision_cmp qs r) (beginning_of qs ps all r))

-- lists that tie are one
pub same_lists : (x y : List Decision) → (eq_by_cmp (slice_cmp decision_cmp) x y ≡ true) ↔ (x ≡ y)
same_lists x y = (
  (λ e. prefix_exact x y ((Equal-is (slice_cmp decision_cmp x y)).0 e)),
  (λ e. ap (λ l. is_eq (slice_cmp decision_cmp x l)) (sym e) ∙ ap is_eq (tied_itself (lists_total decisions_total) x)),
)
