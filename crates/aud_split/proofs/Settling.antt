-- What an offer settles, and what a reading and an offer do to a pass.
use Rattle.std.specs.Prelude.{◌≡◌, ℕ, ◌+◌, ◌++◌, List, [], ◌∷◌, refl}
use Rattle.std.specs.List.{Contains}
use Rattle.std.proofs.Common.{sym, ◌∙◌, ap, subst, inl, inr, arith, append_assoc}
use Rattle.std.proofs.lemmas.List.{append-nil}
use Rattle.std.proofs.lemmas.List.Elements.{All-nil, All-cons, Contains-append_right}
use Rattle.aud_event.specs.Meanings.{PlanOf}
use Rattle.aud_witness.specs.declared.decision.Decision.{Decision}
use Rattle.aud_order.specs.Shapes.{ShapeOf}
use Rattle.aud_know.specs.Known.{KnownAtom}
use Rattle.aud_know.specs.Findings.{FindingOf, found}
use Rattle.aud_know.specs.declared.item.Item.TheVariants as item
use Rattle.aud_node.specs.Logs.{Entry, atoms_in, IsKnownIn, Offered}
use Rattle.aud_node.specs.Meanings.{PassOf, GoesOn, mine}
use Rattle.aud_node.proofs.Own.{atoms_snoc}
use Rattle.aud_split.proofs.Keeping.{known_kept}
use Rattle.node_task.specs.Found.{SaysOf}
use Rattle.aud_split.specs.Pools.{IsFindingOf, IsSettled, HasSearched}

-- what the node knows to be refuted is settled
pub known_settles : (s : ShapeOf) (budget : ℕ) (plan : PlanOf) (view : List Entry) (t : List Decision) → IsKnownIn plan view t → IsSettled s budget view t
known_settles s budget plan view t known = inl (((known_kept (atoms_in view)).refuted t).1 known)

-- what a finding says of a task settles it for who has offered it
pub settled_by : (s : ShapeOf) (budget : ℕ) (old new : List Entry) (seat : ℕ) (f : FindingOf) (t : List Decision) → Offered old new seat (item.Finding f) → SaysOf t f.claim → IsSettled s budget new t
settled_by s budget old new seat f t (between, is) says =
    let atoms : atoms_in new ≡ atoms_in (old ++ between) ++ found f = ap atoms_in is ∙ atoms_snoc (old ++ between) (seat, item.Finding f) in
    let there : Contains (atoms_in new) f.claim = subst (λ (l : List KnownAtom). Contains l f.claim) (sym atoms) (Contains-append_right (atoms_in (old ++ between)) (found f) f.claim (0, omega arith, refl)) in
    elim says [
      | inl refutes ↦ inl (t, ([], (subst (Contains (atoms_in new)) refutes there, sym (append-nil t))))
      | inr (q, (shows, begins)) ↦ inr (inl (q, (subst (Contains (atoms_in new)) shows there, begins)))
    ]

-- a reading
pub searched_read : (s : ShapeOf) (p q : PassOf) → GoesOn p q → HasSearched s p q
searched_read s p q on = record {
  view = on.0;
  number = on.2;
  seat = on.3;
  items = [];
  mine = on.1 ∙ sym (append-nil (mine p));
  offers = omega (arith, on.4);
  findings = All-nil (IsFindingOf s);
}

-- an offer of a finding
pub searched_offered : (s : ShapeOf) (p q : PassOf) (f : FindingOf) → Offered p.view q.view p.seat (item.Finding f) → mine q ≡ mine p ++ item.Finding f ∷ [] → q.offers ≡ p.offers + 1
    → (q.number ≡ p.number) × (q.seat ≡ p.seat) → f.facts ≡ s.sealed.facts → HasSearched s p q
searched_offered s p q f (between, is) offered more same of = record {
  view = (between ++ (p.seat, item.Finding f) ∷ [], sym (append_assoc p.view between ((p.seat, item.Finding f) ∷ [])) ∙ sym is);
  number = same.0;
  seat = same.1;
  items = item.Finding f ∷ [];
  mine = offered;
  offers = omega (arith, more);
  findings = All-cons (IsFindingOf s) (item.Finding f) [] of (All-nil (IsFindingOf s));
}
