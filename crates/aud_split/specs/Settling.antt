-- What is settled stays so, and later passes follow one another: the laws of the search as the work of a pool.
use Rattle.std.specs.Prelude.{ℕ, ◌++◌, List, [], refl}
use Rattle.std.specs.List.{Contains}
use Rattle.std.proofs.Common.{sym, ◌∙◌, ap, subst, inl, inr, arith, append_assoc, length-append}
use Rattle.std.proofs.lemmas.List.{append-nil}
use Rattle.std.proofs.lemmas.List.Elements.{All-nil, All-append, Contains-append_left}
use mathlib.Core.List.{IsPrefix}
use Rattle.aud_witness.specs.declared.decision.Decision.{Decision}
use Rattle.aud_order.specs.Shapes.{ShapeOf}
use Rattle.aud_know.specs.Norms.{refuted, shown}
use Rattle.aud_know.specs.Known.{KnownAtom}
use Rattle.aud_node.specs.Logs.{Entry, atoms_in}
use Rattle.aud_node.specs.Meanings.{NodeOf, PassOf, IsOfNode, mine}
use Rattle.aud_node.proofs.Own.{atoms-append}
use Rattle.aud_split.specs.Pools.{IsFindingOf, IsSettled, HasSearched}

pub settled_later : (s : ShapeOf) (budget : ℕ) (v w : List Entry) (t : List Decision) → IsPrefix v w → IsSettled s budget v t → IsSettled s budget w t
settled_later s budget v w t p settled =
    let later : (a : KnownAtom) → Contains (atoms_in v) a → Contains (atoms_in w) a
    = λ a there. subst (λ (l : List KnownAtom). Contains l a) (sym (atoms-append v p.0) ∙ ap atoms_in p.1) (Contains-append_left (atoms_in v) (atoms_in p.0) a there) in
    elim settled [
      | inl (q, (rest, (there, is))) ↦ inl (q, (rest, (later (refuted q) there, is)))
      | inr other ↦ elim other [
        | inl (q, (there, begins)) ↦ inr (inl (q, (later (shown q) there, begins)))
        | inr spent ↦ inr (inr spent)
      ]
    ]

pub searched_itself : (s : ShapeOf) (p : PassOf) → HasSearched s p p
searched_itself s p = record {
  view = ([], append-nil p.view);
  number = refl;
  seat = refl;
  items = [];
  mine = sym (append-nil (mine p));
  offers = omega arith;
  findings = All-nil (IsFindingOf s);
}

pub searched_onward : (s : ShapeOf) (p q r : PassOf) → HasSearched s p q → HasSearched s q r → HasSearched s p r
searched_onward s p q r a b = record {
  view = (a.view.0 ++ b.view.0, sym (append_assoc p.view a.view.0 b.view.0) ∙ (ap (λ l. l ++ b.view.0) a.view.1 ∙ b.view.1));
  number = b.number ∙ a.number;
  seat = b.seat ∙ a.seat;
  items = a.items ++ b.items;
  mine = b.mine ∙ (ap (λ l. l ++ b.items) a.mine ∙ append_assoc (mine p) a.items b.items);
  offers = omega (arith, a.offers, b.offers, length-append a.items b.items);
  findings = All-append (IsFindingOf s) a.items b.items a.findings b.findings;
}

-- a later pass is of the same node
pub still_at : (s : ShapeOf) (n : NodeOf) (p q : PassOf) → HasSearched s p q → IsOfNode n p → IsOfNode n q
still_at s n p q on at = on.number ∙ at
