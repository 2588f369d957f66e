-- What the node that a prefix leads to says of the prefix.
use Rattle.std.specs.Prelude.{◌≡◌, ◌↔◌, false, IsTrue, List, [], ◌∷◌, ◌++◌, Some, None, refl}
use Rattle.std.proofs.Common.{sym, ◌∙◌, ap, subst, append_assoc}
use Rattle.std.proofs.lemmas.List.{append-nil}
use Rattle.aud_lattice.specs.declared.mark.Mark.TheVariants.{Covered, Inner, Outside}
use Rattle.aud_lattice.specs.declared.trie.Trie.{Trie}
use Rattle.aud_lattice.specs.Marks.{mark_of}
use Rattle.aud_lattice.proofs.Marked.{covered_is, inner_is}
use Rattle.aud_lattice.specs.Paths.{paths}
use Rattle.aud_lattice.proofs.Pathed.{marks, inner_opened, gone_mark, known_mark, mark_under, mark_nowhere}
use Rattle.aud_lattice.specs.Walks.{child, node_at, walk_mark, IsTrie}
use Rattle.aud_witness.specs.declared.decision.Decision.{Decision}
use Rattle.aud_witness.specs.DecisionOrder.{decision_cmp, decisions_total, decision_exact}
use Rattle.aud_witness.specs.Orders.{IsGood, IsGoodNext}
use Rattle.aud_witness.proofs.Good.{IsGood-push}
use Rattle.aud_order.specs.Shapes.{objects_of, history_of}
use Rattle.aud_order.specs.Cursors.{CursorOf}
use Rattle.aud_cover.specs.Closings.{IsCovered, IsInside, IsClosed}
use Rattle.aud_cover.specs.Leading.{LeadsIntoTrie}
use Rattle.aud_cover.proofs.Beginnings.{marked-covered, marked-inner, marked-outside}
use Rattle.aud_cover.proofs.Steps.{at-outside, at-open_kid, cursor_with}

module _ (cover : List (List Decision)) (p : List Decision) where
  is-covered : mark_of decision_cmp cover p ≡ Covered → IsCovered cover p
  is-covered = marked-covered cover p (mark_of decision_cmp cover p) (covered_is decision_cmp cover p) (inner_is decision_cmp cover p)

  is-inner : mark_of decision_cmp cover p ≡ Inner → (IsCovered cover p → ⊥) × IsInside cover p
  is-inner = marked-inner cover p (mark_of decision_cmp cover p) (covered_is decision_cmp cover p) (inner_is decision_cmp cover p)

  is-outside : mark_of decision_cmp cover p ≡ Outside → (IsCovered cover p → ⊥) × (IsInside cover p → ⊥)
  is-outside = marked-outside cover p (mark_of decision_cmp cover p) (covered_is decision_cmp cover p) (inner_is decision_cmp cover p)

module _ {A : Type 0} (cover : List (List Decision)) (p : List Decision) (node : Trie Decision A) (leads : LeadsIntoTrie cover p node) where
  here : mark_of decision_cmp cover p ≡ walk_mark decision_cmp node []
  here = ap (mark_of decision_cmp cover) (sym (append-nil p)) ∙ leads []

  pub at-member : walk_mark decision_cmp node [] ≡ Covered → IsCovered cover p
  at-member e = is-covered cover p (here ∙ e)

  pub at-end : walk_mark decision_cmp node [] ≡ Outside → (IsCovered cover p → ⊥) × (IsInside cover p → ⊥)
  at-end e = is-outside cover p (here ∙ e)

  pub at-inner : walk_mark decision_cmp node [] ≡ Inner → (IsCovered cover p → ⊥) × IsInside cover p
  at-inner e = is-inner cover p (here ∙ e)

  pub kid-leads : (d : Decision) (u : Trie Decision A) → child decision_cmp node d ≡ Some u → LeadsIntoTrie cover (p ++ d ∷ []) u
  kid-leads d u found q = ap (mark_of decision_cmp cover) (append_assoc p (d ∷ []) q) ∙ leads (d ∷ q) ∙ known_mark decision_cmp node d q u found

  pub kid-outside : walk_mark decision_cmp node [] ≡ Inner → (d : Decision) → child decision_cmp node d ≡ None → (IsCovered cover (p ++ d ∷ []) → ⊥) × (IsInside cover (p ++ d ∷ []) → ⊥)
  kid-outside e d gone = is-outside cover (p ++ d ∷ []) (leads (d ∷ []) ∙ gone_mark decision_cmp node d [] (inner_opened decision_cmp node e) gone)

module _ {A : Type 0} (cover : List (List Decision)) (root : Trie Decision A) (good : IsTrie decision_cmp root) (is : paths root ≡ cover) where
  root_mark : (q : List Decision) → mark_of decision_cmp cover q ≡ walk_mark decision_cmp root q
  root_mark q = ap (λ c. mark_of decision_cmp c q) (sym is) ∙ sym (marks decision_cmp decisions_total decision_exact q root good)

  pub root-leads : LeadsIntoTrie cover [] root
  root-leads q = root_mark q

  pub node-leads : (p : List Decision) (u : Trie Decision A) → node_at decision_cmp p root ≡ Some u → LeadsIntoTrie cover p u
  node-leads p u found q = root_mark (p ++ q) ∙ mark_under decision_cmp p root u found q

  pub nowhere-outside : (p : List Decision) → node_at decision_cmp p root ≡ None → (mark_of decision_cmp cover p ≡ Covered → ⊥) → (IsCovered cover p → ⊥) × (IsInside cover p → ⊥)
  nowhere-outside p none apart = is-outside cover p (root_mark p ∙ mark_nowhere decision_cmp p root none (λ c. apart (root_mark p ∙ c)))

-- # With a cursor

module _ {A : Type 0} (cover : List (List Decision)) (start : CursorOf) (node : Trie Decision A) (leads : LeadsIntoTrie cover start.path node) (d : Decision) where
  -- a kid that was pushed leads to its node
  pub pushed-leads : (cur pushed : CursorOf) (u : Trie Decision A) → child decision_cmp node d ≡ Some u → cur ≡ start → pushed ≡ cursor_with cur d → LeadsIntoTrie cover pushed.path u
  pushed-leads cur pushed u found same grown =
      subst (λ (c : CursorOf). LeadsIntoTrie cover c.path u) (sym (grown ∙ ap (λ (c : CursorOf). cursor_with c d) same)) (kid-leads cover start.path node leads d u found)

  -- a good kid that leads nowhere is not closed
  pub gone-closed : walk_mark decision_cmp node [] ≡ Inner → child decision_cmp node d ≡ None → IsGood (objects_of start.shape) (history_of start.shape) start.path → IsGoodNext (objects_of start.shape) (history_of start.shape) start.path d →
      IsTrue false ↔ IsClosed (objects_of start.shape) (history_of start.shape) cover start.path
  gone-closed inner gone good one =
      at-open_kid (objects_of start.shape) (history_of start.shape) cover start.path d false good (at-inner cover start.path node leads inner) one
      (at-outside (objects_of start.shape) (history_of start.shape) cover (start.path ++ d ∷ []) (IsGood-push (objects_of start.shape) (history_of start.shape) start.path d good one)
      (kid-outside cover start.path node leads inner d gone)) refl
