-- Tries of the same lists have the same nodes.
use Rattle.std.proofs.Common.{◌≡◌, false, ◌||◌, List, [], ◌∷◌, Option, Some, None, refl, sym, ap, ◌∙◌}
use Rattle.std.specs.declared.cmp.Ordering.{Ordering}
use Rattle.std.specs.Cmp.{IsTotalOrder}
use Rattle.base_values.specs.Exact.{IsExact}
use Rattle.aud_lattice.specs.Covers.{covers}
use Rattle.aud_lattice.specs.declared.trie.Trie.{Trie}
use Rattle.aud_lattice.specs.Nodes.{stands, SettlesNodes}
use Rattle.aud_lattice.specs.Walks.{child, go_on, is_member, node_at, walk, walk_on, IsTrie}
use Rattle.aud_lattice.proofs.Pathed.{covers-paths}
use Rattle.aud_lattice.proofs.Tries.{pointwise, good_child, live_child, parent_opened}

module _ {D A : Type 0} (R : D → D → Ordering) where
  under_walk : (t : Trie D A) → is_member t ≡ false → (x : D) (q : List D) → walk R t (x ∷ q) ≡ walk_on (λ w. walk R w q) (child R t x)
  under_walk t opened x q = λ i. opened i || walk_on (λ w. walk R w q) (child R t x)

  module _ (t u : Trie D A) (h : IsTrie R t) (same : walk R t ≡ walk R u) (x : D) (v : Trie D A) (found : child R t x ≡ Some v) where
    here : is_member t ≡ false
    here = parent_opened R t x v found

    there : is_member u ≡ false
    there = (λ i. sym same i []) ∙ here

    -- what passes from the node passes from the other trie after x
    passed : (q : List D) → walk R v q ≡ walk_on (λ w. walk R w q) (child R u x)
    passed q = sym (under_walk t here x q ∙ ap (walk_on (λ w. walk R w q)) found) ∙ (λ i. same i (x ∷ q)) ∙ under_walk u there x q

    gone : child R u x ≡ None → ⊥
    gone none = live_child R t x v found h (λ q. passed q ∙ ap (walk_on (λ w. walk R w q)) none)

    met : (w : Trie D A) → child R u x ≡ Some w → walk R v ≡ walk R w
    met w other = pointwise (λ q. passed q ∙ ap (walk_on (λ w. walk R w q)) other)

  same_nodes : (q : List D) (t u : Trie D A) → IsTrie R t → IsTrie R u → walk R t ≡ walk R u → stands R q t ≡ stands R q u
  same_nodes [] t u h g e = ap Some (λ i. e i [])
  same_nodes (x ∷ q) t u h g e = cases (λ v w a b f. same_nodes q v w a b f) (child R t x) (child R u x) refl refl
    where
      cases : ((v w : Trie D A) → IsTrie R v → IsTrie R w → walk R v ≡ walk R w → stands R q v ≡ stands R q w) → (m n : Option (Trie D A)) → child R t x ≡ m → child R u x ≡ n →
          go_on (λ z. Some (is_member z)) (go_on (λ z. node_at R q z) m) ≡ go_on (λ z. Some (is_member z)) (go_on (λ z. node_at R q z) n)
      cases further None None c d = refl
      cases further None (Some w) c d = absurd (gone u t g (sym e) x w d c)
      cases further (Some v) None c d = absurd (gone t u h e x v c d)
      cases further (Some v) (Some w) c d = further v w (good_child R t x v c h) (good_child R u x w d g) (met t u h e x v c w d)

  pub settled : IsTotalOrder R → IsExact R → SettlesNodes A R
  settled o ex t u h g same q = same_nodes q t u h g (pointwise (λ q. sym (covers-paths R o ex q t h) ∙ ap (λ ps. covers R ps q) same ∙ covers-paths R o ex q u g))
