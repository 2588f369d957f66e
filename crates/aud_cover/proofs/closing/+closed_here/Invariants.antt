use Rattle.std.specs.Prelude.{◌≡◌, ◌++◌, ◌∷◌, [], List, take}
use Rattle.std.specs.List.{Contains}
use Rattle.aud_lattice.specs.declared.trie.Trie.{size-Trie}
use Rattle.aud_witness.specs.declared.decision.Decision.{Decision}
use Rattle.aud_order.specs.Shapes.{objects_of, history_of}
use Rattle.aud_cover.specs.Closings.{IsClosed}
use Rattle.aud_cover.specs.Leading.{LeadsIntoTrie}
use Rattle.aud_cover.proofs.closing.+closed_here.Given as goal

abbrev pub decreases-closed_here : goal.decreases-closed_here
decreases-closed_here g l = size-Trie Decision g.row.A.Denot l.node.now

abbrev pub invariant-loop-kid : goal.invariant-loop-kid
invariant-loop-kid g l = record {
  same : l.cursor ≡ l.fn.cursor;
  closed : (cover : List (List Decision)) → LeadsIntoTrie cover l.fn.cursor.path l.node → (d : Decision) → Contains (take l.kid-index l.kid-items) d →
      IsClosed (objects_of l.fn.cursor.shape) (history_of l.fn.cursor.shape) cover (l.fn.cursor.path ++ d ∷ []);
}
