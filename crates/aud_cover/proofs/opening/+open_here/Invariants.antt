use Rattle.std.specs.Prelude.{◌≡◌, List}
use Rattle.aud_lattice.specs.declared.trie.Trie.{size-Trie}
use Rattle.aud_witness.specs.declared.decision.Decision.{Decision}
use Rattle.aud_order.specs.Shapes.{objects_of, history_of}
use Rattle.aud_cover.specs.Openings.{IsReached}
use Rattle.aud_cover.specs.Leading.{LeadsIntoTrie}
use Rattle.aud_cover.proofs.Opened.{AreGathered}
use Rattle.aud_cover.proofs.opening.+open_here.Given as goal

abbrev pub decreases-open_here : goal.decreases-open_here
decreases-open_here g l = size-Trie Decision g.row.A.Denot l.node.now

abbrev pub invariant-loop-kid : goal.invariant-loop-kid
invariant-loop-kid g l = record {
  same : l.cursor ≡ l.fn.cursor;
  gathered : (cover : List (List Decision)) → LeadsIntoTrie cover l.fn.cursor.path l.node → IsReached (objects_of l.fn.cursor.shape) (history_of l.fn.cursor.shape) cover l.fn.cursor.path →
      AreGathered (objects_of l.fn.cursor.shape) (history_of l.fn.cursor.shape) cover l.fn.cursor.path l.kid-items l.kid-index l.fn.list.items l.list.items;
}
