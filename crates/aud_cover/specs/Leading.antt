-- The trie below a prefix in a cover's trie, and what is to be reported of it whatever the cover is.
use Rattle.std.specs.Prelude.{◌≡◌, ◌↔◌, Bool, IsTrue, List, ◌++◌}
use Rattle.aud_lattice.specs.declared.trie.Trie.{Trie}
use Rattle.aud_lattice.specs.Marks.{mark_of}
use Rattle.aud_lattice.specs.Walks.{walk_mark}
use Rattle.aud_witness.specs.declared.decision.Decision.{Decision}
use Rattle.aud_witness.specs.DecisionOrder.{decision_cmp}
use Rattle.aud_order.specs.Shapes.{objects_of, history_of}
use Rattle.aud_order.specs.Cursors.{CursorOf}
use Rattle.aud_cover.specs.Closings.{IsClosed}
use Rattle.aud_cover.specs.Openings.{IsReached, AreAdded}

-- what begins with p stands to the cover as the rest of it stands to the trie
abbrev pub LeadsIntoTrie : {A : Type 0} → List (List Decision) → List Decision → Trie Decision A → Type 0
LeadsIntoTrie cover p below = (q : List Decision) → mark_of decision_cmp cover (p ++ q) ≡ walk_mark decision_cmp below q

-- whether the cursor's prefix is closed by each cover in which it leads to the trie
abbrev pub ReportsClosed : {A : Type 0} → CursorOf → Trie Decision A → Bool → Type 0
ReportsClosed c below closed = (cover : List (List Decision)) → LeadsIntoTrie cover c.path below → IsTrue closed ↔ IsClosed (objects_of c.shape) (history_of c.shape) cover c.path

-- what is open from the cursor's prefix on is added, for each cover in which it is reached and leads to the trie
abbrev pub AddsOpen : {A : Type 0} → CursorOf → Trie Decision A → List (List Decision) → List (List Decision) → Type 0
AddsOpen c below old new =
    (cover : List (List Decision)) → LeadsIntoTrie cover c.path below → IsReached (objects_of c.shape) (history_of c.shape) cover c.path →
    AreAdded (objects_of c.shape) (history_of c.shape) cover c.path old new
