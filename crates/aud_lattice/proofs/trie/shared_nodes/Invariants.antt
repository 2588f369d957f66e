use Rattle.std.proofs.Common.{◌≡◌}
use Rattle.std.specs.BTreeMap.{IsOrdered, is_at}
use Rattle.std.specs.Map.{lookup, keys_of}
use Rattle.std.specs.List.Sorted.{IsStrictlySortedBy}
use Rattle.aud_lattice.specs.Walks.{nodes_of, node_of}
use Rattle.aud_lattice.proofs.Tries.{first_of}
use Rattle.aud_lattice.proofs.trie.shared_nodes.Given as goal

abbrev pub invariant-loop-first : goal.invariant-loop-first
invariant-loop-first g l =
    (goal.iterator-loop-first g).can_next l.first-iterator
    × (goal.iterator-loop-first g).is_finite l.first-iterator
    × IsOrdered g.D.Ord.cmp l.all
    × IsStrictlySortedBy g.D.Ord.cmp (keys_of (nodes_of l.first-iterator))
    × ((y : g.row.D.Denot) → first_of (lookup (is_at (g.D.Ord.cmp y)) (nodes_of l.first-iterator)) (node_of g.D.Ord.cmp l.all y) ≡ node_of g.D.Ord.cmp l.nodes y)
