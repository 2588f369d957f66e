use Rattle.std.proofs.Common.{◌≡◌, ◌++◌, map, ◌+◌, ◌*◌, ◌<◌}
use Rattle.std.specs.List.{AllByRecursion}
use Rattle.aud_lattice.specs.Walks.{nodes_of}
use Rattle.aud_lattice.specs.Paths.{paths}
use Rattle.aud_lattice.proofs.Pathed.{pathed}
use Rattle.aud_lattice.specs.declared.trie.Trie.{size-Trie}
use Rattle.aud_lattice.proofs.trie.Trie.+pushes.Given as goal

abbrev pub invariant-push_paths-loop-first : goal.invariant-push_paths-loop-first
invariant-push_paths-loop-first g l =
    (goal.iterator-push_paths-loop-first g).can_next l.first-iterator
    × (goal.iterator-push_paths-loop-first g).is_finite l.first-iterator
    × (l.path.items ≡ l.initial.path.items)
    × AllByRecursion (λ e. size-Trie g.row.D.Denot g.row.A.Denot e.1 < size-Trie g.row.D.Denot g.row.A.Denot l.self) (nodes_of l.first-iterator)
    × (l.all.items ++ map (λ p. l.initial.path.items ++ p) (pathed g.D.Ord.cmp (nodes_of l.first-iterator)) ≡ l.initial.all.items ++ map (λ p. l.initial.path.items ++ p) (paths l.self))

abbrev pub decreases-push_paths : goal.decreases-push_paths
decreases-push_paths g l = 2 * size-Trie g.row.D.Denot g.row.A.Denot l.self.now

abbrev pub decreases-push_under : goal.decreases-push_under
decreases-push_under g l = 2 * size-Trie g.row.D.Denot g.row.A.Denot l.node.now + 1
