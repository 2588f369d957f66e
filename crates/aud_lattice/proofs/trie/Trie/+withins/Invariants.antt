use Rattle.std.proofs.Common.{◌≡◌, ◌+◌, ◌*◌, Some}
use Rattle.std.specs.List.{AllByRecursion}
use Rattle.aud_lattice.specs.declared.trie.Trie.{size-Trie}
use Rattle.aud_lattice.specs.Walks.{walk, child, nodes_of, IsWithin}
use Rattle.aud_lattice.proofs.Tries.{any_starts}
use Rattle.aud_lattice.proofs.trie.Trie.+withins.Given as goal

abbrev pub invariant-is_within-loop-first : goal.invariant-is_within-loop-first
invariant-is_within-loop-first g l =
    (goal.iterator-is_within-loop-first g).can_next l.first-iterator
    × (goal.iterator-is_within-loop-first g).is_finite l.first-iterator
    × AllByRecursion (λ e. child g.D.Ord.cmp l.self e.0 ≡ Some e.1) (nodes_of l.first-iterator)
    × (IsWithin (walk g.D.Ord.cmp l.self) (walk g.D.Ord.cmp l.other) → IsWithin (any_starts g.D.Ord.cmp (nodes_of l.first-iterator)) (walk g.D.Ord.cmp l.other))
    × (IsWithin (any_starts g.D.Ord.cmp (nodes_of l.first-iterator)) (walk g.D.Ord.cmp l.other) → IsWithin (walk g.D.Ord.cmp l.self) (walk g.D.Ord.cmp l.other))

abbrev pub decreases-is_within : goal.decreases-is_within
decreases-is_within g l = 2 * size-Trie g.row.D.Denot g.row.A.Denot l.self.now

abbrev pub decreases-is_within_at : goal.decreases-is_within_at
decreases-is_within_at g l = 2 * size-Trie g.row.D.Denot g.row.A.Denot l.node.now + 1
