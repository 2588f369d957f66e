use Rattle.std.proofs.Common.{◌≡◌, ◌+◌, ◌*◌, Some, None}
use Rattle.std.specs.List.{AllByRecursion}
use Rattle.std.specs.List.Sorted.{IsStrictlySortedBy}
use Rattle.std.specs.Map.{keys_of}
use Rattle.std.specs.Arc.{arc_value}
use Rattle.aud_lattice.specs.Eithers.{either}
use Rattle.aud_lattice.specs.Walks.{leads, but, child, nodes_of, node_of, IsTrie}
use Rattle.aud_lattice.specs.declared.trie.Trie.TheVariants.{Fork}
use Rattle.aud_lattice.specs.declared.trie.Trie.{size-Trie}
use Rattle.aud_lattice.proofs.Tries.{any_by}
use Rattle.aud_lattice.proofs.trie.Trie.+leavings.Given as goal

abbrev pub invariant-without-loop-first : goal.invariant-without-loop-first
invariant-without-loop-first g l =
    (goal.iterator-without-loop-first g).can_next l.first-iterator
    × (goal.iterator-without-loop-first g).is_finite l.first-iterator
    × IsTrie g.D.Ord.cmp (Fork l.all)
    × AllByRecursion (λ e. child g.D.Ord.cmp l.self e.0 ≡ Some e.1) (nodes_of l.first-iterator)
    × IsStrictlySortedBy g.D.Ord.cmp (keys_of (nodes_of l.first-iterator))
    × AllByRecursion (λ e. node_of g.D.Ord.cmp l.all e.0 ≡ None) (nodes_of l.first-iterator)
    × (either (but (any_by g.D.Ord.cmp (leads g.D.Ord.cmp) (nodes_of l.first-iterator)) (leads g.D.Ord.cmp l.other)) (leads g.D.Ord.cmp (Fork l.all)) ≡ but (leads g.D.Ord.cmp l.self) (leads g.D.Ord.cmp l.other))

abbrev pub decreases-without : goal.decreases-without
decreases-without g l = 3 * size-Trie g.row.D.Denot g.row.A.Denot l.self.now

abbrev pub decreases-leave : goal.decreases-leave
decreases-leave g l = 3 * size-Trie g.row.D.Denot g.row.A.Denot (arc_value l.node.now) + 2

abbrev pub decreases-left : goal.decreases-left
decreases-left g l = 3 * size-Trie g.row.D.Denot g.row.A.Denot (arc_value l.ours.now) + 1
