use Rattle.std.proofs.Common.{◌≡◌, ◌+◌, ◌*◌, Some}
use Rattle.std.specs.List.{AllByRecursion}
use Rattle.aud_lattice.specs.Eithers.{either}
use Rattle.aud_lattice.specs.Walks.{walk, child, nodes_of, now_of, IsTrie}
use Rattle.aud_lattice.specs.declared.trie.Trie.TheVariants.{Fork}
use Rattle.aud_lattice.specs.declared.trie.Trie.{size-Trie}
use Rattle.std.specs.Arc.{arc_value}
use Rattle.aud_lattice.proofs.Tries.{any_starts}
use Rattle.aud_lattice.proofs.trie.Trie.+grafts.Given as goal

abbrev pub invariant-joined-loop-first : goal.invariant-joined-loop-first
invariant-joined-loop-first g l =
    (goal.iterator-joined-loop-first g).can_next l.first-iterator
    × (goal.iterator-joined-loop-first g).is_finite l.first-iterator
    × IsTrie g.D.Ord.cmp (Fork (now_of l.ours l.all))
    × AllByRecursion (λ e. child g.D.Ord.cmp l.from e.0 ≡ Some e.1) (nodes_of l.first-iterator)
    × (either (any_starts g.D.Ord.cmp (nodes_of l.first-iterator)) (walk g.D.Ord.cmp (Fork (now_of l.ours l.all))) ≡ either (walk g.D.Ord.cmp l.from) (walk g.D.Ord.cmp l.self))

abbrev pub decreases-joined : goal.decreases-joined
decreases-joined g l = 3 * size-Trie g.row.D.Denot g.row.A.Denot l.from.now

abbrev pub decreases-grafted : goal.decreases-grafted
decreases-grafted g l = 3 * size-Trie g.row.D.Denot g.row.A.Denot (arc_value l.node.now) + 2

abbrev pub decreases-met : goal.decreases-met
decreases-met g l = 3 * size-Trie g.row.D.Denot g.row.A.Denot (arc_value l.node.now) + 1
