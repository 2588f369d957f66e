use Rattle.std.proofs.Common.{ap, ◌∙◌, sym, subst, Some, cond}
use Rattle.std.specs.Map.{lookup, keys_of}
use Rattle.std.specs.BTreeMap.{is_at}
use Rattle.std.specs.Ordering.{is_eq}
use Rattle.std.specs.Arc.{arc_value}
use Rattle.std.specs.List.Sorted.{IsStrictlySortedBy}
use Rattle.aud_lattice.specs.Walks.{nodes_of, node_of}
use Rattle.aud_lattice.proofs.Tries.{moved, first_of, none_first, sorted_nodes}
use Rattle.aud_lattice.proofs.trie.shared_nodes.Goals as goal

pub loop-first-init : goal.loop-first-init
loop-first-init g c =
    let e = c.into_iter-first-iterator.ensures.into_iter_gives.0 in (
      tt,
      tt,
      c.new-all.ensures.ordered,
      subst (λ es. IsStrictlySortedBy g.D.Ord.cmp (keys_of (nodes_of es))) (sym e) (sorted_nodes g.D.Ord.cmp c.args.nodes.now c.into_iter-first-iterator.ensures.into_iter_gives.5),
      λ y. (λ i. first_of (lookup (is_at (g.D.Ord.cmp y)) (nodes_of (e i))) (lookup (is_at (g.D.Ord.cmp y)) (nodes_of (c.new-all.ensures.empty i)))) ∙ none_first (node_of g.D.Ord.cmp c.args.nodes.now y),
    )

pub loop-first-preserved : goal.loop-first-preserved
unfolding IsStrictlySortedBy
loop-first-preserved g c =
    let steps = c.in-Some.ensures.steps in
    let s = subst (λ es. IsStrictlySortedBy g.D.Ord.cmp (keys_of (nodes_of es))) steps c.loop-first.invariant.3 in (
      tt,
      tt,
      c.set.ensures.ordered,
      s.1,
      λ y. moved g.met.D.Ord.total c.in-Some.first.now (arc_value c.in-Some.node.now) (nodes_of c.next.new.self) (node_of g.D.Ord.cmp c.loop-first.all y) (node_of g.D.Ord.cmp c.set.new.next y) (node_of g.D.Ord.cmp c.args.nodes.now y) y s
          (c.in_ok-set.ensures.ok y ∙ ap (λ v. cond (is_eq (g.D.Ord.cmp c.in-Some.first.now y)) (Some v) (node_of g.D.Ord.cmp c.loop-first.all y)) c.in_ok-try_clone.ensures)
          ((λ i. first_of (lookup (is_at (g.D.Ord.cmp y)) (nodes_of (sym steps i))) (node_of g.D.Ord.cmp c.loop-first.all y)) ∙ c.loop-first.invariant.4 y),
    )

pub returns-clause-same : goal.returns-clause-same
returns-clause-same g c =
    λ y. (λ i. first_of (lookup (is_at (g.D.Ord.cmp y)) (nodes_of (sym c.in-None.ensures.steps.0 i))) (node_of g.D.Ord.cmp c.loop-first.all y)) ∙ c.loop-first.invariant.4 y
