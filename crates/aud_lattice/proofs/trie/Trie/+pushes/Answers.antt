use Rattle.std.proofs.Common.{rules, ◌≡◌, ◌++◌, ◌∷◌, [], map, refl, ap, ◌∙◌, sym, subst, ◌<◌, OnOk, append_assoc, append-nil}
use Rattle.std.specs.List.{AllByRecursion}
use Rattle.std.specs.Arc.{arc_value}
use Rattle.aud_lattice.specs.Walks.{nodes_of}
use Rattle.aud_lattice.specs.Paths.{paths}
use Rattle.aud_lattice.proofs.Pathed.{pathed, pushed, paths_fork}
use Rattle.aud_lattice.proofs.Tries.{nodes_small}
use Rattle.aud_lattice.specs.declared.trie.Trie.{out-Trie, size-Trie}
use Rattle.aud_lattice.specs.declared.trie.Trie.TheVariants.{outs-Fork}
use Rattle.aud_lattice.proofs.trie.Trie.+pushes.Goals as goal

pub push_paths-loop-first-init : goal.push_paths-loop-first-init
push_paths-loop-first-init g t c =
    let e = c.into_iter-first-iterator.ensures.into_iter_gives.0 in
    let at = ap (out-Trie g.row.D.Denot g.row.A.Denot) c.in-Fork.is ∙ outs-Fork c.in-Fork.nodes in (
      tt,
      tt,
      refl,
      subst (λ es. AllByRecursion (λ x. size-Trie g.row.D.Denot g.row.A.Denot x.1 < size-Trie g.row.D.Denot g.row.A.Denot c.args.self.now) (nodes_of es)) (sym e) (nodes_small g.D.Ord.cmp c.args.self.now c.in-Fork.nodes at),
      (λ i. c.args.all.now.items ++ map (λ p. c.args.path.now.items ++ p) (pathed g.D.Ord.cmp (nodes_of (e i)))) ∙ ap (λ ps. c.args.all.now.items ++ map (λ p. c.args.path.now.items ++ p) ps) (sym (paths_fork g.D.Ord.cmp c.args.self.now c.in-Fork.nodes at)),
    )

pub push_paths-loop-first-preserved : goal.push_paths-loop-first-preserved
push_paths-loop-first-preserved g t c =
    let steps = c.in-Some-2.ensures.steps in
    let same = c.loop-first.invariant.2 in
    let small = subst (λ es. AllByRecursion (λ x. size-Trie g.row.D.Denot g.row.A.Denot x.1 < size-Trie g.row.D.Denot g.row.A.Denot c.args.self.now) (nodes_of es)) steps c.loop-first.invariant.3 in
    let now = c.in_ok-push_under-in-Fork.ensures.all ∙ (λ i. c.loop-first.all.items ++ map (λ p. same i ++ c.in-Some-2.first.now ∷ p) (paths (c.deref-in-loop-first.ensures i))) in (
      tt,
      tt,
      c.in_ok-push_under-in-Fork.ensures.path ∙ same,
      small.1,
      (λ i. now i ++ map (λ p. c.args.path.now.items ++ p) (pathed g.D.Ord.cmp (nodes_of c.next.new.self)))
          ∙ pushed c.args.path.now.items c.in-Some-2.first.now (paths (arc_value c.in-Some-2.node.now)) (pathed g.D.Ord.cmp (nodes_of c.next.new.self)) c.loop-first.all.items
          ∙ (λ i. c.loop-first.all.items ++ map (λ p. c.args.path.now.items ++ p) (pathed g.D.Ord.cmp (nodes_of (sym steps i))))
          ∙ c.loop-first.invariant.4,
    )

pub push_paths-push_under-requires : goal.push_paths-push_under-requires
push_paths-push_under-requires g t c κs within =
    let at = ap (out-Trie g.row.D.Denot g.row.A.Denot) c.in-Fork.is ∙ outs-Fork c.in-Fork.nodes in
    let small = subst (λ es. AllByRecursion (λ x. size-Trie g.row.D.Denot g.row.A.Denot x.1 < size-Trie g.row.D.Denot g.row.A.Denot c.args.self.now) (nodes_of es)) c.in-Some.ensures (nodes_small g.D.Ord.cmp c.args.self.now c.in-Fork.nodes at) in
    rw c.deref-in-Some.ensures (search (rules, small.0))

pub push_paths-push_under-requires-in-loop-first : goal.push_paths-push_under-requires-in-loop-first
push_paths-push_under-requires-in-loop-first g t c κs within =
    let small = subst (λ es. AllByRecursion (λ x. size-Trie g.row.D.Denot g.row.A.Denot x.1 < size-Trie g.row.D.Denot g.row.A.Denot c.args.self.now) (nodes_of es)) c.in-Some-2.ensures.steps c.loop-first.invariant.3 in
    rw c.deref-in-loop-first.ensures (search (rules, small.0))

pub push_paths-returns-in-Some-clause-all : goal.push_paths-returns-in-Some-clause-all
push_paths-returns-in-Some-clause-all g t c =
    let at = ap (out-Trie g.row.D.Denot g.row.A.Denot) c.in-Fork.is ∙ outs-Fork c.in-Fork.nodes in
    let path = c.args.path.now.items in
    let all = c.args.all.now.items in
    let first = c.in-Some.first.now in
    let below = paths (arc_value c.in-Some.node.now) in
    let same : all ++ map (λ p. path ++ first ∷ p) (paths c.deref-in-Some.result.now) ≡ all ++ map (λ p. path ++ p) (paths c.args.self.now) =
    (λ i. all ++ map (λ p. path ++ first ∷ p) (paths (c.deref-in-Some.ensures i)))
    ∙ sym (append-nil (all ++ map (λ p. path ++ first ∷ p) below))
    ∙ pushed path first below [] all
    ∙ (λ i. all ++ map (λ p. path ++ p) (pathed g.D.Ord.cmp (nodes_of (sym c.in-Some.ensures i))))
    ∙ ap (λ ps. all ++ map (λ p. path ++ p) ps) (sym (paths_fork g.D.Ord.cmp c.args.self.now c.in-Fork.nodes at)) in
    subst (λ after. OnOk c.push_under.result (c.push_under.new.all.items ≡ after)) same c.push_under.ensures.all

pub push_paths-returns-in-None-clause-all : goal.push_paths-returns-in-None-clause-all
push_paths-returns-in-None-clause-all g t c =
    sym (append-nil c.loop-first.all.items)
    ∙ (λ i. c.loop-first.all.items ++ map (λ p. c.args.path.now.items ++ p) (pathed g.D.Ord.cmp (nodes_of (sym c.in-None.ensures.steps.0 i))))
    ∙ c.loop-first.invariant.4

pub push_under-returns-clause-all : goal.push_under-returns-clause-all
push_under-returns-clause-all g t c =
    let longer : c.push.new.self.items ≡ c.args.path.now.items ++ c.args.first.now ∷ [] = c.in_ok-push.ensures.items ∙ (λ i. c.args.path.now.items ++ c.in_ok-dup.ensures i ∷ []) in
    c.in_ok-push_paths.ensures.all
    ∙ (λ i. c.args.all.now.items ++ map (λ p. longer i ++ p) (paths c.args.node.now))
    ∙ (λ i. c.args.all.now.items ++ map (λ p. append_assoc c.args.path.now.items (c.args.first.now ∷ []) p i) (paths c.args.node.now))
