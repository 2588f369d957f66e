use Rattle.std.proofs.Common.{rules, ap, ◌∙◌, sym, ◌≡◌, Some, None, cond, subst}
use Rattle.std.specs.Option.{option_copied}
use Rattle.std.specs.Ordering.{is_eq}
use Rattle.std.specs.List.{AllByRecursion}
use Rattle.std.specs.Arc.{arc_value}
use Rattle.std.specs.BTreeMap.{IsOrdered}
use Rattle.aud_lattice.specs.declared.trie.Trie.TheVariants.{Fork, outs-Fork}
use Rattle.aud_lattice.specs.declared.trie.Trie.{Trie, out-Trie}
use Rattle.aud_lattice.specs.Walks.{IsLayer, walk, child, starts, nodes_of, node_of, now_of, IsTrie, IsLive, IsMet}
use Rattle.aud_lattice.specs.Eithers.{either}
use Rattle.aud_lattice.proofs.Tries.{member_joins, member_keeps, found_kids, child_size, any_starts, any_starts-walk, alone_starts, good_here, shift, good_child, live_child, fork_good_at, fork_ordered, found_node, gone_node, met_there, met_good, met_walk, met_gone, met_found}
use Rattle.aud_lattice.proofs.trie.Trie.+grafts.Goals as goal

pub grafted-own_nodes-requires : goal.grafted-own_nodes-requires
grafted-own_nodes-requires g t c = fork_ordered g.D.Ord.cmp (now_of c.args.ours.now c.args.all) c.requires.into

pub grafted-met-requires : goal.grafted-met-requires
grafted-met-requires g t c κs within = rw c.nodes_now.ensures (search (rules, c.requires))

pub grafted-returns-in-None-clause-both : goal.grafted-returns-in-None-clause-both
grafted-returns-in-None-clause-both g t c =
    let x = c.args.first.now in
    let f = walk g.D.Ord.cmp (arc_value c.args.node.now) in
    let m = now_of c.args.ours.now c.args.all in
    let is : IsMet g.D.Ord.cmp m x f None = subst (IsMet g.D.Ord.cmp m x f) c.in-None.is (subst (λ n. IsMet g.D.Ord.cmp n x f c.in_ok-met.field-0) c.nodes_now.ensures c.in_ok-met.ensures) in
    met_there g.D.Ord.cmp g.met.D.Ord.total g.met.D.Key.exact m c.requires.into x f is

pub grafted-returns-in_ok-set-in-Some-clause-good : goal.grafted-returns-in_ok-set-in-Some-clause-good
grafted-returns-in_ok-set-in-Some-clause-good g t c =
    let x = c.args.first.now in
    let f = walk g.D.Ord.cmp (arc_value c.args.node.now) in
    let m = now_of c.args.ours.now c.args.all in
    let a = c.in-Some.node in
    let is : IsMet g.D.Ord.cmp m x f (Some a) = subst (IsMet g.D.Ord.cmp m x f) c.in-Some.is (subst (λ n. IsMet g.D.Ord.cmp n x f c.in_ok-met.field-0) c.nodes_now.ensures c.in_ok-met.ensures) in
    let kids = λ (y : g.row.D.Denot). c.in_ok-set-in-Some.ensures.ok y ∙ ap (cond (is_eq (g.D.Ord.cmp x y)) (Some (arc_value a))) (c.in_ok-nodes-in-Some.ensures.same y) in
    met_good g.D.Ord.cmp g.met.D.Ord.total g.met.D.Key.exact m c.requires.into x f a is c.requires.live c.set.new.next c.set.ensures.ordered kids

pub grafted-returns-in_ok-set-in-Some-clause-both : goal.grafted-returns-in_ok-set-in-Some-clause-both
grafted-returns-in_ok-set-in-Some-clause-both g t c =
    let x = c.args.first.now in
    let f = walk g.D.Ord.cmp (arc_value c.args.node.now) in
    let m = now_of c.args.ours.now c.args.all in
    let a = c.in-Some.node in
    let is : IsMet g.D.Ord.cmp m x f (Some a) = subst (IsMet g.D.Ord.cmp m x f) c.in-Some.is (subst (λ n. IsMet g.D.Ord.cmp n x f c.in_ok-met.field-0) c.nodes_now.ensures c.in_ok-met.ensures) in
    let kids = λ (y : g.row.D.Denot). c.in_ok-set-in-Some.ensures.ok y ∙ ap (cond (is_eq (g.D.Ord.cmp x y)) (Some (arc_value a))) (c.in_ok-nodes-in-Some.ensures.same y) in
    met_walk g.D.Ord.cmp g.met.D.Ord.total g.met.D.Key.exact m c.requires.into x f a is c.requires.live c.set.new.next c.set.ensures.ordered kids

pub joined-loop-first-init : goal.joined-loop-first-init
joined-loop-first-init g t c =
    let e = c.into_iter-first-iterator.ensures.into_iter_gives.0 in
    let s = c.into_iter-first-iterator.ensures.into_iter_gives.5 in
    let at = ap (out-Trie g.row.D.Denot g.row.A.Denot) c.in-Fork-from.is ∙ outs-Fork c.in-Fork-from.theirs in (
      tt,
      tt,
      subst (IsTrie g.D.Ord.cmp) c.in-Fork.is c.requires.into,
      subst (λ es. AllByRecursion (λ x. child g.D.Ord.cmp c.args.from.now x.0 ≡ Some x.1) (nodes_of es)) (sym e) (found_kids g.D.Ord.cmp g.met.D.Ord.total g.met.D.Key.exact c.args.from.now c.in-Fork-from.theirs at s),
      (λ i. either (any_starts g.D.Ord.cmp (nodes_of (e i))) (walk g.D.Ord.cmp (Fork c.in-Fork.ours)))
          ∙ (λ i. either (any_starts-walk g.D.Ord.cmp g.met.D.Ord.total g.met.D.Key.exact c.args.from.now c.in-Fork-from.theirs at s i) (walk g.D.Ord.cmp (sym c.in-Fork.is i))),
    )

pub joined-grafted-requires : goal.joined-grafted-requires
joined-grafted-requires g t c κs within =
    let at = ap (out-Trie g.row.D.Denot g.row.A.Denot) c.in-Fork-from.is ∙ outs-Fork c.in-Fork-from.theirs in
    let ordered : IsOrdered g.D.Ord.cmp c.in-Fork-from.theirs = subst (IsLayer g.D.Ord.cmp) at (good_here g.D.Ord.cmp c.args.from.now c.requires.from) in
    let kids = subst (λ es. AllByRecursion (λ x. child g.D.Ord.cmp c.args.from.now x.0 ≡ Some x.1) (nodes_of es)) c.in-Some.ensures (found_kids g.D.Ord.cmp g.met.D.Ord.total g.met.D.Key.exact c.args.from.now c.in-Fork-from.theirs at ordered) in
    let good : IsTrie g.D.Ord.cmp (arc_value c.in-Some.node.now) = good_child g.D.Ord.cmp c.args.from.now c.in-Some.first.now (arc_value c.in-Some.node.now) kids.0 c.requires.from in
    let live : IsLive g.D.Ord.cmp (arc_value c.in-Some.node.now) = live_child g.D.Ord.cmp c.args.from.now c.in-Some.first.now (arc_value c.in-Some.node.now) kids.0 c.requires.from in
    let small = child_size g.D.Ord.cmp c.args.from.now c.in-Some.first.now (arc_value c.in-Some.node.now) kids.0 in
    let into = subst (IsTrie g.D.Ord.cmp) c.in-Fork.is c.requires.into in
    search (rules, good, live, small, into)

pub joined-returns-in-Some-2-clause-both : goal.joined-returns-in-Some-2-clause-both
joined-returns-in-Some-2-clause-both g t c =
    let at = ap (out-Trie g.row.D.Denot g.row.A.Denot) c.in-Fork-from.is ∙ outs-Fork c.in-Fork-from.theirs in
    let ordered : IsOrdered g.D.Ord.cmp c.in-Fork-from.theirs = subst (IsLayer g.D.Ord.cmp) at (good_here g.D.Ord.cmp c.args.from.now c.requires.from) in
    let theirs : starts g.D.Ord.cmp c.in-Some.first.now (walk g.D.Ord.cmp (arc_value c.in-Some.node.now)) ≡ walk g.D.Ord.cmp c.args.from.now =
    sym (alone_starts g.D.Ord.cmp c.in-Some.first.now (arc_value c.in-Some.node.now))
    ∙ (λ i. any_starts g.D.Ord.cmp (nodes_of (sym c.in-Some.ensures i)))
    ∙ any_starts-walk g.D.Ord.cmp g.met.D.Ord.total g.met.D.Key.exact c.args.from.now c.in-Fork-from.theirs at ordered in
    (λ i. walk g.D.Ord.cmp (Fork (now_of c.in-Fork.ours (sym c.in-Some-2.is i))))
    ∙ c.in_ok-nodes-in-Fork-from.ensures.both
    ∙ (λ i. either (theirs i) (walk g.D.Ord.cmp (sym c.in-Fork.is i)))

pub joined-returns-in-None-clause-both : goal.joined-returns-in-None-clause-both
joined-returns-in-None-clause-both g t c =
    let at = ap (out-Trie g.row.D.Denot g.row.A.Denot) c.in-Fork-from.is ∙ outs-Fork c.in-Fork-from.theirs in
    let ordered : IsOrdered g.D.Ord.cmp c.in-Fork-from.theirs = subst (IsLayer g.D.Ord.cmp) at (good_here g.D.Ord.cmp c.args.from.now c.requires.from) in
    let theirs : starts g.D.Ord.cmp c.in-Some.first.now (walk g.D.Ord.cmp (arc_value c.in-Some.node.now)) ≡ walk g.D.Ord.cmp c.args.from.now =
    sym (alone_starts g.D.Ord.cmp c.in-Some.first.now (arc_value c.in-Some.node.now))
    ∙ (λ i. any_starts g.D.Ord.cmp (nodes_of (sym c.in-Some.ensures i)))
    ∙ any_starts-walk g.D.Ord.cmp g.met.D.Ord.total g.met.D.Key.exact c.args.from.now c.in-Fork-from.theirs at ordered in
    ap (walk g.D.Ord.cmp) c.in-Fork.is
    ∙ (λ i. walk g.D.Ord.cmp (Fork (now_of c.in-Fork.ours (sym c.in-None.is i))))
    ∙ c.in_ok-nodes-in-Fork-from.ensures.both
    ∙ (λ i. either (theirs i) (walk g.D.Ord.cmp (sym c.in-Fork.is i)))

pub joined-grafted-requires-in-loop-first : goal.joined-grafted-requires-in-loop-first
joined-grafted-requires-in-loop-first g t c κs within =
    let kids = subst (λ es. AllByRecursion (λ x. child g.D.Ord.cmp c.args.from.now x.0 ≡ Some x.1) (nodes_of es)) c.in-Some-3.ensures.steps c.loop-first.invariant.3 in
    let good : IsTrie g.D.Ord.cmp (arc_value c.in-Some-3.node.now) = good_child g.D.Ord.cmp c.args.from.now c.in-Some-3.first.now (arc_value c.in-Some-3.node.now) kids.0 c.requires.from in
    let live : IsLive g.D.Ord.cmp (arc_value c.in-Some-3.node.now) = live_child g.D.Ord.cmp c.args.from.now c.in-Some-3.first.now (arc_value c.in-Some-3.node.now) kids.0 c.requires.from in
    let small = child_size g.D.Ord.cmp c.args.from.now c.in-Some-3.first.now (arc_value c.in-Some-3.node.now) kids.0 in
    search (rules, good, live, small, c.loop-first.invariant)

pub joined-loop-first-preserved : goal.joined-loop-first-preserved
joined-loop-first-preserved g t c =
    let kids = subst (λ es. AllByRecursion (λ x. child g.D.Ord.cmp c.args.from.now x.0 ≡ Some x.1) (nodes_of es)) c.in-Some-3.ensures.steps c.loop-first.invariant.3 in
    let old = walk g.D.Ord.cmp (Fork (now_of c.in-Fork.ours c.loop-first.all)) in (
      tt,
      tt,
      c.in_ok-all-in-Fork-from.ensures.good,
      kids.1,
      (λ i. either (any_starts g.D.Ord.cmp (nodes_of c.next.new.self)) (c.in_ok-all-in-Fork-from.ensures.both i))
          ∙ shift (starts g.D.Ord.cmp c.in-Some-3.first.now (walk g.D.Ord.cmp (arc_value c.in-Some-3.node.now))) (any_starts g.D.Ord.cmp (nodes_of c.next.new.self)) old
          ∙ (λ i. either (any_starts g.D.Ord.cmp (nodes_of (sym c.in-Some-3.ensures.steps i))) old)
          ∙ c.loop-first.invariant.4,
    )

pub joined-returns-in-Member-clause-both : goal.joined-returns-in-Member-clause-both
joined-returns-in-Member-clause-both g t c =
    ap (walk g.D.Ord.cmp) c.in-Member.is ∙ member_keeps g.D.Ord.cmp (walk g.D.Ord.cmp c.args.from.now) ∙ (λ i. either (walk g.D.Ord.cmp c.args.from.now) (walk g.D.Ord.cmp (sym c.in-Member.is i)))

pub joined-returns-in-Member-from-clause-both : goal.joined-returns-in-Member-from-clause-both
joined-returns-in-Member-from-clause-both g t c =
    member_joins g.D.Ord.cmp (walk g.D.Ord.cmp c.args.self.now) ∙ (λ i. either (walk g.D.Ord.cmp (sym c.in-Member-from.is i)) (walk g.D.Ord.cmp c.args.self.now))

pub joined-returns-in-Some-all-clause-both : goal.joined-returns-in-Some-all-clause-both
joined-returns-in-Some-all-clause-both g t c =
    (λ i. walk g.D.Ord.cmp (Fork (now_of c.in-Fork.ours (sym c.in-Some-all.is i))))
    ∙ (λ i. either (any_starts g.D.Ord.cmp (nodes_of (sym c.in-None-2.ensures.steps.0 i))) (walk g.D.Ord.cmp (Fork (now_of c.in-Fork.ours c.loop-first.all))))
    ∙ c.loop-first.invariant.4

pub joined-returns-in-None-all-clause-both : goal.joined-returns-in-None-all-clause-both
joined-returns-in-None-all-clause-both g t c =
    ap (walk g.D.Ord.cmp) c.in-Fork.is
    ∙ (λ i. walk g.D.Ord.cmp (Fork (now_of c.in-Fork.ours (sym c.in-None-all.is i))))
    ∙ (λ i. either (any_starts g.D.Ord.cmp (nodes_of (sym c.in-None-2.ensures.steps.0 i))) (walk g.D.Ord.cmp (Fork (now_of c.in-Fork.ours c.loop-first.all))))
    ∙ c.loop-first.invariant.4

pub met-joined-requires : goal.met-joined-requires
met-joined-requires g t c κs within =
    let h : IsTrie g.D.Ord.cmp (arc_value c.in-Some.known.now) =
    fork_good_at g.D.Ord.cmp c.args.next.now c.args.first.now (arc_value c.in-Some.known.now) (found_node g.D.Ord.cmp c.args.next.now c.args.first.now c.in-Some.known.now (sym c.get.ensures.value ∙ ap option_copied c.in-Some.is)) c.requires.into in
    rw (c.deref.ensures, c.deref-in-Some.ensures) (search (rules, h, c.requires))

pub met-returns-in_ok-try_clone-in-None : goal.met-returns-in_ok-try_clone-in-None
met-returns-in_ok-try_clone-in-None g t c =
    let x = c.args.first.now in
    let f = walk g.D.Ord.cmp (arc_value c.args.node.now) in
    let m = c.args.next.now in
    let gone = gone_node g.D.Ord.cmp m x (sym c.get.ensures.value ∙ ap option_copied c.in-None.is) in
    let is = c.in_ok-try_clone-in-None.ensures in
    (subst (IsTrie g.D.Ord.cmp) (sym is) c.requires.node, met_gone g.D.Ord.cmp g.met.D.Ord.total g.met.D.Key.exact m c.requires.into x f (arc_value c.in_ok-try_clone-in-None.field-0) gone (ap (walk g.D.Ord.cmp) is))

pub met-returns-in-None-2 : goal.met-returns-in-None-2
met-returns-in-None-2 g t c =
    let known : Trie g.row.D.Denot g.row.A.Denot = arc_value c.in-Some.known.now in
    let found : node_of g.D.Ord.cmp c.args.next.now c.args.first.now ≡ Some known = found_node g.D.Ord.cmp c.args.next.now c.args.first.now c.in-Some.known.now (sym c.get.ensures.value ∙ ap option_copied c.in-Some.is) in
    let both : walk g.D.Ord.cmp (now_of c.deref.result.now c.in_ok-joined-in-Some.field-0) ≡ either (walk g.D.Ord.cmp c.deref-in-Some.result.now) (walk g.D.Ord.cmp c.deref.result.now) = c.in_ok-joined-in-Some.ensures.both in
    (known, (found, ap (walk g.D.Ord.cmp) (sym c.deref.ensures) ∙ (λ i. walk g.D.Ord.cmp (now_of c.deref.result.now (sym c.in-None-2.is i))) ∙ both ∙ (λ i. either (walk g.D.Ord.cmp (c.deref-in-Some.ensures i)) (walk g.D.Ord.cmp (c.deref.ensures i)))))

pub met-returns-in_ok-new-in-Some-2 : goal.met-returns-in_ok-new-in-Some-2
met-returns-in_ok-new-in-Some-2 g t c =
    let known : Trie g.row.D.Denot g.row.A.Denot = arc_value c.in-Some.known.now in
    let found : node_of g.D.Ord.cmp c.args.next.now c.args.first.now ≡ Some known = found_node g.D.Ord.cmp c.args.next.now c.args.first.now c.in-Some.known.now (sym c.get.ensures.value ∙ ap option_copied c.in-Some.is) in
    let good : IsTrie g.D.Ord.cmp (now_of c.deref.result.now c.in_ok-joined-in-Some.field-0) = c.in_ok-joined-in-Some.ensures.good in
    let both : walk g.D.Ord.cmp (now_of c.deref.result.now c.in_ok-joined-in-Some.field-0) ≡ either (walk g.D.Ord.cmp c.deref-in-Some.result.now) (walk g.D.Ord.cmp c.deref.result.now) = c.in_ok-joined-in-Some.ensures.both in
    let is : arc_value c.in_ok-new-in-Some-2.field-0 ≡ now_of c.deref.result.now c.in_ok-joined-in-Some.field-0 = c.in_ok-new-in-Some-2.ensures.ok ∙ (λ i. now_of c.deref.result.now (sym c.in-Some-2.is i)) in (
      subst (IsTrie g.D.Ord.cmp) (sym is) good,
      met_found g.D.Ord.cmp g.met.D.Ord.total g.met.D.Key.exact c.args.next.now c.requires.into c.args.first.now (walk g.D.Ord.cmp (arc_value c.args.node.now)) (arc_value c.in_ok-new-in-Some-2.field-0) known found
          (ap (walk g.D.Ord.cmp) is ∙ both ∙ (λ i. either (walk g.D.Ord.cmp (c.deref-in-Some.ensures i)) (walk g.D.Ord.cmp (c.deref.ensures i)))),
    )
