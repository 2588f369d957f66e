use Rattle.std.proofs.Common.{rules, ap, ◌∙◌, sym, ◌≡◌, Some, None, cond, subst}
use Rattle.std.specs.Prelude.{MatchBool}
use Rattle.std.specs.Option.{option_copied}
use Rattle.std.specs.List.{AllByRecursion}
use Rattle.std.specs.List.Sorted.{IsStrictlySortedBy}
use Rattle.std.specs.Map.{keys_of}
use Rattle.std.specs.Arc.{arc_value}
use Rattle.aud_lattice.specs.declared.trie.Trie.TheVariants.{Fork, outs-Fork, outs-Member}
use Rattle.aud_lattice.specs.declared.trie.Trie.{Trie, out-Trie}
use Rattle.aud_lattice.specs.Walks.{leads, nothing, but, after, child, starts, nodes_of, node_of, IsTrie, IsLive, IsRemainder}
use Rattle.aud_lattice.specs.Eithers.{either}
use Rattle.aud_lattice.proofs.Tries.{any_by, pointwise, found_kids, child_size, good_child, live_child, fork_good_at, fork_ordered, fork_set_good, found_node, gone_node, sorted_nodes, empty_good, empty_walk}
use Rattle.base_values.proofs.Results.{on_ok, if_both}
use Rattle.aud_lattice.proofs.Leads.{any_leads, nothing_leads, same_leads, set_leads, gone_left, known_left, member_from_member, member_from_fork, fork_from_member, still_absent, absent_at_first, starts_but, starts_nothing, either_nothing, passed_on, rising}
use Rattle.aud_lattice.proofs.trie.Trie.+leavings.Goals as goal

pub leave-set-requires : goal.leave-set-requires
leave-set-requires g t c = fork_ordered g.D.Ord.cmp c.args.all.now c.requires.into

pub leave-returns-in-None-clause-left : goal.leave-returns-in-None-clause-left
leave-returns-in-None-clause-left g t c =
    let R = g.D.Ord.cmp in
    let x = c.args.first.now in
    let f = leads R (arc_value c.args.node.now) in
    let there = leads R (Fork c.args.theirs.now) in
    let is : but f (after x there) ≡ nothing = subst (IsRemainder {A = g.row.A.Denot} R (but f (after x there))) c.in-None.is c.in_ok-left.ensures in
    λ i. either ((sym (starts_nothing R x) ∙ ap (starts R x) (sym is) ∙ starts_but R g.met.D.Key.exact x f there) i) (leads R (Fork c.args.all.now))

pub leave-returns-in-Some-clause-good : goal.leave-returns-in-Some-clause-good
leave-returns-in-Some-clause-good g t c =
    let R = g.D.Ord.cmp in
    let x = c.args.first.now in
    let f = leads R (arc_value c.args.node.now) in
    let there = leads R (Fork c.args.theirs.now) in
    let is : IsRemainder R (but f (after x there)) (Some c.in-Some.node) = subst (IsRemainder R (but f (after x there))) c.in-Some.is c.in_ok-left.ensures in
    on_ok c.set.result _ _
    (λ kids. fork_set_good R g.met.D.Ord.total g.met.D.Key.exact c.args.all.now c.set.new.next x (arc_value c.in-Some.node) c.set.ensures.ordered kids c.requires.into is.0 is.1)
    c.set.ensures.ok

pub leave-returns-in-Some-clause-others : goal.leave-returns-in-Some-clause-others
leave-returns-in-Some-clause-others g t c = on_ok c.set.result _ _
    (λ kids y e. kids y ∙ ap (λ b. cond b (Some (arc_value c.in-Some.node)) (node_of g.D.Ord.cmp c.args.all.now y)) e)
    c.set.ensures.ok

pub leave-returns-in-Some-clause-left : goal.leave-returns-in-Some-clause-left
leave-returns-in-Some-clause-left g t c =
    let R = g.D.Ord.cmp in
    let x = c.args.first.now in
    let f = leads R (arc_value c.args.node.now) in
    let there = leads R (Fork c.args.theirs.now) in
    let is : IsRemainder R (but f (after x there)) (Some c.in-Some.node) = subst (IsRemainder R (but f (after x there))) c.in-Some.is c.in_ok-left.ensures in
    on_ok c.set.result _ _
    (λ kids.
    set_leads R g.met.D.Ord.total g.met.D.Key.exact c.args.all.now c.set.new.next x (arc_value c.in-Some.node) kids c.requires.absent
    ∙ (λ i. either ((ap (starts R x) is.2 ∙ starts_but R g.met.D.Key.exact x f there) i) (leads R (Fork c.args.all.now))))
    c.set.ensures.ok

pub left-without-requires : goal.left-without-requires
left-without-requires g t c κs within =
    let h : IsTrie g.D.Ord.cmp (arc_value c.in-Some.known.now) =
    fork_good_at g.D.Ord.cmp c.args.theirs.now c.args.first.now (arc_value c.in-Some.known.now) (found_node g.D.Ord.cmp c.args.theirs.now c.args.first.now c.in-Some.known.now (sym c.get.ensures.value ∙ ap option_copied c.in-Some.is)) c.requires.theirs in
    rw (c.deref.ensures, c.deref-in-Some.ensures) (search (rules, h, c.requires))

pub left-returns-in_ok-try_clone-in-None : goal.left-returns-in_ok-try_clone-in-None
left-returns-in_ok-try_clone-in-None g t c =
    let R = g.D.Ord.cmp in
    let x = c.args.first.now in
    let m = c.args.theirs.now in
    let gone = gone_node R m x (sym c.get.ensures.value ∙ ap option_copied c.in-None.is) in
    let is = c.in_ok-try_clone-in-None.ensures in (
      subst (IsTrie R) (sym is) c.requires.ours,
      subst (IsLive R) (sym is) c.requires.live,
      ap (leads R) is ∙ gone_left R (leads R (arc_value c.args.ours.now)) m x gone,
    )

pub left-returns-then-is_bare : goal.left-returns-then-is_bare
left-returns-then-is_bare g t c =
    let R = g.D.Ord.cmp in
    let x = c.args.first.now in
    let m = c.args.theirs.now in
    let left = c.in_ok-left-in-Some.left in
    let known : Trie g.row.D.Denot g.row.A.Denot = arc_value c.in-Some.known.now in
    let found : node_of R m x ≡ Some known = found_node R m x c.in-Some.known.now (sym c.get.ensures.value ∙ ap option_copied c.in-Some.is) in
    let is : leads R left ≡ but (leads R c.deref.result.now) (leads R c.deref-in-Some.result.now) = c.in_ok-left-in-Some.ensures.left in
    let bare : leads R left ≡ nothing = subst (λ b. MatchBool b (leads R left ≡ nothing) (IsLive R left)) c.if-is_bare.true c.is_bare.ensures in
    sym (is ∙ (λ i. but (leads R (c.deref.ensures i)) (leads R (c.deref-in-Some.ensures i))) ∙ known_left R (leads R (arc_value c.args.ours.now)) m x known found) ∙ bare

pub left-returns-in_ok-new-in-Some : goal.left-returns-in_ok-new-in-Some
left-returns-in_ok-new-in-Some g t c =
    let R = g.D.Ord.cmp in
    let x = c.args.first.now in
    let m = c.args.theirs.now in
    let left = c.in_ok-left-in-Some.left in
    let known : Trie g.row.D.Denot g.row.A.Denot = arc_value c.in-Some.known.now in
    let found : node_of R m x ≡ Some known = found_node R m x c.in-Some.known.now (sym c.get.ensures.value ∙ ap option_copied c.in-Some.is) in
    let is : leads R left ≡ but (leads R c.deref.result.now) (leads R c.deref-in-Some.result.now) = c.in_ok-left-in-Some.ensures.left in
    let live : IsLive R left = subst (λ b. MatchBool b (leads R left ≡ nothing) (IsLive R left)) c.if-is_bare.false c.is_bare.ensures in
    let new : arc_value c.in_ok-new-in-Some.field-0 ≡ left = c.in_ok-new-in-Some.ensures.ok in (
      subst (IsTrie R) (sym new) c.in_ok-left-in-Some.ensures.good,
      subst (IsLive R) (sym new) live,
      ap (leads R) new ∙ is ∙ (λ i. but (leads R (c.deref.ensures i)) (leads R (c.deref-in-Some.ensures i))) ∙ known_left R (leads R (arc_value c.args.ours.now)) m x known found,
    )

pub without-loop-first-init : goal.without-loop-first-init
without-loop-first-init g t c =
    let R = g.D.Ord.cmp in
    let o = g.met.D.Ord.total in
    let ex = g.met.D.Key.exact in
    let e = c.into_iter-first-iterator.ensures.into_iter_gives.0 in
    let s = c.into_iter-first-iterator.ensures.into_iter_gives.5 in
    let self = c.args.self.now in
    let nodes = c.in-Fork.nodes in
    let at = ap (out-Trie g.row.D.Denot g.row.A.Denot) c.in-Fork.is ∙ outs-Fork nodes in
    let all = c.new-all.result in
    let good : IsTrie R (Fork all) = empty_good R (Fork all) all (outs-Fork all) c.new-all.ensures.empty c.new-all.ensures.ordered in
    let none = nothing_leads R o ex (Fork all) good (pointwise (empty_walk R (Fork all) all (outs-Fork all) c.new-all.ensures.empty)) in
    let there = leads R c.args.other.now in (
      tt,
      tt,
      good,
      subst (λ es. AllByRecursion (λ x. child R self x.0 ≡ Some x.1) (nodes_of es)) (sym e) (found_kids R o ex self nodes at s),
      subst (λ es. IsStrictlySortedBy R (keys_of (nodes_of es))) (sym e) (sorted_nodes R nodes s),
      absent_at_first R all c.new-all.ensures.empty (nodes_of c.into_iter-first-iterator.result),
      (λ i. either (but (any_by R (leads R) (nodes_of (e i))) there) (leads R (Fork all)))
          ∙ (λ i. either (but (any_leads R o ex self nodes at s i) there) (none i))
          ∙ either_nothing (but (leads R self) there),
    )

pub without-leave-requires : goal.without-leave-requires
without-leave-requires g t c κs within =
    let R = g.D.Ord.cmp in
    let steps = c.in-Some.ensures.steps in
    let kids = subst (λ es. AllByRecursion (λ x. child R c.args.self.now x.0 ≡ Some x.1) (nodes_of es)) steps c.loop-first.invariant.3 in
    let absent = subst (λ es. AllByRecursion (λ x. node_of R c.loop-first.all x.0 ≡ None) (nodes_of es)) steps c.loop-first.invariant.5 in
    let good : IsTrie R (arc_value c.in-Some.node.now) = good_child R c.args.self.now c.in-Some.first.now (arc_value c.in-Some.node.now) kids.0 c.requires.here in
    let live : IsLive R (arc_value c.in-Some.node.now) = live_child R c.args.self.now c.in-Some.first.now (arc_value c.in-Some.node.now) kids.0 c.requires.here in
    let theirs : IsTrie R (Fork c.in-Fork-other-2.theirs) = subst (IsTrie R) c.in-Fork-other-2.is c.requires.there in
    let none : node_of R c.loop-first.all c.in-Some.first.now ≡ None = absent.0 in
    let small = child_size R c.args.self.now c.in-Some.first.now (arc_value c.in-Some.node.now) kids.0 in
    search (rules, good, live, theirs, none, small, c.loop-first.invariant)

pub without-loop-first-preserved : goal.without-loop-first-preserved
without-loop-first-preserved g t c =
    let R = g.D.Ord.cmp in
    let steps = c.in-Some.ensures.steps in
    let x = c.in-Some.first.now in
    let rest = nodes_of c.next.new.self in
    let old = c.loop-first.all in
    let made = c.in_ok-leave-in-Fork-other-2.ensures in
    let there = leads R c.args.other.now in
    let here = starts R x (leads R (arc_value c.in-Some.node.now)) in
    let kids = subst (λ es. AllByRecursion (λ e. child R c.args.self.now e.0 ≡ Some e.1) (nodes_of es)) steps c.loop-first.invariant.3 in
    let sorted = rising R x (keys_of rest) (subst (λ es. IsStrictlySortedBy R (keys_of (nodes_of es))) steps c.loop-first.invariant.4) in
    let absent = subst (λ es. AllByRecursion (λ e. node_of R old e.0 ≡ None) (nodes_of es)) steps c.loop-first.invariant.5 in (
      tt,
      tt,
      made.good,
      kids.1,
      sorted.1,
      still_absent R x old c.leave.new.all rest sorted.0 made.others absent.1,
      (λ i. either (but (any_by R (leads R) rest) there) ((made.left ∙ (λ j. either (but here (leads R (sym c.in-Fork-other-2.is j))) (leads R (Fork old)))) i))
          ∙ passed_on here (any_by R (leads R) rest) there (leads R (Fork old))
          ∙ (λ i. either (but (any_by R (leads R) (nodes_of (sym steps i))) there) (leads R (Fork old)))
          ∙ c.loop-first.invariant.6,
    )

pub without-returns-in-Member-other-clause-left : goal.without-returns-in-Member-other-clause-left
without-returns-in-Member-other-clause-left g t c =
    nothing_leads g.D.Ord.cmp g.met.D.Ord.total g.met.D.Key.exact c.empty.result c.empty.ensures.good c.empty.ensures.nothing
    ∙ member_from_member g.D.Ord.cmp c.args.self.now c.args.other.now (ap (out-Trie g.row.D.Denot g.row.A.Denot) c.in-Member.is ∙ outs-Member) (ap (out-Trie g.row.D.Denot g.row.A.Denot) c.in-Member-other.is ∙ outs-Member)

pub without-returns-in-Fork-other-clause-left : goal.without-returns-in-Fork-other-clause-left
without-returns-in-Fork-other-clause-left g t c =
    ap (leads g.D.Ord.cmp) (sym c.in-Member.is)
    ∙ member_from_fork g.D.Ord.cmp c.args.self.now c.args.other.now c.in-Fork-other.field-0 (ap (out-Trie g.row.D.Denot g.row.A.Denot) c.in-Member.is ∙ outs-Member) (ap (out-Trie g.row.D.Denot g.row.A.Denot) c.in-Fork-other.is ∙ outs-Fork c.in-Fork-other.field-0)

pub without-returns-in-Member-other-2-clause-left : goal.without-returns-in-Member-other-2-clause-left
without-returns-in-Member-other-2-clause-left g t c =
    let R = g.D.Ord.cmp in
    let old = c.args.self.now in
    let other = c.args.other.now in
    let at = ap (out-Trie g.row.D.Denot g.row.A.Denot) c.in-Fork.is ∙ outs-Fork c.in-Fork.nodes in
    let is = ap (out-Trie g.row.D.Denot g.row.A.Denot) c.in-Member-other-2.is ∙ outs-Member in
    if_both c.copied.result (IsTrie R) _ (λ t. leads R t ≡ but (leads R old) (leads R other))
    (λ t good same. same_leads R g.met.D.Ord.total g.met.D.Key.exact old t c.requires.here good same ∙ fork_from_member R old other c.in-Fork.nodes at is)
    c.copied.ensures.good c.copied.ensures.same

pub without-returns-in-None-clause-left : goal.without-returns-in-None-clause-left
without-returns-in-None-clause-left g t c =
    let R = g.D.Ord.cmp in
    (λ i. either (but (any_by R (leads R) (nodes_of (sym c.in-None.ensures.steps.0 i))) (leads R c.args.other.now)) (leads R (Fork c.loop-first.all)))
    ∙ c.loop-first.invariant.6
