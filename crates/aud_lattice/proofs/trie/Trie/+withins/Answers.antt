use Rattle.std.proofs.Common.{rules, IsTrue, ◌↔◌, refl, ap, ◌∙◌, sym, ◌≡◌, Some, subst}
use mathlib.Core.Bool.{true≢false}
use Rattle.std.specs.Option.{option_copied}
use Rattle.std.specs.List.{AllByRecursion}
use Rattle.std.specs.Arc.{arc_value}
use Rattle.std.specs.BTreeMap.{IsOrdered}
use Rattle.aud_lattice.specs.declared.trie.Trie.{out-Trie}
use Rattle.aud_lattice.specs.declared.trie.Trie.TheVariants.{outs-Member, outs-Fork}
use Rattle.aud_lattice.specs.declared.trie.Trie.TheViews.{the_lemmas}
use Rattle.aud_lattice.specs.Walks.{ends, IsLayer, walk, child, starts, nodes_of, IsTrie, IsLive, IsWithin}
use Rattle.aud_lattice.proofs.Tries.{any_starts, any_starts-walk, alone_starts, good_here, found_kids, child_size, good_child, live_child, good_under, nothing_within, within_rest, within_each, found_node, gone_node, member_holds, member_not_within, gone_not_within, known_within, within_known}
use Rattle.aud_lattice.proofs.trie.Trie.+withins.Goals as goal

pub is_within-loop-first-init : goal.is_within-loop-first-init
is_within-loop-first-init g t c =
    let e = c.into_iter-first-iterator.ensures.into_iter_gives.0 in
    let all : any_starts g.D.Ord.cmp (nodes_of c.into_iter-first-iterator.result) ≡ walk g.D.Ord.cmp c.args.self.now = (λ i. any_starts g.D.Ord.cmp (nodes_of (e i))) ∙ any_starts-walk g.D.Ord.cmp g.met.D.Ord.total g.met.D.Key.exact c.args.self.now c.in-Fork-self.nodes (ap (out-Trie g.row.D.Denot g.row.A.Denot) c.in-Fork-self.is ∙ outs-Fork c.in-Fork-self.nodes) c.into_iter-first-iterator.ensures.into_iter_gives.5 in (
      tt,
      tt,
      subst (λ es. AllByRecursion (λ x. child g.D.Ord.cmp c.args.self.now x.0 ≡ Some x.1) (nodes_of es)) (sym e) (found_kids g.D.Ord.cmp g.met.D.Ord.total g.met.D.Key.exact c.args.self.now c.in-Fork-self.nodes (ap (out-Trie g.row.D.Denot g.row.A.Denot) c.in-Fork-self.is ∙ outs-Fork c.in-Fork-self.nodes) c.into_iter-first-iterator.ensures.into_iter_gives.5),
      (λ w. subst (λ f. IsWithin f (walk g.D.Ord.cmp c.args.other.now)) (sym all) w),
      (λ w. subst (λ f. IsWithin f (walk g.D.Ord.cmp c.args.other.now)) all w),
    )

pub is_within-is_within_at-requires : goal.is_within-is_within_at-requires
is_within-is_within_at-requires g t c κs within =
    let at = ap (out-Trie g.row.D.Denot g.row.A.Denot) c.in-Fork-self.is ∙ outs-Fork c.in-Fork-self.nodes in
    let ordered : IsOrdered g.D.Ord.cmp c.in-Fork-self.nodes = subst (IsLayer g.D.Ord.cmp) at (good_here g.D.Ord.cmp c.args.self.now c.requires.here) in
    let kids = subst (λ es. AllByRecursion (λ x. child g.D.Ord.cmp c.args.self.now x.0 ≡ Some x.1) (nodes_of es)) c.in-Some.ensures (found_kids g.D.Ord.cmp g.met.D.Ord.total g.met.D.Key.exact c.args.self.now c.in-Fork-self.nodes at ordered) in
    let good : IsTrie g.D.Ord.cmp (arc_value c.in-Some.node.now) = good_child g.D.Ord.cmp c.args.self.now c.in-Some.first.now (arc_value c.in-Some.node.now) kids.0 c.requires.here in
    let live : IsLive g.D.Ord.cmp (arc_value c.in-Some.node.now) = live_child g.D.Ord.cmp c.args.self.now c.in-Some.first.now (arc_value c.in-Some.node.now) kids.0 c.requires.here in
    let small = child_size g.D.Ord.cmp c.args.self.now c.in-Some.first.now (arc_value c.in-Some.node.now) kids.0 in
    rw c.deref.ensures (search (rules, the_lemmas, good, live, small, c.requires))

pub is_within-returns-in-Some : goal.is_within-returns-in-Some
is_within-returns-in-Some g t c =
    let at = ap (out-Trie g.row.D.Denot g.row.A.Denot) c.in-Fork-self.is ∙ outs-Fork c.in-Fork-self.nodes in
    let ordered : IsOrdered g.D.Ord.cmp c.in-Fork-self.nodes = subst (IsLayer g.D.Ord.cmp) at (good_here g.D.Ord.cmp c.args.self.now c.requires.here) in
    let same : starts g.D.Ord.cmp c.in-Some.first.now (walk g.D.Ord.cmp c.deref.result.now) ≡ walk g.D.Ord.cmp c.args.self.now =
    (λ i. starts g.D.Ord.cmp c.in-Some.first.now (walk g.D.Ord.cmp (c.deref.ensures i)))
    ∙ sym (alone_starts g.D.Ord.cmp c.in-Some.first.now (arc_value c.in-Some.node.now))
    ∙ (λ i. any_starts g.D.Ord.cmp (nodes_of (sym c.in-Some.ensures i)))
    ∙ any_starts-walk g.D.Ord.cmp g.met.D.Ord.total g.met.D.Key.exact c.args.self.now c.in-Fork-self.nodes at ordered in
    subst (λ f. IsTrue c.is_within_at.result ↔ IsWithin f (walk g.D.Ord.cmp c.args.other.now)) same c.is_within_at.ensures

pub is_within-is_within_at-requires-in-loop-first : goal.is_within-is_within_at-requires-in-loop-first
is_within-is_within_at-requires-in-loop-first g t c κs within =
    let kids = (subst (λ es. AllByRecursion (λ x. child g.D.Ord.cmp c.args.self.now x.0 ≡ Some x.1) (nodes_of es)) c.in-Some-2.ensures.steps c.loop-first.invariant.2) in
    let good : IsTrie g.D.Ord.cmp (arc_value c.in-Some-2.node.now) = good_child g.D.Ord.cmp c.args.self.now c.in-Some-2.first.now (arc_value c.in-Some-2.node.now) kids.0 c.requires.here in
    let live : IsLive g.D.Ord.cmp (arc_value c.in-Some-2.node.now) = live_child g.D.Ord.cmp c.args.self.now c.in-Some-2.first.now (arc_value c.in-Some-2.node.now) kids.0 c.requires.here in
    let small = child_size g.D.Ord.cmp c.args.self.now c.in-Some-2.first.now (arc_value c.in-Some-2.node.now) kids.0 in
    rw c.deref-in-loop-first.ensures (search (rules, the_lemmas, good, live, small, c.requires))

pub is_within-returns-in-Member : goal.is_within-returns-in-Member
is_within-returns-in-Member g t c = (λ _. member_holds g.D.Ord.cmp (walk g.D.Ord.cmp c.args.self.now) c.args.other.now (ap ends (ap (out-Trie g.row.D.Denot g.row.A.Denot) c.in-Member.is ∙ outs-Member)), λ _. refl)

pub is_within-returns-in-Member-self : goal.is_within-returns-in-Member-self
is_within-returns-in-Member-self g t c = (λ e. absurd (true≢false (sym e)), λ w. absurd (member_not_within g.D.Ord.cmp c.args.self.now c.args.other.now (ap ends (ap (out-Trie g.row.D.Denot g.row.A.Denot) c.in-Member-self.is ∙ outs-Member)) (ap ends (ap (out-Trie g.row.D.Denot g.row.A.Denot) c.in-Fork.is ∙ outs-Fork c.in-Fork.field-0)) w))

pub is_within_at-is_within-requires : goal.is_within_at-is_within-requires
is_within_at-is_within-requires g t c κs within =
    let at = ap (out-Trie g.row.D.Denot g.row.A.Denot) c.in-Fork.is ∙ outs-Fork c.in-Fork.theirs in
    let found = found_node g.D.Ord.cmp c.in-Fork.theirs c.args.first.now c.in-Some.known.now (sym c.get.ensures.value ∙ ap option_copied c.in-Some.is) in
    let h : IsTrie g.D.Ord.cmp (arc_value c.in-Some.known.now) = good_under g.D.Ord.cmp c.args.other.now c.in-Fork.theirs at c.args.first.now (arc_value c.in-Some.known.now) found c.requires.there in
    rw c.deref.ensures (search (rules, h))

pub is_within_at-returns-in-None : goal.is_within_at-returns-in-None
is_within_at-returns-in-None g t c = (λ e. absurd (true≢false (sym e)), λ w. absurd (gone_not_within g.D.Ord.cmp g.met.D.Ord.total g.met.D.Key.exact c.args.other.now c.in-Fork.theirs (ap (out-Trie g.row.D.Denot g.row.A.Denot) c.in-Fork.is ∙ outs-Fork c.in-Fork.theirs) c.args.first.now c.args.node.now (gone_node g.D.Ord.cmp c.in-Fork.theirs c.args.first.now (sym c.get.ensures.value ∙ ap option_copied c.in-None.is)) c.requires.live w))

pub is_within_at-returns-in-Some : goal.is_within_at-returns-in-Some
is_within_at-returns-in-Some g t c =
    let at = ap (out-Trie g.row.D.Denot g.row.A.Denot) c.in-Fork.is ∙ outs-Fork c.in-Fork.theirs in
    let found = found_node g.D.Ord.cmp c.in-Fork.theirs c.args.first.now c.in-Some.known.now (sym c.get.ensures.value ∙ ap option_copied c.in-Some.is) in
    let there = ap (walk g.D.Ord.cmp) c.deref.ensures in (
      λ e. known_within g.D.Ord.cmp g.met.D.Ord.total g.met.D.Key.exact c.args.other.now c.in-Fork.theirs at c.args.first.now c.args.node.now (arc_value c.in-Some.known.now) found (subst (IsWithin (walk g.D.Ord.cmp c.args.node.now)) there (c.is_within.ensures.0 e)),
      λ w. c.is_within.ensures.1 (subst (IsWithin (walk g.D.Ord.cmp c.args.node.now)) (sym there) (within_known g.D.Ord.cmp g.met.D.Ord.total g.met.D.Key.exact c.args.other.now c.in-Fork.theirs at c.args.first.now c.args.node.now (arc_value c.in-Some.known.now) found w)),
    )

pub is_within-loop-first-preserved : goal.is_within-loop-first-preserved
is_within-loop-first-preserved g t c =
    let other = walk g.D.Ord.cmp c.args.other.now in
    let first = starts g.D.Ord.cmp c.in-Some-2.first.now (walk g.D.Ord.cmp (arc_value c.in-Some-2.node.now)) in
    let rest = any_starts g.D.Ord.cmp (nodes_of c.next.new.self) in
    let kids = subst (λ es. AllByRecursion (λ x. child g.D.Ord.cmp c.args.self.now x.0 ≡ Some x.1) (nodes_of es)) c.in-Some-2.ensures.steps c.loop-first.invariant.2 in
    let held : IsWithin first other = subst (λ n. IsWithin (starts g.D.Ord.cmp c.in-Some-2.first.now (walk g.D.Ord.cmp n)) other) c.deref-in-loop-first.ensures (c.if-not-is_within_at.ensures.0 refl) in (
      tt,
      tt,
      kids.1,
      (λ w. within_rest first rest other (subst (λ es. IsWithin (any_starts g.D.Ord.cmp (nodes_of es)) other) c.in-Some-2.ensures.steps (c.loop-first.invariant.3 w))),
      (λ w. c.loop-first.invariant.4 (subst (λ es. IsWithin (any_starts g.D.Ord.cmp (nodes_of es)) other) (sym c.in-Some-2.ensures.steps) (within_each first rest other held w))),
    )

pub is_within-returns-in-None : goal.is_within-returns-in-None
is_within-returns-in-None g t c = (
  λ _. c.loop-first.invariant.4 (subst (λ es. IsWithin (any_starts g.D.Ord.cmp (nodes_of es)) (walk g.D.Ord.cmp c.args.other.now)) (sym c.in-None.ensures.steps.0) (nothing_within (walk g.D.Ord.cmp c.args.other.now))),
  λ _. refl,
)

pub is_within_at-returns-in-Member : goal.is_within_at-returns-in-Member
is_within_at-returns-in-Member g t c = (λ _. member_holds g.D.Ord.cmp (starts g.D.Ord.cmp c.args.first.now (walk g.D.Ord.cmp c.args.node.now)) c.args.other.now (ap ends (ap (out-Trie g.row.D.Denot g.row.A.Denot) c.in-Member.is ∙ outs-Member)), λ _. refl)
