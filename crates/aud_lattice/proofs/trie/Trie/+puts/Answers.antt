use Rattle.std.proofs.Common.{rules, ap, subst, length, ◌+◌, arith, ◌∙◌, sym, ◌≡◌}
use Rattle.std.specs.Option.{option_copied}
use Rattle.std.specs.Arc.{arc_value}
use Rattle.aud_lattice.specs.declared.trie.Trie.TheVariants.{Fork}
use Rattle.aud_lattice.specs.Walks.{walk, IsTrie}
use Rattle.aud_lattice.specs.Eithers.{either}
use Rattle.aud_lattice.specs.Covers.{begins}
use Rattle.aud_lattice.proofs.Tries.{member_is_good, member_keeps, nil_covers, fork_good_at, fork_ordered, found_node, gone_node, wrote, added, alike_good, alike_walk, begins_live, begins-starts}
use Rattle.base_values.proofs.Results.{both_ways_out, on_ok, on_err}
use Rattle.aud_lattice.proofs.trie.Trie.+puts.Goals as goal

pub put_under-with-requires : goal.put_under-with-requires
put_under-with-requires g t c κs within =
    let h : IsTrie g.D.Ord.cmp (arc_value c.in-Some.known.now) = fork_good_at g.D.Ord.cmp c.args.next.now c.args.first.now (arc_value c.in-Some.known.now) (found_node g.D.Ord.cmp c.args.next.now c.args.first.now c.in-Some.known.now (sym c.get.ensures.value ∙ ap option_copied c.in-Some.is)) c.requires in
    rw c.deref.ensures (search (rules, h))

pub put_under-set-requires : goal.put_under-set-requires
put_under-set-requires g t c = fork_ordered g.D.Ord.cmp c.args.next.now c.requires

pub put_under-set-requires-in-None : goal.put_under-set-requires-in-None
put_under-set-requires-in-None g t c = fork_ordered g.D.Ord.cmp c.args.next.now c.requires

pub put_under-returns-in_ok-node-in-Some-2-clause-good : goal.put_under-returns-in_ok-node-in-Some-2-clause-good
put_under-returns-in_ok-node-in-Some-2-clause-good g t c =
    let found = found_node g.D.Ord.cmp c.args.next.now c.args.first.now c.in-Some.known.now (sym c.get.ensures.value ∙ ap option_copied c.in-Some.is) in
    let e = c.in_ok-node-in-Some.ensures.both ∙ (λ i. either (begins g.D.Ord.cmp c.args.rest.now) (walk g.D.Ord.cmp (c.deref.ensures i))) in
    both_ways_out c.set.result _ _ (IsTrie g.D.Ord.cmp (Fork c.set.new.next))
    (λ kids. (wrote g.D.Ord.cmp g.met.D.Ord.total g.met.D.Key.exact c.args.next.now c.set.new.next c.args.first.now c.in_ok-node-in-Some-2.node c.set.ensures.ordered kids c.requires c.in_ok-node-in-Some.node c.in_ok-node-in-Some-2.ensures.ok c.in_ok-node-in-Some.ensures.good (begins g.D.Ord.cmp c.args.rest.now) (begins_live g.D.Ord.cmp g.met.D.Ord.total c.args.rest.now) (arc_value c.in-Some.known.now) found e).0)
    (λ same. alike_good g.D.Ord.cmp c.args.next.now c.set.new.next same c.set.ensures.ordered c.requires)
    c.set.ensures.ok c.set.ensures.err

pub put_under-returns-in_ok-node-in-Some-2-clause-ok : goal.put_under-returns-in_ok-node-in-Some-2-clause-ok
put_under-returns-in_ok-node-in-Some-2-clause-ok g t c =
    let found = found_node g.D.Ord.cmp c.args.next.now c.args.first.now c.in-Some.known.now (sym c.get.ensures.value ∙ ap option_copied c.in-Some.is) in
    let e = c.in_ok-node-in-Some.ensures.both ∙ (λ i. either (begins g.D.Ord.cmp c.args.rest.now) (walk g.D.Ord.cmp (c.deref.ensures i))) in
    on_ok c.set.result _ _
    (λ kids. (wrote g.D.Ord.cmp g.met.D.Ord.total g.met.D.Key.exact c.args.next.now c.set.new.next c.args.first.now c.in_ok-node-in-Some-2.node c.set.ensures.ordered kids c.requires c.in_ok-node-in-Some.node c.in_ok-node-in-Some-2.ensures.ok c.in_ok-node-in-Some.ensures.good (begins g.D.Ord.cmp c.args.rest.now) (begins_live g.D.Ord.cmp g.met.D.Ord.total c.args.rest.now) (arc_value c.in-Some.known.now) found e).1
    ∙ (λ i. either (sym (begins-starts g.D.Ord.cmp c.args.first.now c.args.rest.now) i) (walk g.D.Ord.cmp (Fork c.args.next.now))))
    c.set.ensures.ok

pub put_under-returns-in_ok-node-in-Some-2-clause-err : goal.put_under-returns-in_ok-node-in-Some-2-clause-err
put_under-returns-in_ok-node-in-Some-2-clause-err g t c = on_err c.set.result _ _ (λ same. alike_walk g.D.Ord.cmp c.args.next.now c.set.new.next same) c.set.ensures.err

pub put_under-returns-in_ok-node-in-None-2-clause-good : goal.put_under-returns-in_ok-node-in-None-2-clause-good
put_under-returns-in_ok-node-in-None-2-clause-good g t c =
    let gone = gone_node g.D.Ord.cmp c.args.next.now c.args.first.now (sym c.get.ensures.value ∙ ap option_copied c.in-None.is) in
    both_ways_out c.set-in-None.result _ _ (IsTrie g.D.Ord.cmp (Fork c.set-in-None.new.next))
    (λ kids. (added g.D.Ord.cmp g.met.D.Ord.total g.met.D.Key.exact c.args.next.now c.set-in-None.new.next c.args.first.now c.in_ok-node-in-None-2.node c.set-in-None.ensures.ordered kids c.requires c.in_ok-node-in-None.node c.in_ok-node-in-None-2.ensures.ok c.in_ok-node-in-None.ensures.good (begins g.D.Ord.cmp c.args.rest.now) (begins_live g.D.Ord.cmp g.met.D.Ord.total c.args.rest.now) gone c.in_ok-node-in-None.ensures.one).0)
    (λ same. alike_good g.D.Ord.cmp c.args.next.now c.set-in-None.new.next same c.set-in-None.ensures.ordered c.requires)
    c.set-in-None.ensures.ok c.set-in-None.ensures.err

pub put_under-returns-in_ok-node-in-None-2-clause-ok : goal.put_under-returns-in_ok-node-in-None-2-clause-ok
put_under-returns-in_ok-node-in-None-2-clause-ok g t c =
    let gone = gone_node g.D.Ord.cmp c.args.next.now c.args.first.now (sym c.get.ensures.value ∙ ap option_copied c.in-None.is) in
    on_ok c.set-in-None.result _ _
    (λ kids. (added g.D.Ord.cmp g.met.D.Ord.total g.met.D.Key.exact c.args.next.now c.set-in-None.new.next c.args.first.now c.in_ok-node-in-None-2.node c.set-in-None.ensures.ordered kids c.requires c.in_ok-node-in-None.node c.in_ok-node-in-None-2.ensures.ok c.in_ok-node-in-None.ensures.good (begins g.D.Ord.cmp c.args.rest.now) (begins_live g.D.Ord.cmp g.met.D.Ord.total c.args.rest.now) gone c.in_ok-node-in-None.ensures.one).1
    ∙ (λ i. either (sym (begins-starts g.D.Ord.cmp c.args.first.now c.args.rest.now) i) (walk g.D.Ord.cmp (Fork c.args.next.now))))
    c.set-in-None.ensures.ok

pub put_under-returns-in_ok-node-in-None-2-clause-err : goal.put_under-returns-in_ok-node-in-None-2-clause-err
put_under-returns-in_ok-node-in-None-2-clause-err g t c = on_err c.set-in-None.result _ _ (λ same. alike_walk g.D.Ord.cmp c.args.next.now c.set-in-None.new.next same) c.set-in-None.ensures.err

pub with-put_under-requires : goal.with-put_under-requires
with-put_under-requires g t c κs within =
    let all = c.in_ok-all-in-Some.all in
    let h : IsTrie g.D.Ord.cmp (Fork all) = alike_good g.D.Ord.cmp c.in-Fork.next all c.in_ok-all-in-Some.ensures.same c.in_ok-all-in-Some.ensures.ordered (subst (IsTrie g.D.Ord.cmp) c.in-Fork.is c.requires) in
    let longer : length c.args.list.now ≡ length c.in-Some.rest.now + 1 = ap length c.in-Some.ensures.cases.0 ∙ omega arith in
    search (rules, h, longer)

pub with-returns-in-Member-clause-both : goal.with-returns-in-Member-clause-both
with-returns-in-Member-clause-both g t c = member_keeps g.D.Ord.cmp (begins g.D.Ord.cmp c.args.list.now) ∙ (λ i. either (begins g.D.Ord.cmp c.args.list.now) (walk g.D.Ord.cmp (sym c.in-Member.is i)))

pub with-returns-in-None-clause-good : goal.with-returns-in-None-clause-good
with-returns-in-None-clause-good g t c = member_is_good g.D.Ord.cmp

pub with-returns-in-None-clause-both : goal.with-returns-in-None-clause-both
with-returns-in-None-clause-both g t c = nil_covers g.D.Ord.cmp c.args.list.now (walk g.D.Ord.cmp c.args.self.now) c.in-None.ensures.cases

pub with-returns-in_ok-put_under-in-Some-clause-both : goal.with-returns-in_ok-put_under-in-Some-clause-both
with-returns-in_ok-put_under-in-Some-clause-both g t c =
    let all = c.in_ok-all-in-Some.all in
    let ours = alike_walk g.D.Ord.cmp c.in-Fork.next all c.in_ok-all-in-Some.ensures.same ∙ ap (walk g.D.Ord.cmp) (sym c.in-Fork.is) in
    c.in_ok-put_under-in-Some.ensures.ok ∙ (λ i. either (begins g.D.Ord.cmp (sym c.in-Some.ensures.cases.0 i)) (ours i))
