use Rattle.std.specs.Prelude.{◌<◌, length}
use Rattle.std.proofs.Common.{subst, arith}
use Rattle.search_prefix.proofs.Readiness.{bad-until}
use Rattle.search_prefix.proofs.Steps.{bad-more, bad-all, found-at}
use Rattle.search_prefix.proofs.searching.try_from.Goals as goal

pub returns-then-branch : goal.returns-then-branch
returns-then-branch g c =
    let cs = c.args.choices.now in
    let k = c.in-Some.place in
    let (further, within, marked, none) = c.in-Some.ensures.next in
    let inside : k < length cs = subst (λ l. k < length l) c.requires.same c.in-Some.ensures.inside in
    found-at c.args.cursor.now c.loop-next.cursor c.try_decision.new.cursor cs c.args.from k c.in_ok-try_decision.field-0 (omega (arith, c.loop-next.invariant.past, further)) inside c.loop-next.invariant.same
    (bad-until c.args.ready.now c.args.cursor.now cs c.args.from c.loop-next.next k c.requires.choices c.requires.same c.requires.ready c.loop-next.invariant.bad none) c.in_ok-try_decision.ensures c.if-branch.true

pub loop-next-preserved : goal.loop-next-preserved
loop-next-preserved g c =
    let cs = c.args.choices.now in
    let k = c.in-Some.place in
    let (further, within, marked, none) = c.in-Some.ensures.next in
    let inside : k < length cs = subst (λ l. k < length l) c.requires.same c.in-Some.ensures.inside in
    let more = bad-more c.args.cursor.now c.loop-next.cursor c.try_decision.new.cursor cs c.args.from k c.in_ok-try_decision.field-0 inside c.loop-next.invariant.same
    (bad-until c.args.ready.now c.args.cursor.now cs c.args.from c.loop-next.next k c.requires.choices c.requires.same c.requires.ready c.loop-next.invariant.bad none) c.in_ok-try_decision.ensures c.if-branch.false in
    record { same = more.0; past = omega (arith, c.loop-next.invariant.past, further); bad = more.1 }

pub returns : goal.returns
returns g c =
    let cs = c.args.choices.now in
    bad-all c.args.cursor.now c.loop-next.cursor cs c.args.from (length cs) (omega arith) c.loop-next.invariant.same
    (bad-until c.args.ready.now c.args.cursor.now cs c.args.from c.loop-next.next (length cs) c.requires.choices c.requires.same c.requires.ready c.loop-next.invariant.bad (λ j past below. c.in_default.ensures.next j past))
