use Rattle.std.specs.Prelude.{List}
use Rattle.std.proofs.Common.{rules, sym, ◌∙◌, ap, subst, get_or}
use Rattle.std.specs.Option.{option_copied}
use Rattle.aud_lattice.proofs.Tries.{child_size}
use Rattle.aud_witness.specs.declared.decision.Decision.{Decision}
use Rattle.aud_witness.specs.DecisionOrder.{decision_cmp}
use Rattle.aud_witness.specs.Orders.{IsFull}
use Rattle.aud_order.specs.Shapes.{objects_of, history_of}
use Rattle.aud_order.specs.Kids.{AreKids}
use Rattle.aud_cover.proofs.Steps.{no_decision, at-covered, at-outside, at-full, at-open_kid, at-kids, closed-more, kid-good, kid-reported, cursor-back}
use Rattle.aud_cover.proofs.Leads.{at-member, at-end, at-inner, pushed-leads, gone-closed}
use Rattle.aud_cover.proofs.closing.+closed_here.Goals as goal

pub returns-in-Covered-clause-closed : goal.returns-in-Covered-clause-closed
returns-in-Covered-clause-closed g t c =
    let start = c.args.cursor.now in
    let objects = objects_of start.shape in
    let history = history_of start.shape in
    λ cover leads. at-covered objects history cover start.path (at-member cover start.path c.args.node.now leads (sym c.here.ensures ∙ c.in-Covered.is))

pub returns-in-Outside-clause-closed : goal.returns-in-Outside-clause-closed
returns-in-Outside-clause-closed g t c =
    let start = c.args.cursor.now in
    let objects = objects_of start.shape in
    let history = history_of start.shape in
    λ cover leads. at-outside objects history cover start.path c.prefix-good.ensures.good (at-end cover start.path c.args.node.now leads (sym c.here.ensures ∙ c.in-Outside.is))

pub returns-then-full-clause-closed : goal.returns-then-full-clause-closed
returns-then-full-clause-closed g t c =
    let start = c.args.cursor.now in
    let objects = objects_of start.shape in
    let history = history_of start.shape in
    let inner = sym c.here.ensures ∙ c.in-Inner.is in
    λ cover leads. at-full objects history cover start.path c.prefix-good.ensures.good (at-inner cover start.path c.args.node.now leads inner) (c.full.ensures.0 c.if-full.true)

pub returns-in_default-clause-closed : goal.returns-in_default-clause-closed
returns-in_default-clause-closed g t c =
    let start = c.args.cursor.now in
    let objects = objects_of start.shape in
    let history = history_of start.shape in
    let inner = sym c.here.ensures ∙ c.in-Inner.is in
    let kid = get_or c.deref-kid-items.result.now c.loop-kid.kid-index no_decision in
    let one_here = kid-good start start c.in_ok-kids.kids.items c.deref-kid-items.result.now c.loop-kid.kid-index c.in_ok-kids.ensures.kids c.deref-kid-items.ensures.value c.loop-kid-test.true (λ i. start) in
    let gone = sym c.step.ensures ∙ ap option_copied c.in_default.is in
    λ cover leads. gone-closed cover start c.args.node.now leads kid inner gone c.prefix-good.ensures.good one_here

pub closed_here-requires : goal.closed_here-requires
closed_here-requires g t c κs within =
    let kid = get_or c.deref-kid-items.result.now c.loop-kid.kid-index no_decision in
    let found = sym c.step.ensures ∙ ap option_copied c.in-Some.is in
    let small = child_size decision_cmp c.args.node.now kid c.in-Some.below.now found in
    search (rules, small)

pub returns-then-not-is_closed-clause-closed : goal.returns-then-not-is_closed-clause-closed
returns-then-not-is_closed-clause-closed g t c =
    let start = c.args.cursor.now in
    let objects = objects_of start.shape in
    let history = history_of start.shape in
    let inner = sym c.here.ensures ∙ c.in-Inner.is in
    let kid = get_or c.deref-kid-items.result.now c.loop-kid.kid-index no_decision in
    let one = kid-good start c.loop-kid.cursor c.in_ok-kids.kids.items c.deref-kid-items.result.now c.loop-kid.kid-index c.in_ok-kids.ensures.kids c.deref-kid-items.ensures.value c.loop-kid-test.true c.loop-kid.invariant.same in
    let one_here = kid-good start start c.in_ok-kids.kids.items c.deref-kid-items.result.now c.loop-kid.kid-index c.in_ok-kids.ensures.kids c.deref-kid-items.ensures.value c.loop-kid-test.true (λ i. start) in
    let grown = c.in_ok-push.ensures.goes (c.in_ok-push.ensures.good.1 one) in
    let found = sym c.step.ensures ∙ ap option_copied c.in-Some.is in
    λ cover leads. at-open_kid objects history cover start.path kid c.in_ok-is_closed.is_closed c.prefix-good.ensures.good (at-inner cover start.path c.args.node.now leads inner) one_here
    (kid-reported cover start c.loop-kid.cursor c.push.new.self kid c.in_ok-is_closed.is_closed c.loop-kid.invariant.same grown
    (c.in_ok-is_closed.ensures.closed cover (pushed-leads cover start c.args.node.now leads kid c.loop-kid.cursor c.push.new.self c.in-Some.below.now found c.loop-kid.invariant.same grown))) c.if-not-is_closed.true

pub returns-then-not-is_closed-clause-back : goal.returns-then-not-is_closed-clause-back
returns-then-not-is_closed-clause-back g t c =
    let start = c.args.cursor.now in
    let objects = objects_of start.shape in
    let history = history_of start.shape in
    let kid = get_or c.deref-kid-items.result.now c.loop-kid.kid-index no_decision in
    let one = kid-good start c.loop-kid.cursor c.in_ok-kids.kids.items c.deref-kid-items.result.now c.loop-kid.kid-index c.in_ok-kids.ensures.kids c.deref-kid-items.ensures.value c.loop-kid-test.true c.loop-kid.invariant.same in
    let grown = c.in_ok-push.ensures.goes (c.in_ok-push.ensures.good.1 one) in
    cursor-back start c.loop-kid.cursor c.push.new.self c.closed_here.new.cursor c.pop.new.self kid c.pop.result c.loop-kid.invariant.same
    grown c.in_ok-is_closed.ensures.back c.pop.ensures.root c.pop.ensures.back

pub loop-kid-preserved : goal.loop-kid-preserved
loop-kid-preserved g t c =
    let start = c.args.cursor.now in
    let objects = objects_of start.shape in
    let history = history_of start.shape in
    let inner = sym c.here.ensures ∙ c.in-Inner.is in
    let kid = get_or c.deref-kid-items.result.now c.loop-kid.kid-index no_decision in
    let one = kid-good start c.loop-kid.cursor c.in_ok-kids.kids.items c.deref-kid-items.result.now c.loop-kid.kid-index c.in_ok-kids.ensures.kids c.deref-kid-items.ensures.value c.loop-kid-test.true c.loop-kid.invariant.same in
    let grown = c.in_ok-push.ensures.goes (c.in_ok-push.ensures.good.1 one) in
    let found = sym c.step.ensures ∙ ap option_copied c.in-Some.is in
    record {
      same = cursor-back start c.loop-kid.cursor c.push.new.self c.closed_here.new.cursor c.pop.new.self kid c.pop.result c.loop-kid.invariant.same
          grown c.in_ok-is_closed.ensures.back c.pop.ensures.root c.pop.ensures.back;
      closed = λ cover leads. closed-more objects history cover start.path c.deref-kid-items.result.now c.loop-kid.kid-index c.in_ok-is_closed.is_closed
          c.loop-kid-test.true (c.loop-kid.invariant.closed cover leads) (kid-reported cover start c.loop-kid.cursor c.push.new.self kid c.in_ok-is_closed.is_closed c.loop-kid.invariant.same grown
          (c.in_ok-is_closed.ensures.closed cover (pushed-leads cover start c.args.node.now leads kid c.loop-kid.cursor c.push.new.self c.in-Some.below.now found c.loop-kid.invariant.same grown))) c.if-not-is_closed.false;
    }

pub returns-clause-closed : goal.returns-clause-closed
returns-clause-closed g t c =
    let start = c.args.cursor.now in
    let objects = objects_of start.shape in
    let history = history_of start.shape in
    let inner = sym c.here.ensures ∙ c.in-Inner.is in
    let unfull : IsFull history start.path → ⊥ = λ full. absurd (let is_so = c.full.ensures.1 full in let is_not = c.if-full.false in cc) in
    let are = subst (λ (l : List Decision). AreKids objects history start.path l) (sym c.deref-kid-items.ensures.value) c.in_ok-kids.ensures.kids in
    λ cover leads. at-kids objects history cover start.path c.deref-kid-items.result.now c.loop-kid.kid-index (at-inner cover start.path c.args.node.now leads inner) unfull are
    c.loop-kid-test.false (c.loop-kid.invariant.closed cover leads)
