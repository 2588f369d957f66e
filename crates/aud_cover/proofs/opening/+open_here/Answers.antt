use Rattle.std.specs.Prelude.{◌≡◌, ◌∷◌, [], ◌++◌, List}
use Rattle.std.proofs.Common.{rules, sym, ◌∙◌, ap, subst, get_or}
use Rattle.std.specs.Option.{option_copied}
use Rattle.aud_lattice.proofs.Tries.{child_size}
use Rattle.base_values.proofs.Results.{on_ok}
use Rattle.aud_witness.specs.declared.decision.Decision.{Decision}
use Rattle.aud_witness.specs.DecisionOrder.{decision_cmp}
use Rattle.aud_witness.proofs.Good.{IsGood-push}
use Rattle.aud_order.specs.Shapes.{objects_of, history_of}
use Rattle.aud_order.specs.Cursors.{CursorOf}
use Rattle.aud_order.specs.Kids.{AreKids}
use Rattle.aud_cover.specs.Leading.{LeadsIntoTrie}
use Rattle.aud_cover.specs.Openings.{IsReached, AreAdded}
use Rattle.aud_cover.proofs.Steps.{no_decision, IsGoodAt, kid-good, cursor-back, cursor_with}
use Rattle.aud_cover.proofs.Opened.{added-covered, added-outside, added-full, added-kids, gathered-none, gathered-more, reached-kid}
use Rattle.aud_cover.proofs.Leads.{at-member, at-end, at-inner, pushed-leads, kid-outside}
use Rattle.aud_cover.proofs.opening.+open_here.Goals as goal
use Rattle.aud_cover.proofs.opening.+open_here.Goals.{in-Some+in_ok-open_here-in-Some, in-None+in_ok-add_copy-in-None}

pub returns-in-Covered-clause-added : goal.returns-in-Covered-clause-added
returns-in-Covered-clause-added g t c =
    let start = c.args.cursor.now in
    let objects = objects_of start.shape in
    let history = history_of start.shape in
    λ cover leads reached. added-covered objects history cover start.path c.args.list.now.items (at-member cover start.path c.args.node.now leads (sym c.here.ensures ∙ c.in-Covered.is))

pub returns-in-Outside-clause-added : goal.returns-in-Outside-clause-added
returns-in-Outside-clause-added g t c =
    let start = c.args.cursor.now in
    let objects = objects_of start.shape in
    let history = history_of start.shape in
    on_ok c.add_copy.result _ _ (λ is cover leads reached.
    added-outside objects history cover start.path c.args.list.now.items c.add_copy.new.lists.items c.prefix-path.result.now c.prefix-path.ensures.good reached
    (at-end cover start.path c.args.node.now leads (sym c.here.ensures ∙ c.in-Outside.is)) c.prefix-path.ensures.prefix is) c.add_copy.ensures.ok

pub returns-then-full-clause-added : goal.returns-then-full-clause-added
returns-then-full-clause-added g t c =
    let start = c.args.cursor.now in
    let objects = objects_of start.shape in
    let history = history_of start.shape in
    let inner = sym c.here.ensures ∙ c.in-Inner.is in
    λ cover leads reached. added-full objects history cover start.path c.args.list.now.items (at-inner cover start.path c.args.node.now leads inner) (c.full.ensures.0 c.if-full.true)

pub loop-kid-init : goal.loop-kid-init
loop-kid-init g t c =
    let start = c.args.cursor.now in
    let objects = objects_of start.shape in
    let history = history_of start.shape in
    record {
      same = search rules;
      gathered = λ cover leads reached. gathered-none objects history cover start.path c.deref-kid-items.result.now c.args.list.now.items;
    }

pub open_here-requires : goal.open_here-requires
open_here-requires g t c κs within =
    let kid = get_or c.deref-kid-items.result.now c.loop-kid.kid-index no_decision in
    let small = child_size decision_cmp c.args.node.now kid c.in-Some.below.now (sym c.step.ensures ∙ ap option_copied c.in-Some.is) in
    search (rules, small)

pub loop-kid-preserved : goal.loop-kid-preserved
loop-kid-preserved g t c =
    let start = c.args.cursor.now in
    let objects = objects_of start.shape in
    let history = history_of start.shape in
    let inner = sym c.here.ensures ∙ c.in-Inner.is in
    let kid = get_or c.deref-kid-items.result.now c.loop-kid.kid-index no_decision in
    let one = kid-good start c.loop-kid.cursor c.in_ok-kids.kids.items c.deref-kid-items.result.now c.loop-kid.kid-index c.in_ok-kids.ensures.kids c.deref-kid-items.ensures.value c.loop-kid-test.true c.loop-kid.invariant.same in
    let grown = c.in_ok-push.ensures.goes (c.in_ok-push.ensures.good.1 one) in
    let there : c.push.new.self ≡ cursor_with start kid = grown ∙ ap (λ (w : CursorOf). cursor_with w kid) c.loop-kid.invariant.same in
    let are = subst (λ (l : List Decision). AreKids objects history start.path l) (sym c.deref-kid-items.ensures.value) c.in_ok-kids.ensures.kids in
    elim c.match-step.branch [
      | in-Some+in_ok-open_here-in-Some w ↦
          let found = sym c.step.ensures ∙ ap option_copied w.in-Some.is in
          let reached_kid : (cover : List (List Decision)) → LeadsIntoTrie cover start.path c.args.node.now → IsReached (objects_of c.push.new.self.shape) (history_of c.push.new.self.shape) cover c.push.new.self.path =
          λ cover leads. subst (λ (w : CursorOf). IsReached (objects_of w.shape) (history_of w.shape) cover w.path) (sym there) (reached-kid objects history cover start.path kid c.prefix-path.ensures.good (at-inner cover start.path c.args.node.now leads inner)) in
          record {
            same = cursor-back start c.loop-kid.cursor c.push.new.self c.match-step.cursor c.pop.new.self kid c.pop.result c.loop-kid.invariant.same
                grown (w.cursor-is ∙ w.in_ok-open_here-in-Some.ensures.back) c.pop.ensures.root c.pop.ensures.back;
            gathered = λ cover leads reached. gathered-more objects history cover start.path c.deref-kid-items.result.now c.loop-kid.kid-index
                c.args.list.now.items c.loop-kid.list.items c.match-step.list.items are c.loop-kid-test.true (c.loop-kid.invariant.gathered cover leads reached)
                (subst (λ (u : CursorOf). AreAdded (objects_of u.shape) (history_of u.shape) cover u.path c.loop-kid.list.items c.match-step.list.items) there
                (subst (λ (l : List (List Decision)). AreAdded (objects_of c.push.new.self.shape) (history_of c.push.new.self.shape) cover c.push.new.self.path c.loop-kid.list.items l) (ap (λ v. v.items) (sym w.list-is))
                (w.in_ok-open_here-in-Some.ensures.added cover
                (pushed-leads cover start c.args.node.now leads kid c.loop-kid.cursor c.push.new.self w.in-Some.below.now found c.loop-kid.invariant.same grown)
                (reached_kid cover leads))));
          }
      | in-None+in_ok-add_copy-in-None w ↦
          let gone = sym c.step.ensures ∙ ap option_copied w.in-None.is in
          record {
            same = cursor-back start c.loop-kid.cursor c.push.new.self c.match-step.cursor c.pop.new.self kid c.pop.result c.loop-kid.invariant.same
                grown w.cursor-is c.pop.ensures.root c.pop.ensures.back;
            gathered = λ cover leads reached. gathered-more objects history cover start.path c.deref-kid-items.result.now c.loop-kid.kid-index
                c.args.list.now.items c.loop-kid.list.items c.match-step.list.items are c.loop-kid-test.true (c.loop-kid.invariant.gathered cover leads reached)
                (added-outside objects history cover (start.path ++ kid ∷ []) c.loop-kid.list.items c.match-step.list.items w.prefix.result.now
                (IsGood-push objects history start.path kid c.prefix-path.ensures.good (subst (λ (u : CursorOf). IsGoodAt u kid) c.loop-kid.invariant.same one))
                (reached-kid objects history cover start.path kid c.prefix-path.ensures.good (at-inner cover start.path c.args.node.now leads inner))
                (kid-outside cover start.path c.args.node.now leads inner kid gone)
                (w.prefix.ensures.prefix ∙ ap (λ (u : CursorOf). u.path) there)
                (ap (λ v. v.items) w.list-is ∙ w.in_ok-add_copy-in-None.ensures.ok));
          }
    ]

pub returns-clause-added : goal.returns-clause-added
returns-clause-added g t c =
    let start = c.args.cursor.now in
    let objects = objects_of start.shape in
    let history = history_of start.shape in
    let inner = sym c.here.ensures ∙ c.in-Inner.is in
    let are = subst (λ (l : List Decision). AreKids objects history start.path l) (sym c.deref-kid-items.ensures.value) c.in_ok-kids.ensures.kids in
    λ cover leads reached. added-kids objects history cover start.path c.deref-kid-items.result.now c.loop-kid.kid-index
    c.args.list.now.items c.loop-kid.list.items (at-inner cover start.path c.args.node.now leads inner) are c.loop-kid-test.false (c.loop-kid.invariant.gathered cover leads reached)
