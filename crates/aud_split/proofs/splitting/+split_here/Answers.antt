use Rattle.std.specs.Prelude.{◌≡◌, ◌-◌, ◌∷◌, [], ◌++◌, List, vec_len}
use Rattle.std.proofs.Common.{arith, sym, ◌∙◌, ap, subst, inl, inr, get_or}
use Rattle.aud_witness.specs.declared.decision.Decision.{Decision}
use Rattle.aud_order.specs.Shapes.{objects_of, history_of}
use Rattle.aud_order.specs.Cursors.{CursorOf}
use Rattle.aud_order.specs.Kids.{AreKids}
use Rattle.aud_cover.proofs.Steps.{no_decision, kid-good, cursor-back, cursor_with}
use Rattle.aud_split.specs.Tasks.{AreTasksAdded}
use Rattle.aud_split.proofs.Tasks.{IsLast, none_by_length, some_by_length, added-last, no_kids, gathered-none, gathered-more, added-kids}
use Rattle.aud_split.proofs.splitting.+split_here.Goals as goal
use Rattle.aud_split.proofs.splitting.+split_here.Goals.{then-depth-eq0-via-then-depth-eq0, then-depth-eq0-via-else-depth-eq0+then-full}
use Rattle.base_values.proofs.Results.{on_ok}

pub returns-then-depth-eq0-clause-added : goal.returns-then-depth-eq0-clause-added
returns-then-depth-eq0-clause-added g t c =
    let start = c.args.cursor.now in
    let last : IsLast (objects_of start.shape) (history_of start.shape) c.args.depth start.path = elim c.then-depth-eq0.branch [
      | then-depth-eq0-via-then-depth-eq0 w ↦ inl w.if-depth-eq0.true
      | then-depth-eq0-via-else-depth-eq0+then-full w ↦ inr (inl (w.full.ensures.0 w.if-full.true))
    ] in
    on_ok c.add_copy.result _ _
    (λ is. added-last (objects_of start.shape) (history_of start.shape) start.path c.args.depth c.args.list.now.items c.add_copy.new.lists.items c.prefix-path.ensures.good
    last (is ∙ ap (λ p. c.args.list.now.items ++ p ∷ []) c.prefix-path.ensures.prefix))
    c.add_copy.ensures.ok

pub returns-then-is_empty-clause-added : goal.returns-then-is_empty-clause-added
returns-then-is_empty-clause-added g t c =
    let start = c.args.cursor.now in
    let none = no_kids (objects_of start.shape) (history_of start.shape) start.path c.in_ok-kids.kids.items c.in_ok-kids.ensures.kids
    (none_by_length c.is_empty.result (vec_len c.in_ok-kids.kids) c.in_ok-kids.kids.items c.is_empty.ensures c.in_ok-kids.kids.ok.0 c.if-is_empty.true) in
    on_ok c.add_copy-then-is_empty.result _ _
    (λ is. added-last (objects_of start.shape) (history_of start.shape) start.path c.args.depth c.args.list.now.items c.add_copy-then-is_empty.new.lists.items c.prefix-path.ensures.good
    (inr (inr none)) (is ∙ ap (λ p. c.args.list.now.items ++ p ∷ []) (c.prefix.ensures.prefix ∙ ap (λ (w : CursorOf). w.path) c.in_ok-kids.ensures.stays)))
    c.add_copy-then-is_empty.ensures.ok

pub loop-kid-init : goal.loop-kid-init
loop-kid-init g t c =
    let start = c.args.cursor.now in record {
      same = c.in_ok-kids.ensures.stays;
      gathered = gathered-none (objects_of start.shape) (history_of start.shape) start.path c.deref-kid-items.result.now (c.args.depth - 1) c.args.list.now.items;
    }

pub loop-kid-preserved : goal.loop-kid-preserved
loop-kid-preserved g t c =
    let start = c.args.cursor.now in
    let kid = get_or c.deref-kid-items.result.now c.loop-kid.kid-index no_decision in
    let next = kid-good start c.loop-kid.cursor c.in_ok-kids.kids.items c.deref-kid-items.result.now c.loop-kid.kid-index c.in_ok-kids.ensures.kids c.deref-kid-items.ensures.value c.loop-kid-test.true c.loop-kid.invariant.same in
    let grown = c.in_ok-push.ensures.goes (c.in_ok-push.ensures.good.1 next) in
    let are = subst (λ (l : List Decision). AreKids (objects_of start.shape) (history_of start.shape) start.path l) (sym c.deref-kid-items.ensures.value) c.in_ok-kids.ensures.kids in
    let added = subst (λ (w : CursorOf). AreTasksAdded (objects_of w.shape) (history_of w.shape) w.path (c.args.depth - 1) c.loop-kid.list.items c.split_here.new.list.items)
    (grown ∙ ap (λ (w : CursorOf). cursor_with w kid) c.loop-kid.invariant.same) c.in_ok-split_here.ensures.added in record {
      same = cursor-back start c.loop-kid.cursor c.push.new.self c.split_here.new.cursor c.pop.new.self kid c.pop.result c.loop-kid.invariant.same
          grown c.in_ok-split_here.ensures.back c.pop.ensures.root c.pop.ensures.back;
      gathered = gathered-more (objects_of start.shape) (history_of start.shape) start.path c.deref-kid-items.result.now (c.args.depth - 1) c.loop-kid.kid-index
          c.args.list.now.items c.loop-kid.list.items c.split_here.new.list.items are c.loop-kid-test.true c.loop-kid.invariant.gathered added;
    }

pub returns-clause-added : goal.returns-clause-added
returns-clause-added g t c =
    let start = c.args.cursor.now in
    let are = subst (λ (l : List Decision). AreKids (objects_of start.shape) (history_of start.shape) start.path l) (sym c.deref-kid-items.ensures.value) c.in_ok-kids.ensures.kids in
    let some : c.deref-kid-items.result.now ≡ [] → ⊥ = λ empty.
    some_by_length c.is_empty.result (vec_len c.in_ok-kids.kids) c.in_ok-kids.kids.items c.is_empty.ensures c.in_ok-kids.kids.ok.0 c.if-is_empty.false (sym c.deref-kid-items.ensures.value ∙ empty) in
    added-kids (objects_of start.shape) (history_of start.shape) start.path c.deref-kid-items.result.now (c.args.depth - 1) c.args.depth c.loop-kid.kid-index
    c.args.list.now.items c.loop-kid.list.items c.prefix-path.ensures.good (let positive = c.if-depth-eq0.false in omega arith) some are c.loop-kid-test.false c.loop-kid.invariant.gathered
