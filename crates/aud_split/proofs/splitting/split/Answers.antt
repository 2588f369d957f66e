use Rattle.std.specs.Prelude.{List, Some, None}
use Rattle.std.proofs.Common.{sym, ◌∙◌, ap, subst}
use Rattle.aud_witness.specs.declared.decision.Decision.{Decision}
use Rattle.aud_order.specs.Shapes.{objects_of, history_of}
use Rattle.aud_order.specs.Cursors.{CursorOf, IsCursorAfter}
use Rattle.aud_split.specs.Tasks.{AreTasksAdded, AreTasks}
use Rattle.aud_split.proofs.Tasks.{tasks-added, tasks-bad, bad-empty}
use Rattle.aud_split.proofs.splitting.split.Goals as goal
use Rattle.aud_split.proofs.splitting.split.Goals.{in-Some+in_ok-split_here, in_default}

pub returns-clause-tasks : goal.returns-clause-tasks
returns-clause-tasks g c =
    let objects = objects_of c.args.shape.now in
    let history = history_of c.args.shape.now in
    let p = c.args.prefix.now in
    elim c.match-branch-2.branch [
      | in-Some+in_ok-split_here w ↦
          let found : IsCursorAfter c.args.shape.now p (Some w.in-Some.cursor) = subst (IsCursorAfter c.args.shape.now p) w.in-Some.is (subst (λ (l : List Decision). IsCursorAfter c.args.shape.now l c.in_ok-cursor.field-0) c.decisions.ensures c.in_ok-cursor.ensures) in
          let added = subst (λ (u : CursorOf). AreTasksAdded (objects_of u.shape) (history_of u.shape) u.path c.args.depth c.new-list.result.items w.split_here.new.list.items) found.0 w.in_ok-split_here.ensures.added in
          subst (λ (l : List (List Decision)). AreTasks objects history p c.args.depth l) (ap (λ v. v.items) (sym w.list-is))
          (tasks-added objects history p c.args.depth c.new-list.result.items w.split_here.new.list.items c.new-list.ensures.items added)
      | in_default w ↦
          let none : IsCursorAfter c.args.shape.now p None = subst (IsCursorAfter c.args.shape.now p) w.in_default.is (subst (λ (l : List Decision). IsCursorAfter c.args.shape.now l c.in_ok-cursor.field-0) c.decisions.ensures c.in_ok-cursor.ensures) in
          tasks-bad objects history p c.args.depth c.match-branch-2.list.items none (ap (λ v. v.items) w.list-is ∙ c.new-list.ensures.items)
    ]

pub returns-clause-bad : goal.returns-clause-bad
returns-clause-bad g c =
    bad-empty (objects_of c.args.shape.now) (history_of c.args.shape.now) c.args.prefix.now c.args.depth c.match-branch-2.list.items (returns-clause-tasks g c)
