use Rattle.std.specs.Prelude.{◌≡◌, ◌≤◌, false, length, slice_index_or}
use Rattle.std.proofs.Common.{sym, ◌∙◌, subst}
use Rattle.aud_history.specs.Table.{transactions, table_of}
use Rattle.aud_witness.specs.OrderFaults.{is_enabled, kids}
use Rattle.aud_order.specs.Shapes.{objects_of, history_of}
use Rattle.aud_order.specs.Cursors.{CursorOf}
use Rattle.aud_order.proofs.KidLemmas.{are-kids}
use Rattle.aud_order.proofs.Gathering.{gathered-all, gathered-late}
use Rattle.aud_order.proofs.cursor.Cursor.kids.Goals.{then-rows-test+else-is_enabled, else-rows-test}
use Rattle.aud_order.proofs.cursor.Cursor.kids.Goals as goal

pub returns-clause-kids : goal.returns-clause-kids
returns-clause-kids g c =
    let seen = c.args.self.now in
    let objects = objects_of seen.shape in
    let h = history_of seen.shape in
    let at = c.rows in
    let whole : at.kids.items ≡ kids objects h seen.path = elim c.rows-test.branch [
      | then-rows-test+else-is_enabled w ↦
          gathered-late objects h seen.path at.place at.kids.items
          (subst (λ (v : CursorOf). false ≡ is_enabled (history_of v.shape) v.path (slice_index_or (transactions (history_of v.shape)) at.place 0)) at.invariant.same (sym w.if-is_enabled.false ∙ w.is_enabled.ensures)) at.invariant.gathered
      | else-rows-test w ↦
          let shown = subst (λ (v : CursorOf). c.rows-rows.result.now ≡ table_of (history_of v.shape)) c.self.view_is (c.rows-rows.ensures ∙ c.table.ensures) in
          gathered-all objects h seen.path at.place at.kids.items (subst (λ l. length l ≤ at.place) shown w.rows-test.false) at.invariant.gathered
    ] in
    are-kids objects h seen.path at.kids.items c.sort.new.self.items whole c.sort.ensures.permutation c.in_ok-sort.ensures.sorted
