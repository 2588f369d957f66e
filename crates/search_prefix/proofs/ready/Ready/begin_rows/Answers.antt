use Rattle.std.specs.Prelude.{◌≡◌, ◌+◌, ◌<◌, length, map, not, false, slice_index_or}
use Rattle.std.proofs.Common.{ap, subst, sym, ◌∙◌}
use Rattle.aud_history.specs.Table.{table_of, transactions}
use Rattle.aud_witness.specs.Orders.{is_named}
use Rattle.aud_witness.specs.OrderFaults.{is_enabled}
use Rattle.aud_order.specs.Shapes.{ShapeOf, history_of}
use Rattle.search_memo.specs.Choices.{AreChoices}
use Rattle.search_prefix.specs.Readiness.{ReadyOf, HoldsBack, IsRowMarked}
use Rattle.search_prefix.proofs.Readiness.{left-more, choices-of}
use Rattle.search_prefix.proofs.ready.Ready.begin_rows.Goals as goal

pub loop-self-preserved : goal.loop-self-preserved
loop-self-preserved g c =
    let at = c.args.cursor.now in
    let old = c.loop-self.self in
    let mid = c.set_row-in-loop-self.new.self in
    let choices : AreChoices (history_of at.shape) old.choices =
    choices-of c.args.self.now old at (subst (λ (v : ReadyOf). AreChoices (history_of v.shape) v.choices) c.self.view_is c.self.invariant.0) c.requires.shape c.loop-self.invariant.choices in
    let same : c.self.inside.shape.now ≡ at.shape = ap (λ (v : ReadyOf). v.shape) c.self.view_is ∙ c.requires.shape in
    let table : c.rows-count.result.now ≡ table_of (history_of at.shape) = c.rows-count.ensures ∙ c.table.ensures ∙ ap (λ (s : ShapeOf). table_of (history_of s)) same in
    let begun : c.self-in-loop-self.inside.begun ≡ old.begun = ap (λ (v : ReadyOf). v.begun) c.self-in-loop-self.view_is in
    let inside : old.begun < length (table_of (history_of at.shape)) = subst (λ l. old.begun < length l) table (subst (λ n. n < length c.rows-count.result.now) begun c.loop-self-test.true) in
    let row : c.set_row.inside.begun ≡ old.begun = ap (λ (v : ReadyOf). v.begun) c.set_row.view_is in
    let marked : IsRowMarked old mid old.begun (not c.has-is_open.result) = subst (λ n. IsRowMarked old mid n (not c.has-is_open.result)) row c.set_row-in-loop-self.ensures in
    let view = sym c.self-in-loop-self-2.view_is in record {
      choices = ap (λ (v : ReadyOf). v.choices) c.self-in-loop-self-2.view_is ∙ c.set_row-in-loop-self.ensures.choices ∙ c.loop-self.invariant.choices;
      shape = ap (λ (v : ReadyOf). v.shape) c.self-in-loop-self-2.view_is ∙ c.set_row-in-loop-self.ensures.shape ∙ c.loop-self.invariant.shape;
      left = subst (λ (v : ReadyOf). HoldsBack (record { shape = v.shape; choices = v.choices; marks = v.marks; begun = v.begun + 1 }) at) view
          (left-more old mid at (not c.has-is_open.result) choices c.loop-self.invariant.left inside
          (ap not (c.has-is_open.ensures ∙ ap (λ l. slice_index_or l c.self-in-loop-self.inside.begun false) c.placed.ensures ∙ ap (λ n. slice_index_or (map (is_named at.path) (transactions (history_of at.shape))) n false) begun)) marked);
    }

pub returns-else-is_enabled-clause-ready : goal.returns-else-is_enabled-clause-ready
returns-else-is_enabled-clause-ready g c = record {
  all = c.loop-self.invariant.left;
  late = λ _. ap (λ n. is_enabled (history_of c.args.cursor.now.shape) c.args.cursor.now.path (slice_index_or (transactions (history_of c.args.cursor.now.shape)) n 0)) (sym (ap (λ (v : ReadyOf). v.begun) c.self-in-loop-self.view_is))
      ∙ sym c.is_enabled.ensures ∙ c.if-is_enabled.false;
}
