use Rattle.std.specs.Prelude.{◌≡◌, ◌↔◌, IsTrue, List, Some, None}
use Rattle.std.proofs.Common.{sym, ◌∙◌, ap, subst}
use Rattle.aud_lattice.specs.declared.mark.Mark.TheVariants.{Covered}
use Rattle.aud_lattice.specs.Marks.{mark_of}
use Rattle.base_values.proofs.Results.{if_both}
use Rattle.std.specs.Option.{option_copied}
use Rattle.aud_lattice.specs.Walks.{node_at}
use Rattle.aud_witness.specs.declared.decision.Decision.{Decision}
use Rattle.aud_witness.specs.DecisionOrder.{decision_cmp}
use Rattle.aud_order.specs.Shapes.{objects_of, history_of}
use Rattle.aud_order.specs.Cursors.{CursorOf, IsCursorAfter}
use Rattle.aud_cover.specs.Closings.{IsCovered}
use Rattle.aud_cover.specs.Leading.{LeadsIntoTrie, ReportsClosed}
use Rattle.aud_cover.proofs.Beginnings.{marked-covered}
use Rattle.aud_cover.proofs.Leads.{node-leads, nowhere-outside}
use Rattle.aud_cover.proofs.Steps.{at-covered, at-bad, at-outside, IsClosedAt}
use Rattle.aud_cover.proofs.closing.closed.Goals as goal

pub returns-in-Covered : goal.returns-in-Covered
returns-in-Covered g c =
    at-covered (objects_of c.args.shape.now) (history_of c.args.shape.now) c.args.cover.now c.args.prefix.now
    (subst (λ l. IsCovered c.args.cover.now l) c.decisions.ensures
    (marked-covered c.args.cover.now c.decisions.result.now c.mark.result c.mark.ensures.covered c.mark.ensures.inner c.in-Covered.is))

pub returns-in_default-2 : goal.returns-in_default-2
returns-in_default-2 g c =
    let shape = c.args.shape.now in
    let p = c.args.prefix.now in
    let none : IsCursorAfter shape p None = subst (IsCursorAfter shape p) c.in_default-2.is (subst (λ (l : List Decision). IsCursorAfter shape l c.in_ok-cursor.field-0) c.decisions-2.ensures c.in_ok-cursor.ensures) in
    at-bad (objects_of shape) (history_of shape) c.args.cover.now p none

pub returns-in-Some-at : goal.returns-in-Some-at
returns-in-Some-at g c =
    let shape = c.args.shape.now in
    let p = c.args.prefix.now in
    let cover = c.args.cover.now in
    let root = c.trie.result.now in
    let node = c.in-Some-at.node.now in
    let found : IsCursorAfter shape p (Some c.in-Some.cursor) = subst (IsCursorAfter shape p) c.in-Some.is (subst (λ (l : List Decision). IsCursorAfter shape l c.in_ok-cursor.field-0) c.decisions-2.ensures c.in_ok-cursor.ensures) in
    let at : node_at decision_cmp p root ≡ Some node = (λ i. node_at decision_cmp (sym c.decisions-3.ensures i) c.trie.result.now) ∙ sym c.at.ensures ∙ ap option_copied c.in-Some-at.is in
    let leads : LeadsIntoTrie cover p node = node-leads cover c.trie.result.now c.trie.ensures.good c.trie.ensures.lists p node at in
    if_both c.closed_here.result (ReportsClosed c.in-Some.cursor node) (ReportsClosed c.in-Some.cursor node) (λ b. IsTrue b ↔ IsClosedAt cover (record { shape = shape; path = p }))
    (λ b reported _. subst (λ (w : CursorOf). ReportsClosed w node b) found.0 reported cover leads) c.closed_here.ensures.closed c.closed_here.ensures.closed

pub returns : goal.returns
returns g c =
    let shape = c.args.shape.now in
    let p = c.args.prefix.now in
    let cover = c.args.cover.now in
    let found : IsCursorAfter shape p (Some c.in-Some.cursor) = subst (IsCursorAfter shape p) c.in-Some.is (subst (λ (l : List Decision). IsCursorAfter shape l c.in_ok-cursor.field-0) c.decisions-2.ensures c.in_ok-cursor.ensures) in
    let at : node_at decision_cmp p c.trie.result.now ≡ None = (λ i. node_at decision_cmp (sym c.decisions-3.ensures i) c.trie.result.now) ∙ sym c.at.ensures ∙ ap option_copied c.in-None.is in
    let apart : mark_of decision_cmp cover p ≡ Covered → ⊥ = λ e. c.in_default.not-Covered (c.mark.ensures.mark ∙ ap (mark_of decision_cmp cover) c.decisions.ensures ∙ e) in
    at-outside (objects_of shape) (history_of shape) cover p found.1 (nowhere-outside cover c.trie.result.now c.trie.ensures.good c.trie.ensures.lists p at apart)
