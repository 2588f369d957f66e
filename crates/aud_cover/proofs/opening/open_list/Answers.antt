use Rattle.std.specs.Prelude.{◌≡◌, List, []}
use Rattle.std.proofs.Common.{sym, ap, subst, inl}
use Rattle.aud_witness.specs.declared.decision.Decision.{Decision}
use Rattle.aud_order.specs.Shapes.{objects_of, history_of}
use Rattle.aud_order.specs.Cursors.{CursorOf}
use Rattle.aud_cover.specs.Leading.{LeadsIntoTrie}
use Rattle.aud_cover.proofs.Leads.{root-leads}
use Rattle.aud_cover.proofs.Opened.{open-whole}
use Rattle.aud_cover.proofs.Emptied.{empty-closed}
use Rattle.aud_cover.proofs.opening.open_list.Goals as goal

pub returns-clause-open : goal.returns-clause-open
returns-clause-open g c =
    let cover = c.args.cover.now in
    let root : c.in_ok-cursor.cursor.path ≡ [] = ap (λ (w : CursorOf). w.path) c.in_ok-cursor.ensures in
    let whole = c.trie.result.now in
    let leads : LeadsIntoTrie cover c.in_ok-cursor.cursor.path whole = subst (λ (l : List Decision). LeadsIntoTrie cover l whole) (sym root) (root-leads cover whole c.trie.ensures.good c.trie.ensures.lists) in
    open-whole c.args.shape.now c.in_ok-cursor.cursor cover c.new-list.result.items c.open_here.new.list.items c.in_ok-cursor.ensures c.new-list.ensures.items (c.in_ok-open_here.ensures.added cover leads (inl root))

pub returns-clause-empty : goal.returns-clause-empty
returns-clause-empty g c =
    λ within. empty-closed (objects_of c.args.shape.now) (history_of c.args.shape.now) c.args.cover.now c.open_here.new.list.items (returns-clause-open g c) within
