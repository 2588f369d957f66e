use Rattle.std.proofs.Common.{◌≡◌, ◌∷◌, ◌++◌, sym}
use Rattle.base_trees.specs.Trees.{items_of}
use Rattle.base_trees.proofs.Turns.{turned_left, turned_items}
use Rattle.base_trees.proofs.tree.parted_left.Goals as goal

pub node-requires : goal.node-requires
node-requires g c =
    rw (c.in_ok-shared.ensures)
    (turned_left (items_of c.args.outer.now) (items_of c.inner.inside.left) (items_of c.inner.inside.right) (items_of c.args.left) c.args.inner.now c.args.last.now c.inner.inside.item c.args.item (sym c.inner.view_is) c.requires c.inner.invariant.2).before

pub node_of-requires : goal.node_of-requires
node_of-requires g c =
    (turned_left (items_of c.args.outer.now) (items_of c.inner.inside.left) (items_of c.inner.inside.right) (items_of c.args.left) c.args.inner.now c.args.last.now c.inner.inside.item c.args.item (sym c.inner.view_is) c.requires c.inner.invariant.2).after

pub node-requires-2 : goal.node-requires-2
node-requires-2 g c =
    rw (c.in_ok-before.ensures, c.in_ok-after.ensures, c.in_ok-shared.ensures)
    (turned_left (items_of c.args.outer.now) (items_of c.inner.inside.left) (items_of c.inner.inside.right) (items_of c.args.left) c.args.inner.now c.args.last.now c.inner.inside.item c.args.item (sym c.inner.view_is) c.requires c.inner.invariant.2).whole

pub returns : goal.returns
returns g c =
    let items : items_of c.in_ok-before.before ++ c.in_ok-dup.field-0 ∷ items_of c.in_ok-after.after ≡ items_of c.args.left ++ c.args.item ∷ (c.args.inner.now ++ c.args.last.now ∷ items_of c.args.outer.now) =
    rw (c.in_ok-before.ensures, c.in_ok-after.ensures, c.in_ok-shared.ensures, c.in_ok-dup.ensures, ← c.inner.view_is)
    (turned_items (items_of c.args.left) (items_of c.inner.inside.left) (items_of c.inner.inside.right) (items_of c.args.outer.now) c.args.item c.inner.inside.item c.args.last.now) in
    rw (← items) c.node-2.ensures
