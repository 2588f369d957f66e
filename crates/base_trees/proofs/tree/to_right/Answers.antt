use Rattle.std.proofs.Common.{◌≡◌, ◌+◌, ◌*◌, ◌<◌, ◌≤◌, ◌∷◌, ◌++◌, length, append_assoc, sym, ap, ◌∙◌, arith}
use Rattle.base_trees.specs.Trees.{items_of}
use Rattle.base_trees.proofs.Turns.{to_part_right, moved_right}
use Rattle.base_trees.proofs.tree.to_right.Goals as goal
use Rattle.base_trees.proofs.tree.to_right.Goals.{in_default-via-in-Some+else-count, in_default-via-in_default}

pub node-requires : goal.node-requires
node-requires g c =
    let lighter : length (items_of c.left.inside.right) + 1 < 2 * (length (items_of c.left.inside.left) + 1) = elim c.in_default.branch [ in_default-via-in-Some+else-count w ↦ omega arith | in_default-via-in_default w ↦ omega (arith, ap length (ap items_of w.in_default.is)) ] in
    rw (c.in_ok-shared-in_default.ensures)
    (moved_right (items_of c.left.inside.left) (items_of c.args.right) (items_of c.left.inside.right) c.args.left.now c.left.inside.item c.args.item (sym c.left.view_is) c.requires lighter c.left.invariant.2).0

pub node-requires-in_default : goal.node-requires-in_default
node-requires-in_default g c =
    let lighter : length (items_of c.left.inside.right) + 1 < 2 * (length (items_of c.left.inside.left) + 1) = elim c.in_default.branch [ in_default-via-in-Some+else-count w ↦ omega arith | in_default-via-in_default w ↦ omega (arith, ap length (ap items_of w.in_default.is)) ] in
    rw (c.in_ok-after-in_default.ensures, c.in_ok-shared-in_default.ensures, c.in_ok-shared-in_default-2.ensures)
    (moved_right (items_of c.left.inside.left) (items_of c.args.right) (items_of c.left.inside.right) c.args.left.now c.left.inside.item c.args.item (sym c.left.view_is) c.requires lighter c.left.invariant.2).1

pub returns-in_ok-dup-in_default : goal.returns-in_ok-dup-in_default
returns-in_ok-dup-in_default g c =
    let items : items_of c.in_ok-shared-in_default-2.field-0 ++ c.in_ok-dup-in_default.field-0 ∷ items_of c.in_ok-after-in_default.after ≡ c.args.left.now ++ c.args.item ∷ items_of c.args.right =
    rw (c.in_ok-after-in_default.ensures, c.in_ok-shared-in_default.ensures, c.in_ok-shared-in_default-2.ensures, c.in_ok-dup-in_default.ensures, ← c.left.view_is)
    (simp append_assoc) in
    rw (← items) c.node-in_default.ensures

pub parted_right-requires : goal.parted_right-requires
parted_right-requires g c =
    let near : items_of c.left.inside.right ≡ c.deref.result.now = ap items_of c.in-Some.is ∙ sym c.deref.ensures in
    let inner : 2 * (length (items_of c.left.inside.left) + 1) ≤ length (items_of c.left.inside.right) + 1 = omega arith in
    rw (← near) (to_part_right (items_of c.left.inside.left) (items_of c.left.inside.right) c.args.left.now c.left.inside.item (length (items_of c.args.right)) (sym c.left.view_is) c.requires inner c.left.invariant.2)
