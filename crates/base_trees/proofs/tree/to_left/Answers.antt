use Rattle.std.proofs.Common.{◌≡◌, ◌+◌, ◌*◌, ◌<◌, ◌≤◌, ◌∷◌, ◌++◌, length, append_assoc, sym, ap, ◌∙◌, arith}
use Rattle.base_trees.specs.Trees.{items_of}
use Rattle.base_trees.proofs.Turns.{to_part_left, moved_left}
use Rattle.base_trees.proofs.tree.to_left.Goals as goal
use Rattle.base_trees.proofs.tree.to_left.Goals.{in_default-via-in-Some+else-count, in_default-via-in_default}

pub node-requires : goal.node-requires
node-requires g c =
    let lighter : length (items_of c.right.inside.left) + 1 < 2 * (length (items_of c.right.inside.right) + 1) = elim c.in_default.branch [ in_default-via-in-Some+else-count w ↦ omega arith | in_default-via-in_default w ↦ omega (arith, ap length (ap items_of w.in_default.is)) ] in
    rw (c.in_ok-shared-in_default.ensures)
    (moved_left (items_of c.right.inside.right) (items_of c.args.left) (items_of c.right.inside.left) c.args.right.now c.right.inside.item c.args.item (sym c.right.view_is) c.requires lighter c.right.invariant.2).0

pub node-requires-in_default : goal.node-requires-in_default
node-requires-in_default g c =
    let lighter : length (items_of c.right.inside.left) + 1 < 2 * (length (items_of c.right.inside.right) + 1) = elim c.in_default.branch [ in_default-via-in-Some+else-count w ↦ omega arith | in_default-via-in_default w ↦ omega (arith, ap length (ap items_of w.in_default.is)) ] in
    rw (c.in_ok-before-in_default.ensures, c.in_ok-shared-in_default.ensures, c.in_ok-shared-in_default-2.ensures)
    (moved_left (items_of c.right.inside.right) (items_of c.args.left) (items_of c.right.inside.left) c.args.right.now c.right.inside.item c.args.item (sym c.right.view_is) c.requires lighter c.right.invariant.2).1

pub returns-in_ok-shared-in_default-2 : goal.returns-in_ok-shared-in_default-2
returns-in_ok-shared-in_default-2 g c =
    let items : items_of c.in_ok-before-in_default.before ++ c.in_ok-dup-in_default.field-0 ∷ items_of c.in_ok-shared-in_default-2.field-0 ≡ items_of c.args.left ++ c.args.item ∷ c.args.right.now =
    rw (c.in_ok-before-in_default.ensures, c.in_ok-shared-in_default.ensures, c.in_ok-shared-in_default-2.ensures, c.in_ok-dup-in_default.ensures, ← c.right.view_is)
    (simp append_assoc) in
    rw (← items) c.node-in_default.ensures

pub parted_left-requires : goal.parted_left-requires
parted_left-requires g c =
    let near : items_of c.right.inside.left ≡ c.deref.result.now = ap items_of c.in-Some.is ∙ sym c.deref.ensures in
    let inner : 2 * (length (items_of c.right.inside.right) + 1) ≤ length (items_of c.right.inside.left) + 1 = omega arith in
    rw (← near) (to_part_left (items_of c.right.inside.right) (items_of c.right.inside.left) c.args.right.now c.right.inside.item (length (items_of c.args.left)) (sym c.right.view_is) c.requires inner c.right.invariant.2)
