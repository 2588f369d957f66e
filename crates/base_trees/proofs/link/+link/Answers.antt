use Rattle.std.proofs.Common.{rules, ◌≡◌, ◌+◌, ◌*◌, ◌<◌, ◌∷◌, ◌++◌, length, arith}
use Rattle.base_trees.specs.Trees.{items_of}
use Rattle.base_trees.proofs.Turns.{joined_left, joined_right, joined_items_left, joined_items_right}
use Rattle.base_trees.proofs.Cuts.{tree_parts}
use Rattle.base_trees.proofs.link.+link.Goals as goal

pub balanced_right-requires : goal.balanced_right-requires
balanced_right-requires g t c =
    let outer = items_of c.deref-in-Some-default.inside.left in
    let k = c.deref-in-Some-default.inside.item in
    let near = items_of c.deref-in-Some-default.inside.right in
    let heavy = items_of c.args.left in
    let light = items_of c.args.right in
    let copy = items_of c.in_ok-shared-in-Some-default.field-0 in
    let grown = items_of c.in_ok-grown-in-Some-default.grown in
    let parts : heavy ≡ outer ++ k ∷ near = tree_parts _ _ _ _ c.in-Some-default.is-0 c.deref.ensures c.deref-in-Some-default.view_is in
    let more : 3 * (length light + 1) < length heavy + 1 = omega arith in
    joined_right outer near copy heavy light grown k c.args.item parts more c.deref-in-Some-default.invariant.2 c.in_ok-shared-in-Some-default.ensures c.in_ok-grown-in-Some-default.ensures

pub balanced_left-requires : goal.balanced_left-requires
balanced_left-requires g t c =
    let near = items_of c.deref-in_default-Some-2.inside.left in
    let k = c.deref-in_default-Some-2.inside.item in
    let outer = items_of c.deref-in_default-Some-2.inside.right in
    let heavy = items_of c.args.right in
    let light = items_of c.args.left in
    let copy = items_of c.in_ok-shared-in_default-Some.field-0 in
    let grown = items_of c.in_ok-grown-in_default-Some.grown in
    let parts : heavy ≡ near ++ k ∷ outer = search rules in
    let more : 3 * (length light + 1) < length heavy + 1 = omega arith in
    joined_left outer near copy heavy light grown k c.args.item parts more c.deref-in_default-Some-2.invariant.2 c.in_ok-shared-in_default-Some.ensures c.in_ok-grown-in_default-Some.ensures

pub returns-in_ok-grown-in-Some-default : goal.returns-in_ok-grown-in-Some-default
returns-in_ok-grown-in-Some-default g t c =
    let outer = items_of c.deref-in-Some-default.inside.left in
    let k = c.deref-in-Some-default.inside.item in
    let near = items_of c.deref-in-Some-default.inside.right in
    let heavy = items_of c.args.left in
    let light = items_of c.args.right in
    let copy = items_of c.in_ok-shared-in-Some-default.field-0 in
    let grown = items_of c.in_ok-grown-in-Some-default.grown in
    let parts : heavy ≡ outer ++ k ∷ near = tree_parts _ _ _ _ c.in-Some-default.is-0 c.deref.ensures c.deref-in-Some-default.view_is in
    rw (← joined_items_right outer near copy heavy light grown k c.args.item parts c.in_ok-shared-in-Some-default.ensures c.in_ok-grown-in-Some-default.ensures) c.balanced_right.ensures

pub returns-in_ok-grown-in_default-Some : goal.returns-in_ok-grown-in_default-Some
returns-in_ok-grown-in_default-Some g t c =
    let near = items_of c.deref-in_default-Some-2.inside.left in
    let k = c.deref-in_default-Some-2.inside.item in
    let outer = items_of c.deref-in_default-Some-2.inside.right in
    let heavy = items_of c.args.right in
    let light = items_of c.args.left in
    let copy = items_of c.in_ok-shared-in_default-Some.field-0 in
    let grown = items_of c.in_ok-grown-in_default-Some.grown in
    let parts : heavy ≡ near ++ k ∷ outer = search rules in
    rw (← joined_items_left outer near copy heavy light grown k c.args.item parts c.in_ok-shared-in_default-Some.ensures c.in_ok-grown-in_default-Some.ensures) c.balanced_left.ensures
