use Rattle.std.proofs.Common.{rules, ◌≡◌, ◌∷◌, ◌++◌, refl, sym, subst, ◌∙◌}
use Rattle.std.specs.List.Sorted.{IsStrictlySortedBy}
use Rattle.base_trees.specs.Trees.{items_of, IsWithNew}
use Rattle.base_trees.proofs.Splits.{sorted_left, sorted_right}
use Rattle.base_trees.proofs.Grown.{shorter, near_left, near_right, grown_left, grown_right}
use Rattle.base_trees.proofs.Cuts.{tree_parts}
use Rattle.base_trees.proofs.tree.+with.Goals as goal

pub with-requires : goal.with-requires
with-requires g t c κs within =
    let parts : items_of c.args.tree.now ≡ items_of c.deref-2.inside.left ++ c.deref-2.inside.item ∷ items_of c.deref-2.inside.right = tree_parts _ _ _ _ c.in-Some.is c.deref.ensures c.deref-2.view_is in
    let small = (shorter (items_of c.deref-2.inside.left) c.deref-2.inside.item (items_of c.deref-2.inside.right) (items_of c.args.tree.now) parts).0 in
    let sorted = sorted_left g.met.T.Ord.total (items_of c.deref-2.inside.left) c.deref-2.inside.item (items_of c.deref-2.inside.right) (subst (IsStrictlySortedBy g.T.Ord.cmp) parts c.requires) in
    search (rules, sorted, small)

pub with-requires-in-Greater : goal.with-requires-in-Greater
with-requires-in-Greater g t c κs within =
    let parts : items_of c.args.tree.now ≡ items_of c.deref-2.inside.left ++ c.deref-2.inside.item ∷ items_of c.deref-2.inside.right = tree_parts _ _ _ _ c.in-Some.is c.deref.ensures c.deref-2.view_is in
    let small = (shorter (items_of c.deref-2.inside.left) c.deref-2.inside.item (items_of c.deref-2.inside.right) (items_of c.args.tree.now) parts).1 in
    let sorted = sorted_right g.met.T.Ord.total (items_of c.deref-2.inside.left) c.deref-2.inside.item (items_of c.deref-2.inside.right) (subst (IsStrictlySortedBy g.T.Ord.cmp) parts c.requires) in
    search (rules, sorted, small)

pub balanced_left-requires : goal.balanced_left-requires
balanced_left-requires g t c =
    let new = subst (IsWithNew g.T.Ord.cmp c.args.item (items_of c.deref-2.inside.left)) c.in-Some-2.is c.in_ok-grown-in-Less.ensures in
    near_left g.met.T.Ord.total c.args.item (items_of c.deref-2.inside.left) (items_of c.deref-2.inside.right) (items_of c.in-Some-2.grown) (items_of c.deref-2.inside.right) c.deref-2.invariant.2 new.1 refl

pub balanced_right-requires : goal.balanced_right-requires
balanced_right-requires g t c =
    let new = subst (IsWithNew g.T.Ord.cmp c.args.item (items_of c.deref-2.inside.right)) c.in-Some-3.is c.in_ok-grown-in-Greater.ensures in
    near_right g.met.T.Ord.total c.args.item (items_of c.deref-2.inside.left) (items_of c.deref-2.inside.right) (items_of c.in-Some-3.grown) (items_of c.deref-2.inside.left) c.deref-2.invariant.2 new.1 refl

pub returns-in_ok-all-in-Less : goal.returns-in_ok-all-in-Less
returns-in_ok-all-in-Less g t c =
    let l = items_of c.deref-2.inside.left in
    let k = c.deref-2.inside.item in
    let r = items_of c.deref-2.inside.right in
    let parts : items_of c.args.tree.now ≡ l ++ k ∷ r = tree_parts _ _ _ _ c.in-Some.is c.deref.ensures c.deref-2.view_is in
    let new = subst (IsWithNew g.T.Ord.cmp c.args.item l) c.in-Some-2.is c.in_ok-grown-in-Less.ensures in
    grown_left g.met.T.Ord.total c.args.item l k r (items_of c.args.tree.now) (items_of c.in-Some-2.grown) (items_of c.in_ok-all-in-Less.all) (◌∙◌ {a = g.T.Ord.cmp c.args.item k} (sym c.cmp.ensures) c.in-Less.is) parts c.requires new.0 new.1 c.in_ok-all-in-Less.ensures

pub returns-in_ok-all-in-Greater : goal.returns-in_ok-all-in-Greater
returns-in_ok-all-in-Greater g t c =
    let l = items_of c.deref-2.inside.left in
    let k = c.deref-2.inside.item in
    let r = items_of c.deref-2.inside.right in
    let parts : items_of c.args.tree.now ≡ l ++ k ∷ r = tree_parts _ _ _ _ c.in-Some.is c.deref.ensures c.deref-2.view_is in
    let new = subst (IsWithNew g.T.Ord.cmp c.args.item r) c.in-Some-3.is c.in_ok-grown-in-Greater.ensures in
    grown_right g.met.T.Ord.total c.args.item l k r (items_of c.args.tree.now) (items_of c.in-Some-3.grown) (items_of c.in_ok-all-in-Greater.all) (◌∙◌ {a = g.T.Ord.cmp c.args.item k} (sym c.cmp.ensures) c.in-Greater.is) parts c.requires new.0 new.1 c.in_ok-all-in-Greater.ensures
