use Rattle.std.specs.Result.{IfOk}
use Rattle.std.proofs.Common.{rules, ◌≡◌, ◌∷◌, ◌++◌, sym, subst, ◌∙◌}
use Rattle.std.specs.List.Sorted.{IsStrictlySortedBy}
use Rattle.base_trees.specs.Trees.{items_of}
use Rattle.base_trees.proofs.Splits.{sorted_left, sorted_right}
use Rattle.base_trees.proofs.Grown.{shorter}
use Rattle.base_trees.proofs.Cuts.{tree_parts, sorted_before, sorted_after}
use Rattle.base_trees.proofs.Remains.{without_none, without_same, remains_beside, remains_around, remains_all}
use Rattle.base_trees.proofs.merge.+without.Goals as goal

pub without-requires : goal.without-requires
without-requires g t c κs within =
    let l = items_of c.deref-2.inside.left in
    let k = c.deref-2.inside.item in
    let r = items_of c.deref-2.inside.right in
    let whole = items_of c.args.xs.now in
    let parts : whole ≡ l ++ k ∷ r = tree_parts _ _ _ _ c.in-Some.is c.deref.ensures c.deref-2.view_is in
    let o = g.met.T.Ord.total in
    let cut = c.in_ok-before in
    let sorted = subst (IsStrictlySortedBy g.T.Ord.cmp) parts c.requires.xs_sorted in
    let other = sorted_before o k (items_of c.args.ys.now) (items_of cut.before) cut.is_there (items_of cut.after) cut.ensures c.requires.ys_sorted in
    search (rules, other, sorted_left o l k r sorted, (shorter l k r whole parts).0)

pub without-requires-2 : goal.without-requires-2
without-requires-2 g t c κs within =
    let l = items_of c.deref-2.inside.left in
    let k = c.deref-2.inside.item in
    let r = items_of c.deref-2.inside.right in
    let whole = items_of c.args.xs.now in
    let parts : whole ≡ l ++ k ∷ r = tree_parts _ _ _ _ c.in-Some.is c.deref.ensures c.deref-2.view_is in
    let o = g.met.T.Ord.total in
    let cut = c.in_ok-before in
    let sorted = subst (IsStrictlySortedBy g.T.Ord.cmp) parts c.requires.xs_sorted in
    let other = sorted_after o k (items_of c.args.ys.now) (items_of cut.before) cut.is_there (items_of cut.after) cut.ensures c.requires.ys_sorted in
    search (rules, other, sorted_right o l k r sorted, (shorter l k r whole parts).1)

pub returns-then-built_alike : goal.returns-then-built_alike
returns-then-built_alike g t c =
    without_same g.met.T.Ord.total g.met.T.Key.exact (items_of c.args.xs.now) (items_of c.args.ys.now) (c.built_alike.ensures c.if-built_alike.true)

pub returns-then-count-eq0 : goal.returns-then-count-eq0
returns-then-count-eq0 g t c =
    let is = without_none g.T.Ord.cmp (items_of c.args.xs.now) (items_of c.args.ys.now) (sym c.count.ensures.is ∙ c.if-count-eq0.true) in
    subst (λ z. IfOk c.shared.result (λ tree. items_of tree ≡ z)) is c.shared.ensures

pub relinked-requires : goal.relinked-requires
relinked-requires g t c =
    let l = items_of c.deref-2.inside.left in
    let k = c.deref-2.inside.item in
    let r = items_of c.deref-2.inside.right in
    let whole = items_of c.args.xs.now in
    let parts : whole ≡ l ++ k ∷ r = tree_parts _ _ _ _ c.in-Some.is c.deref.ensures c.deref-2.view_is in
    let cut = c.in_ok-before in
    remains_all g.met.T.Ord.total k l r whole (items_of c.args.ys.now) (items_of cut.before) (items_of cut.after) (items_of c.in_ok-low.low) (items_of c.in_ok-high.high) cut.is_there cut.ensures parts c.in_ok-low.ensures c.in_ok-high.ensures

pub returns-then-is_there : goal.returns-then-is_there
returns-then-is_there g t c =
    let l = items_of c.deref-2.inside.left in
    let k = c.deref-2.inside.item in
    let r = items_of c.deref-2.inside.right in
    let whole = items_of c.args.xs.now in
    let parts : whole ≡ l ++ k ∷ r = tree_parts _ _ _ _ c.in-Some.is c.deref.ensures c.deref-2.view_is in
    let cut = c.in_ok-before in
    let is = remains_beside g.met.T.Ord.total k l r whole (items_of c.args.ys.now) (items_of cut.before) (items_of cut.after) (items_of c.in_ok-low.low) (items_of c.in_ok-high.high) cut.is_there cut.ensures parts c.in_ok-low.ensures c.in_ok-high.ensures c.requires.xs_sorted c.if-is_there.true in
    subst (λ z. IfOk c.beside.result (λ tree. items_of tree ≡ z)) is c.beside.ensures

pub returns : goal.returns
returns g t c =
    let l = items_of c.deref-2.inside.left in
    let k = c.deref-2.inside.item in
    let r = items_of c.deref-2.inside.right in
    let whole = items_of c.args.xs.now in
    let parts : whole ≡ l ++ k ∷ r = tree_parts _ _ _ _ c.in-Some.is c.deref.ensures c.deref-2.view_is in
    let cut = c.in_ok-before in
    let is = remains_around g.met.T.Ord.total k l r whole (items_of c.args.ys.now) (items_of cut.before) (items_of cut.after) (items_of c.in_ok-low.low) (items_of c.in_ok-high.high) cut.is_there cut.ensures parts c.in_ok-low.ensures c.in_ok-high.ensures c.requires.xs_sorted c.if-is_there.false in
    subst (λ z. IfOk c.relinked.result (λ tree. items_of tree ≡ z)) is c.relinked.ensures
