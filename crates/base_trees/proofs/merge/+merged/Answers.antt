use Rattle.std.specs.Result.{IfOk}
use Rattle.std.proofs.Common.{rules, ◌≡◌, ◌∷◌, ◌++◌, sym, ap, subst, ◌∙◌}
use Rattle.std.specs.List.Sorted.{IsStrictlySortedBy}
use Rattle.base_sorted.specs.Sets.{union}
use Rattle.base_trees.specs.Trees.{items_of}
use Rattle.base_trees.proofs.Splits.{sorted_left, sorted_right}
use Rattle.base_trees.proofs.Grown.{shorter}
use Rattle.base_sorted.proofs.Pours.{union_swap}
use Rattle.base_trees.proofs.Cuts.{tree_parts, sorted_before, sorted_after, merged_is, merged_all}
use Rattle.base_trees.proofs.merge.+merged.Goals as goal

pub merged-requires : goal.merged-requires
merged-requires g t c κs within =
    let l = items_of c.deref-2.inside.left in
    let k = c.deref-2.inside.item in
    let r = items_of c.deref-2.inside.right in
    let whole = items_of c.args.into.now in
    let parts : whole ≡ l ++ k ∷ r = tree_parts _ _ _ _ c.in-Some.is c.deref.ensures c.deref-2.view_is in
    let o = g.met.T.Ord.total in
    let cut = c.in_ok-before in
    let sorted = subst (IsStrictlySortedBy g.T.Ord.cmp) parts c.requires.into_sorted in
    let other = sorted_before o k (items_of c.args.from.now) (items_of cut.before) cut.field-0-1 (items_of cut.after) cut.ensures c.requires.from_sorted in
    search (rules, other, sorted_left o l k r sorted, (shorter l k r whole parts).0)

pub merged-requires-2 : goal.merged-requires-2
merged-requires-2 g t c κs within =
    let l = items_of c.deref-2.inside.left in
    let k = c.deref-2.inside.item in
    let r = items_of c.deref-2.inside.right in
    let whole = items_of c.args.into.now in
    let parts : whole ≡ l ++ k ∷ r = tree_parts _ _ _ _ c.in-Some.is c.deref.ensures c.deref-2.view_is in
    let o = g.met.T.Ord.total in
    let cut = c.in_ok-before in
    let sorted = subst (IsStrictlySortedBy g.T.Ord.cmp) parts c.requires.into_sorted in
    let other = sorted_after o k (items_of c.args.from.now) (items_of cut.before) cut.field-0-1 (items_of cut.after) cut.ensures c.requires.from_sorted in
    search (rules, other, sorted_right o l k r sorted, (shorter l k r whole parts).1)

pub returns-in_default : goal.returns-in_default
returns-in_default g t c =
    let from = items_of c.args.from.now in
    let into = items_of c.args.into.now in
    let is : from ≡ union g.T.Ord.cmp from into =
    ap (λ z. union g.T.Ord.cmp (items_of z) from) (sym c.in_default.is) ∙ union_swap g.met.T.Ord.total g.met.T.Key.exact from into c.requires.from_sorted c.requires.into_sorted in
    rw (← is) c.shared-in_default.ensures

pub relinked-requires : goal.relinked-requires
relinked-requires g t c =
    let l = items_of c.deref-2.inside.left in
    let k = c.deref-2.inside.item in
    let r = items_of c.deref-2.inside.right in
    let whole = items_of c.args.into.now in
    let parts : whole ≡ l ++ k ∷ r = tree_parts _ _ _ _ c.in-Some.is c.deref.ensures c.deref-2.view_is in
    let cut = c.in_ok-before in
    merged_all g.met.T.Ord.total k (items_of c.args.from.now) (items_of cut.before) (items_of cut.after) l r whole (items_of c.in_ok-low.low) (items_of c.in_ok-high.high) cut.field-0-1 cut.ensures parts c.in_ok-low.ensures c.in_ok-high.ensures

pub returns : goal.returns
returns g t c =
    let l = items_of c.deref-2.inside.left in
    let k = c.deref-2.inside.item in
    let r = items_of c.deref-2.inside.right in
    let whole = items_of c.args.into.now in
    let parts : whole ≡ l ++ k ∷ r = tree_parts _ _ _ _ c.in-Some.is c.deref.ensures c.deref-2.view_is in
    let cut = c.in_ok-before in
    let is = merged_is g.met.T.Ord.total k (items_of c.args.from.now) (items_of cut.before) (items_of cut.after) l r whole (items_of c.in_ok-low.low) (items_of c.in_ok-high.high) cut.field-0-1 cut.ensures parts c.in_ok-low.ensures c.in_ok-high.ensures c.requires.into_sorted in
    subst (λ z. IfOk c.relinked.result (λ tree. items_of tree ≡ z)) is c.relinked.ensures
