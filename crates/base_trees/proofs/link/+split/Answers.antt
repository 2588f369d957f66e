use Rattle.std.proofs.Common.{rules, ◌≡◌, ◌∷◌, ◌++◌, sym, subst, ◌∙◌}
use Rattle.std.specs.List.Sorted.{IsStrictlySortedBy}
use Rattle.base_trees.specs.Trees.{items_of}
use Rattle.base_trees.proofs.Splits.{sorted_left, sorted_right}
use Rattle.base_trees.proofs.Grown.{shorter}
use Rattle.base_trees.proofs.Cuts.{tree_parts, cut_left, cut_right, cut_middle, all_of_left, all_of_right}
use Rattle.base_trees.proofs.link.+split.Goals as goal

pub split-requires : goal.split-requires
split-requires g t c κs within =
    let l = items_of c.deref-2.inside.left in
    let k = c.deref-2.inside.item in
    let r = items_of c.deref-2.inside.right in
    let parts : items_of c.args.tree.now ≡ l ++ k ∷ r = tree_parts _ _ _ _ c.in-Some.is c.deref.ensures c.deref-2.view_is in
    let sorted = subst (IsStrictlySortedBy g.T.Ord.cmp) parts c.requires in
    search (rules, sorted_left g.met.T.Ord.total l k r sorted, (shorter l k r (items_of c.args.tree.now) parts).0)

pub split-requires-in-Greater : goal.split-requires-in-Greater
split-requires-in-Greater g t c κs within =
    let l = items_of c.deref-2.inside.left in
    let k = c.deref-2.inside.item in
    let r = items_of c.deref-2.inside.right in
    let parts : items_of c.args.tree.now ≡ l ++ k ∷ r = tree_parts _ _ _ _ c.in-Some.is c.deref.ensures c.deref-2.view_is in
    let sorted = subst (IsStrictlySortedBy g.T.Ord.cmp) parts c.requires in
    search (rules, sorted_right g.met.T.Ord.total l k r sorted, (shorter l k r (items_of c.args.tree.now) parts).1)

pub relinked-requires : goal.relinked-requires
relinked-requires g t c =
    let l = items_of c.deref-2.inside.left in
    let k = c.deref-2.inside.item in
    let r = items_of c.deref-2.inside.right in
    let whole = items_of c.args.tree.now in
    let parts : whole ≡ l ++ k ∷ r = tree_parts _ _ _ _ c.in-Some.is c.deref.ensures c.deref-2.view_is in
    let b = c.in_ok-before-in-Less in
    all_of_left c.args.item.now l k r whole (items_of b.before) b.is_there (items_of b.between) (items_of c.in_ok-shared-in-Less.field-0) parts b.ensures c.in_ok-shared-in-Less.ensures

pub relinked-requires-in-Greater : goal.relinked-requires-in-Greater
relinked-requires-in-Greater g t c =
    let l = items_of c.deref-2.inside.left in
    let k = c.deref-2.inside.item in
    let r = items_of c.deref-2.inside.right in
    let whole = items_of c.args.tree.now in
    let parts : whole ≡ l ++ k ∷ r = tree_parts _ _ _ _ c.in-Some.is c.deref.ensures c.deref-2.view_is in
    let b = c.in_ok-between-in-Greater in
    all_of_right c.args.item.now l k r whole (items_of b.between) b.is_there (items_of b.after) (items_of c.in_ok-shared-in-Greater.field-0) parts b.ensures c.in_ok-shared-in-Greater.ensures

pub returns-in_ok-after-in-Less : goal.returns-in_ok-after-in-Less
returns-in_ok-after-in-Less g t c =
    let l = items_of c.deref-2.inside.left in
    let k = c.deref-2.inside.item in
    let r = items_of c.deref-2.inside.right in
    let whole = items_of c.args.tree.now in
    let parts : whole ≡ l ++ k ∷ r = tree_parts _ _ _ _ c.in-Some.is c.deref.ensures c.deref-2.view_is in
    let b = c.in_ok-before-in-Less in
    let made : items_of c.in_ok-after-in-Less.after ≡ items_of b.between ++ k ∷ r = c.in_ok-after-in-Less.ensures ∙ (λ i. items_of b.between ++ k ∷ c.in_ok-shared-in-Less.ensures i) in
    cut_left g.met.T.Ord.total c.args.item.now l k r whole (items_of b.before) b.is_there (items_of b.between) (items_of c.in_ok-after-in-Less.after) (sym c.cmp.ensures ∙ c.in-Less.is) parts c.requires b.ensures made

pub returns-in_ok-shared-in-Equal-2 : goal.returns-in_ok-shared-in-Equal-2
returns-in_ok-shared-in-Equal-2 g t c =
    let l = items_of c.deref-2.inside.left in
    let k = c.deref-2.inside.item in
    let r = items_of c.deref-2.inside.right in
    let whole = items_of c.args.tree.now in
    let parts : whole ≡ l ++ k ∷ r = tree_parts _ _ _ _ c.in-Some.is c.deref.ensures c.deref-2.view_is in
    cut_middle g.met.T.Ord.total g.met.T.Key.exact c.args.item.now l k r whole (items_of c.in_ok-shared-in-Equal.field-0) (items_of c.in_ok-shared-in-Equal-2.field-0) (sym c.cmp.ensures ∙ c.in-Equal.is) parts c.requires c.in_ok-shared-in-Equal.ensures c.in_ok-shared-in-Equal-2.ensures

pub returns-in_ok-before-in-Greater : goal.returns-in_ok-before-in-Greater
returns-in_ok-before-in-Greater g t c =
    let l = items_of c.deref-2.inside.left in
    let k = c.deref-2.inside.item in
    let r = items_of c.deref-2.inside.right in
    let whole = items_of c.args.tree.now in
    let parts : whole ≡ l ++ k ∷ r = tree_parts _ _ _ _ c.in-Some.is c.deref.ensures c.deref-2.view_is in
    let b = c.in_ok-between-in-Greater in
    let made : items_of c.in_ok-before-in-Greater.before ≡ l ++ k ∷ items_of b.between = c.in_ok-before-in-Greater.ensures ∙ (λ i. c.in_ok-shared-in-Greater.ensures i ++ k ∷ items_of b.between) in
    cut_right g.met.T.Ord.total c.args.item.now l k r whole (items_of b.between) b.is_there (items_of c.in_ok-before-in-Greater.before) (items_of b.after) (sym c.cmp.ensures ∙ c.in-Greater.is) parts c.requires b.ensures made
