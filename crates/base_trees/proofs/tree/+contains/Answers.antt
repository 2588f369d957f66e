use Rattle.std.proofs.Common.{rules, ◌≡◌, ◌∷◌, ◌++◌, sym, ap, subst, ◌∙◌}
use Rattle.std.specs.List.Sorted.{IsStrictlySortedBy}
use Rattle.base_sorted.specs.Sets.{has}
use Rattle.base_trees.specs.Trees.{items_of}
use Rattle.base_trees.proofs.Splits.{sorted_left, sorted_right, has_left, has_right}
use Rattle.base_trees.proofs.Grown.{shorter}
use Rattle.base_trees.proofs.tree.+contains.Goals as goal

pub contains-requires : goal.contains-requires
contains-requires g t c κs within =
    let l = items_of c.deref-2.inside.left in
    let k = c.deref-2.inside.item in
    let r = items_of c.deref-2.inside.right in
    let parts : items_of c.args.tree.now ≡ l ++ k ∷ r = ap items_of c.in-Some.is ∙ sym c.deref.ensures ∙ sym c.deref-2.view_is in
    let sorted = subst (IsStrictlySortedBy g.T.Ord.cmp) parts c.requires in
    search (rules, sorted_left g.met.T.Ord.total l k r sorted, (shorter l k r (items_of c.args.tree.now) parts).0)

pub contains-requires-in-Greater : goal.contains-requires-in-Greater
contains-requires-in-Greater g t c κs within =
    let l = items_of c.deref-2.inside.left in
    let k = c.deref-2.inside.item in
    let r = items_of c.deref-2.inside.right in
    let parts : items_of c.args.tree.now ≡ l ++ k ∷ r = ap items_of c.in-Some.is ∙ sym c.deref.ensures ∙ sym c.deref-2.view_is in
    let sorted = subst (IsStrictlySortedBy g.T.Ord.cmp) parts c.requires in
    search (rules, sorted_right g.met.T.Ord.total l k r sorted, (shorter l k r (items_of c.args.tree.now) parts).1)

pub returns-in-Less : goal.returns-in-Less
returns-in-Less g t c =
    let l = items_of c.deref-2.inside.left in
    let k = c.deref-2.inside.item in
    let r = items_of c.deref-2.inside.right in
    let parts : items_of c.args.tree.now ≡ l ++ k ∷ r = ap items_of c.in-Some.is ∙ sym c.deref.ensures ∙ sym c.deref-2.view_is in
    let sorted = subst (IsStrictlySortedBy g.T.Ord.cmp) parts c.requires in
    c.contains.ensures ∙ sym (has_left g.met.T.Ord.total c.args.item.now l k r (sym c.cmp.ensures ∙ c.in-Less.is) sorted) ∙ ap (λ all. has g.T.Ord.cmp all c.args.item.now) (sym parts)

pub returns-in-Greater : goal.returns-in-Greater
returns-in-Greater g t c =
    let l = items_of c.deref-2.inside.left in
    let k = c.deref-2.inside.item in
    let r = items_of c.deref-2.inside.right in
    let parts : items_of c.args.tree.now ≡ l ++ k ∷ r = ap items_of c.in-Some.is ∙ sym c.deref.ensures ∙ sym c.deref-2.view_is in
    let sorted = subst (IsStrictlySortedBy g.T.Ord.cmp) parts c.requires in
    c.contains-in-Greater.ensures ∙ sym (has_right g.met.T.Ord.total c.args.item.now l k r (sym c.cmp.ensures ∙ c.in-Greater.is) sorted) ∙ ap (λ all. has g.T.Ord.cmp all c.args.item.now) (sym parts)
