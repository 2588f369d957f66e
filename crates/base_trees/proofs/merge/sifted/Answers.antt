use Rattle.std.specs.Result.{IfOk}
use Rattle.std.proofs.Common.{◌≡◌, sym, ap, subst, ◌∙◌, length}
use Rattle.base_trees.specs.Trees.{items_of}
use Rattle.base_trees.proofs.Remains.{without_as_long}
use Rattle.base_trees.proofs.merge.sifted.Goals as goal

-- as many are left as there were
pub returns-then-len-count : goal.returns-then-len-count
returns-then-len-count g c =
    let is = without_as_long g.T.Ord.cmp (items_of c.args.xs.now) (items_of c.args.ys.now) (ap length (sym c.in_ok-left.ensures) ∙ sym c.in_ok-left.left.ok.0 ∙ sym c.len.ensures ∙ c.if-len-count.true ∙ c.count.ensures.is) in
    subst (λ z. IfOk c.shared.result (λ tree. items_of tree ≡ z)) (sym is) c.shared.ensures
