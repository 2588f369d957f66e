use Rattle.std.proofs.Common.{◌++◌, sym, ap, ◌∙◌, append-nil}
use Rattle.base_sorted.specs.Sets.{without}
use Rattle.base_trees.specs.Trees.{items_of}
use Rattle.base_sorted.proofs.Leftovers.{without_more}
use Rattle.base_trees.proofs.merge.left_over.Goals as goal

pub loop-item-preserved : goal.loop-item-preserved
loop-item-preserved g c =
    let ys = items_of c.args.ys.now in
    ap (λ all. all ++ without g.T.Ord.cmp c.next.new.self ys) c.in_ok-put_new.ensures
    ∙ without_more g.T.Ord.cmp c.in-Some.item.now c.next.new.self ys c.loop-item.all.items
    ∙ (λ i. c.loop-item.all.items ++ without g.T.Ord.cmp (sym c.in-Some.ensures.steps i) ys)
    ∙ c.loop-item.invariant

pub returns : goal.returns
returns g c =
    sym (append-nil c.loop-item.all.items)
    ∙ (λ i. c.loop-item.all.items ++ without g.T.Ord.cmp (sym c.in-None.ensures.steps.0 i) (items_of c.args.ys.now))
    ∙ c.loop-item.invariant
