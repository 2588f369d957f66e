use Rattle.std.proofs.Common.{◌≡◌, ◌∙◌}
use Rattle.base_sorted.specs.Sets.{union}
use Rattle.base_trees.specs.Trees.{items_of}
use Rattle.base_values.proofs.Results.{if_both}
use Rattle.base_sorted.proofs.Leftovers.{union_of_new}
use Rattle.base_trees.proofs.merge.grown.Goals as goal

pub returns-in_ok-new-2 : goal.returns-in_ok-new-2
returns-in_ok-new-2 g c =
    let from = items_of c.args.from.now in
    let into = items_of c.args.into.now in
    let new = items_of c.in_ok-new-2.new in
    let is : union g.T.Ord.cmp new into ≡ union g.T.Ord.cmp from into =
    (λ i. union g.T.Ord.cmp ((c.in_ok-new-2.ensures ∙ c.in_ok-new.ensures) i) into) ∙ union_of_new g.met.T.Ord.total g.met.T.Key.exact from into c.requires in
    if_both c.poured-then-len-few.result (λ t. items_of t ≡ union g.T.Ord.cmp new into) (λ t. items_of t ≡ union g.T.Ord.cmp new into) _ (λ t e _. e ∙ is) c.poured-then-len-few.ensures c.poured-then-len-few.ensures
