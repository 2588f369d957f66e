use Rattle.std.proofs.Common.{sym, ap, subst, ◌∙◌}
use Rattle.std.specs.List.Sorted.{IsStrictlySortedBy}
use Rattle.base_sorted.specs.Sets.{inserted}
use Rattle.base_sorted.specs.Sorted.{sorted_with_item}
use Rattle.base_trees.specs.Trees.{items_of}
use Rattle.base_sorted.proofs.Pours.{inserted_union}
use Rattle.base_trees.proofs.merge.poured.Goals as goal

pub loop-item-preserved : goal.loop-item-preserved
loop-item-preserved g c = record {
  sorted = subst (IsStrictlySortedBy g.T.Ord.cmp) (sym c.in_ok-all-2.ensures) (sorted_with_item g.met.T.Ord.total c.in-Some.item.now (items_of c.loop-item.all) c.loop-item.invariant.sorted);
  rest = ap (inserted g.T.Ord.cmp c.next.new.self) c.in_ok-all-2.ensures ∙ (λ i. inserted g.T.Ord.cmp (sym c.in-Some.ensures.steps i) (items_of c.loop-item.all)) ∙ c.loop-item.invariant.rest;
}

pub returns : goal.returns
returns g c =
    (λ i. inserted g.T.Ord.cmp (sym c.in-None.ensures.steps.0 i) (items_of c.loop-item.all))
    ∙ c.loop-item.invariant.rest
    ∙ inserted_union g.met.T.Ord.total g.met.T.Key.exact (items_of c.args.from.now) (items_of c.args.into.now) c.requires
