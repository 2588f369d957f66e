use Rattle.std.proofs.Common.{sym, subst}
use Rattle.std.proofs.lemmas.Option.{MatchOption-at_some, MatchOption-at_none}
use Rattle.std.specs.List.Sorted.{IsStrictlySortedBy}
use Rattle.base_sorted.specs.Sorted.{sorted_with_item}
use Rattle.base_sorted.proofs.Members.{contains_grown}
use Rattle.base_trees.proofs.Splits.{with_there}
use Rattle.aud_lattice.proofs.union_set.UnionSet.insert.Goals as goal

-- an item that is there changes nothing
pub returns-in_default-clause-ok : goal.returns-in_default-clause-ok
returns-in_default-clause-ok g c =
    rw (← c.self.view_is) (sym (with_there g.met.T.Ord.total _ _ (MatchOption-at_none _ _ c.in_default.is c.in_ok-root.ensures) c.self.invariant))

pub returns-in_default-clause-members : goal.returns-in_default-clause-members
returns-in_default-clause-members g c =
    let o = g.met.T.Ord.total in
    rw (← c.self.view_is)
    (contains_grown o g.met.T.Key.exact _ _ _ (sym (with_there o _ _ (MatchOption-at_none _ _ c.in_default.is c.in_ok-root.ensures) c.self.invariant)))

pub returns-clause-members : goal.returns-clause-members
returns-clause-members g c =
    rw (← c.self.view_is) (contains_grown g.met.T.Ord.total g.met.T.Key.exact _ _ _ (MatchOption-at_some _ _ _ c.in-Some.is c.in_ok-root.ensures).1)

pub invariant_of-self : goal.invariant_of-self
invariant_of-self g c =
    subst (IsStrictlySortedBy g.T.Ord.cmp) (sym (MatchOption-at_some _ _ _ c.in-Some.is c.in_ok-root.ensures).1) (sorted_with_item g.met.T.Ord.total _ _ c.self.invariant)
