use Rattle.std.proofs.Common.{◌++◌, map, ◌∙◌, subst}
use Rattle.aud_lattice.specs.Covers.{IsCover}
use Rattle.aud_lattice.specs.Covering.{cover_sorted}
use Rattle.aud_lattice.specs.Paths.{paths}
use Rattle.aud_lattice.proofs.Pathed.{cover-paths, no_path}
use Rattle.aud_lattice.proofs.cover.Cover.lists.Goals as goal

pub returns-clause-lists : goal.returns-clause-lists
returns-clause-lists g c =
    c.in_ok-push_paths.ensures.all
    ∙ (λ i. c.new-all.ensures.items i ++ map (λ p. c.new-path.ensures.items i ++ p) (paths c.self.inside.root))
    ∙ no_path (paths c.self.inside.root) ∙ c.self.view_is

pub returns-clause-cover : goal.returns-clause-cover
returns-clause-cover g c = subst (IsCover g.D.Ord.cmp) c.self.view_is (cover-paths g.D.Ord.cmp g.met.D.Ord.total g.met.D.Key.exact c.self.inside.root c.self.invariant)

pub returns-clause-least_first : goal.returns-clause-least_first
returns-clause-least_first g c = cover_sorted g.met.D.Ord.total _ (subst (IsCover g.D.Ord.cmp) c.self.view_is (cover-paths g.D.Ord.cmp g.met.D.Ord.total g.met.D.Key.exact c.self.inside.root c.self.invariant))

pub returns-in_err-push_paths-clause-cover : goal.returns-in_err-push_paths-clause-cover
returns-in_err-push_paths-clause-cover g c = subst (IsCover g.D.Ord.cmp) c.self.view_is (cover-paths g.D.Ord.cmp g.met.D.Ord.total g.met.D.Key.exact c.self.inside.root c.self.invariant)

pub returns-in_err-push_paths-clause-least_first : goal.returns-in_err-push_paths-clause-least_first
returns-in_err-push_paths-clause-least_first g c = cover_sorted g.met.D.Ord.total _ (subst (IsCover g.D.Ord.cmp) c.self.view_is (cover-paths g.D.Ord.cmp g.met.D.Ord.total g.met.D.Key.exact c.self.inside.root c.self.invariant))
