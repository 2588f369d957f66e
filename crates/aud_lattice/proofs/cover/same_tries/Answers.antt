use Rattle.std.proofs.Common.{◌∙◌, sym, ap}
use mathlib.Core.Bool.{true≢false}
use Rattle.aud_lattice.specs.Covers.{covers}
use Rattle.aud_lattice.proofs.Pathed.{both_within, paths_within, same_covered}
use Rattle.aud_lattice.proofs.cover.same_tries.Goals as goal

pub returns-then-is_within-clause-same : goal.returns-then-is_within-clause-same
returns-then-is_within-clause-same g c =
    let x = c.args.x.now in
    let y = c.args.y.now in (
      λ e. both_within g.D.Ord.cmp g.met.D.Ord.total g.met.D.Key.exact x y c.requires.x c.requires.y (c.is_within.ensures.0 c.if-is_within.true) (c.is_within-then-is_within.ensures.0 e),
      λ e. c.is_within-then-is_within.ensures.1 (paths_within g.D.Ord.cmp g.met.D.Ord.total g.met.D.Key.exact y x c.requires.y c.requires.x (sym e)),
    )

pub returns-then-is_within-clause-covers : goal.returns-then-is_within-clause-covers
returns-then-is_within-clause-covers g c =
    let x = c.args.x.now in
    let y = c.args.y.now in (
      λ e. ap (covers g.D.Ord.cmp) (both_within g.D.Ord.cmp g.met.D.Ord.total g.met.D.Key.exact x y c.requires.x c.requires.y (c.is_within.ensures.0 c.if-is_within.true) (c.is_within-then-is_within.ensures.0 e)),
      λ e. c.is_within-then-is_within.ensures.1 (paths_within g.D.Ord.cmp g.met.D.Ord.total g.met.D.Key.exact y x c.requires.y c.requires.x (sym (same_covered g.D.Ord.cmp g.met.D.Ord.total g.met.D.Key.exact x y c.requires.x c.requires.y e))),
    )

pub returns-else-is_within-clause-same : goal.returns-else-is_within-clause-same
returns-else-is_within-clause-same g c =
    let x = c.args.x.now in
    let y = c.args.y.now in (
      λ e. absurd (true≢false (sym e)),
      λ e. absurd (true≢false (sym (c.is_within.ensures.1 (paths_within g.D.Ord.cmp g.met.D.Ord.total g.met.D.Key.exact x y c.requires.x c.requires.y e)) ∙ c.if-is_within.false)),
    )

pub returns-else-is_within-clause-covers : goal.returns-else-is_within-clause-covers
returns-else-is_within-clause-covers g c =
    let x = c.args.x.now in
    let y = c.args.y.now in (
      λ e. absurd (true≢false (sym e)),
      λ e. absurd (true≢false (sym (c.is_within.ensures.1 (paths_within g.D.Ord.cmp g.met.D.Ord.total g.met.D.Key.exact x y c.requires.x c.requires.y (same_covered g.D.Ord.cmp g.met.D.Ord.total g.met.D.Key.exact x y c.requires.x c.requires.y e))) ∙ c.if-is_within.false)),
    )
