use Rattle.std.proofs.Common.{◌≡◌}
use Rattle.aud_lattice.specs.Walks.{walk, IsTrie}
use Rattle.aud_lattice.specs.Paths.{paths}
use Rattle.base_values.proofs.Results.{if_both}
use Rattle.aud_lattice.proofs.Pathed.{same_paths}
use Rattle.aud_lattice.proofs.cover.copied_trie.Goals as goal

pub returns-clause-same : goal.returns-clause-same
returns-clause-same g c =
    let old = c.args.root.now in
    if_both c.copied.result (IsTrie g.D.Ord.cmp) (λ t. walk g.D.Ord.cmp t ≡ walk g.D.Ord.cmp old) (λ t. paths t ≡ paths old)
    (λ t good same. same_paths g.D.Ord.cmp g.met.D.Ord.total g.met.D.Key.exact old t c.requires good same) c.copied.ensures.good c.copied.ensures.same
