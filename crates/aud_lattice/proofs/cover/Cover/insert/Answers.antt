use Rattle.std.proofs.Common.{◌≡◌, [], ◌∷◌}
use Rattle.aud_lattice.specs.Covers.{with_list}
use Rattle.aud_lattice.proofs.Minimal.{kept, keeps}
use Rattle.aud_lattice.specs.Paths.{paths}
use Rattle.base_values.proofs.Results.{on_ok}
use Rattle.aud_lattice.proofs.Pathed.{cover-paths}
use Rattle.aud_lattice.proofs.cover.Cover.insert.Goals as goal

pub returns-clause-kept : goal.returns-clause-kept
returns-clause-kept g c =
    let o = g.met.D.Ord.total in
    let ex = g.met.D.Key.exact in
    let old = paths c.self.inside.root in
    let list = c.args.list.now in
    let cover = cover-paths g.D.Ord.cmp g.met.D.Ord.total g.met.D.Key.exact c.self.inside.root c.self.invariant in
    rw (← c.self.view_is)
    (on_ok c.put.result (paths c.put.new.root ≡ with_list g.D.Ord.cmp list old) _
    (λ e. rw e (λ p. (kept o ex (list ∷ []) old cover p, keeps o ex (list ∷ []) old cover p)))
    c.put.ensures.ok)
