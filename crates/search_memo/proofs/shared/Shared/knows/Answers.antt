use Rattle.std.specs.Prelude.{ℕ}
use Rattle.std.proofs.Common.{◌∙◌, subst}
use Rattle.search_visited.specs.Visited.{with_place}
use Rattle.search_memo.specs.Known.{IsRefutedAtWord}
use Rattle.search_memo.proofs.SharedLemmas.{refuted-marks, length-further}
use Rattle.search_memo.proofs.shared.Shared.knows.Goals as goal

pub returns : goal.returns
returns g c = λ it.
    let marks = c.args.placed.now in
    refuted-marks g.J.Scene.shape c.args.states.now.now c.in-Some.word (with_place marks c.args.further) c.in-Some.ensures (length-further marks c.args.further ∙ c.requires.rows)
    (subst (λ (w : ℕ). IsRefutedAtWord g.J.Scene.shape c.args.states.now.now w) c.probe_of.ensures (c.has.ensures it))
