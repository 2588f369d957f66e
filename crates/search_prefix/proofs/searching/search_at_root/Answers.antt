use Rattle.std.specs.Prelude.{[]}
use Rattle.std.proofs.Common.{◌∙◌, ap}
use Rattle.aud_order.specs.Cursors.{CursorOf}
use Rattle.search_prefix.proofs.Steps.{whole-witness}
use Rattle.search_prefix.proofs.searching.search_at_root.Goals as goal

pub returns-then-full : goal.returns-then-full
returns-then-full g c =
    (whole-witness c.args.shape.now c.args.cursor.now [] c.in_ok-witness.witness c.requires.root c.prefix-good.ensures.good (c.full.ensures.0 c.if-full.true)
    (c.in_ok-witness.ensures ∙ c.prefix.ensures.prefix ∙ ap (λ (v : CursorOf). v.path) c.requires.root)).1
